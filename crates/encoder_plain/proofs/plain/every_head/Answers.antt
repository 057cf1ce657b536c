-- `encoder_plain::plain::every_head` meets its contract. Assumes nothing.
use mathlib.Core.Path.{◌≡◌, refl, sym, ap, ◌∙◌}
use Prim.Native.Nat.{◌+◌, ◌*◌}
use native.Mathlib.Omega.{arith}
use Rattle.number_floats.specs.Constants.{zero32}
use Rattle.buffers.specs.Rows.{rows}
use Rattle.buffers.specs.Region.{region, put_rows}
use Rattle.buffers.specs.Each.{blank}
use Rattle.encoder_kernels.specs.Kernels.{all_finite}
use Rattle.encoder_attention.proofs.Bands.{puts_none}
use Rattle.encoder_plain.specs.Plain.{floats, scores, soft_rows, sums, all_scores}
use Rattle.encoder_plain.proofs.Heads.{heads-turn, heads-end}
use Rattle.encoder_plain.proofs.plain.every_head.Goals as goal

pub loop-h-init : goal.loop-h-init
unfolding rows all_finite
loop-h-init c =
    (omega arith, refl, refl, sym (puts_none (blank zero32 c.args.p.row (c.args.p.t * c.args.p.t) c.args.s.now) (λ i. c.args.p.out + i * (c.args.p.heads * c.args.p.hd)) c.args.p.t))

pub one_head-here-requires : goal.one_head-here-requires
one_head-here-requires c = (rw c.loop-h.invariant.1 c.requires, c.loop-h-test.true)

pub loop-h-preserved : goal.loop-h-preserved
loop-h-preserved c =
    let r = heads-turn c.args.s.now c.args.p.q c.args.p.k c.args.p.v c.args.p.row c.args.p.out c.args.p.t c.args.p.heads c.args.p.hd c.args.p.scaling c.requires c.loop-h.h c.loop-h-test.true c.loop-h.s c.one_head-here.new.s c.loop-h.ok c.one_head-here.result c.loop-h.invariant.2 c.loop-h.invariant.3 c.one_head-here.ensures.value c.one_head-here.ensures.s_after in
    (omega arith, c.one_head-here.auto.s ∙ c.loop-h.invariant.1, r.0, r.1)

pub shape_of-s : goal.shape_of-s
shape_of-s c = c.loop-h.invariant.1

pub returns : goal.returns
unfolding all_scores
returns c =
    let e : c.loop-h.h ≡ c.args.p.heads = omega arith in
    let n = floats c.args.p.t c.args.p.heads c.args.p.hd in record {
      value = c.loop-h.invariant.2 ∙ ap (λ j. all_finite (rows j (scores c.args.p.t c.args.p.heads c.args.p.hd c.args.p.scaling (region c.args.s.now c.args.p.q n) (region c.args.s.now c.args.p.k n)))) e;
      s_after = heads-end c.args.s.now c.args.p.q c.args.p.k c.args.p.v c.args.p.row c.args.p.out c.args.p.t c.args.p.heads c.args.p.hd c.args.p.scaling c.requires c.loop-h.s
          (c.loop-h.invariant.3 ∙ ap (λ j. put_rows (blank zero32 c.args.p.row (c.args.p.t * c.args.p.t) c.args.s.now) c.args.p.t (λ i. c.args.p.out + i * (c.args.p.heads * c.args.p.hd))
          (λ i. rows j (λ h. sums c.args.p.t c.args.p.heads c.args.p.hd (region c.args.s.now c.args.p.v n) (soft_rows c.args.p.t (scores c.args.p.t c.args.p.heads c.args.p.hd c.args.p.scaling (region c.args.s.now c.args.p.q n) (region c.args.s.now c.args.p.k n) h)) h i))) e);
    }
