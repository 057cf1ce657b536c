-- `encoder_attention::places::Places::attend_queries` meets its contract. Assumes nothing.
use mathlib.Core.Path.{◌≡◌, refl, ap, ◌∙◌}
use Prim.Native.Nat.{◌+◌, ◌*◌, ◌-◌, ◌<◌}
use native.Mathlib.Omega.{arith}
use Rattle.buffers.specs.Region.{put_rows}
use Rattle.buffers.specs.Rows.{rows}
use Rattle.buffers.specs.Each.{blank}
use Rattle.number_floats.specs.Constants.{zero32}
use Rattle.encoder_kernels.specs.Kernels.{all_finite}
use Rattle.encoder_attention.proofs.Values.{scored, summed, goes}
use Rattle.encoder_attention.proofs.Pairs.{pair_turn, query-turn}
use Rattle.encoder_attention.proofs.places.Places.attend_queries.Goals as goal

pub loop-j-init : goal.loop-j-init
unfolding rows put_rows all_finite
loop-j-init c = (refl, refl, refl)

pub attend_pair-here-requires : goal.attend_pair-here-requires
attend_pair-here-requires c = rw c.loop-j.invariant.0 (record { queries = c.requires; token = omega (arith, c.loop-j-test.true) })

pub loop-j-preserved : goal.loop-j-preserved
loop-j-preserved c =
    let i = c.loop-j.j * 2 in
    let two : i + 1 < c.args.self.t = omega (arith, c.loop-j-test.true) in
    let r = pair_turn c.args.s.now c.args.self.q c.args.self.k c.args.self.v c.args.self.row c.args.self.out c.args.self.t c.args.self.heads c.args.self.hd c.args.h c.args.self.scaling c.requires i (omega (arith, two)) c.loop-j.s c.loop-j.invariant.2 two c.attend_pair-here.new.s c.loop-j.ok c.attend_pair-here.result c.loop-j.invariant.1 c.attend_pair-here.ensures.value c.attend_pair-here.ensures.s_after in
    let z : i + 2 ≡ (c.loop-j.j + 1) * 2 = omega arith in (
      c.attend_pair-here.auto.s ∙ c.loop-j.invariant.0,
      r.0 ∙ ap (λ n. all_finite (rows n (scored c.args.s.now c.args.self.q c.args.self.k c.args.self.v c.args.self.row c.args.self.out c.args.self.t c.args.self.heads c.args.self.hd c.args.h c.args.self.scaling))) z,
      r.1 ∙ ap (λ n. put_rows (blank zero32 c.args.self.row (c.args.self.t + c.args.self.t) c.args.s.now) n (goes c.args.s.now c.args.self.q c.args.self.k c.args.self.v c.args.self.row c.args.self.out c.args.self.t c.args.self.heads c.args.self.hd c.args.h c.args.self.scaling) (summed c.args.s.now c.args.self.q c.args.self.k c.args.self.v c.args.self.row c.args.self.out c.args.self.t c.args.self.heads c.args.self.hd c.args.h c.args.self.scaling)) z,
    )

pub shape_of-s-then-self-eq0 : goal.shape_of-s-then-self-eq0
shape_of-s-then-self-eq0 c = c.loop-j.invariant.0

pub returns-then-self-eq0 : goal.returns-then-self-eq0
returns-then-self-eq0 c =
    let z : c.loop-j.j * 2 ≡ c.args.self.t = omega arith in record {
      value = c.loop-j.invariant.1 ∙ ap (λ n. all_finite (rows n (scored c.args.s.now c.args.self.q c.args.self.k c.args.self.v c.args.self.row c.args.self.out c.args.self.t c.args.self.heads c.args.self.hd c.args.h c.args.self.scaling))) z;
      s_after = c.loop-j.invariant.2 ∙ ap (λ n. put_rows (blank zero32 c.args.self.row (c.args.self.t + c.args.self.t) c.args.s.now) n (goes c.args.s.now c.args.self.q c.args.self.k c.args.self.v c.args.self.row c.args.self.out c.args.self.t c.args.self.heads c.args.self.hd c.args.h c.args.self.scaling) (summed c.args.s.now c.args.self.q c.args.self.k c.args.self.v c.args.self.row c.args.self.out c.args.self.t c.args.self.heads c.args.self.hd c.args.h c.args.self.scaling)) z;
    }

pub attend_head-last-requires : goal.attend_head-last-requires
attend_head-last-requires c =
    record { fits = rw c.loop-j.invariant.0 c.requires.fits; token = omega arith; head = c.requires.head; place = omega arith }

pub shape_of-s : goal.shape_of-s
shape_of-s c = c.attend_head-last.auto.s ∙ c.loop-j.invariant.0

pub returns : goal.returns
returns c =
    let i = c.args.self.t - 1 in
    let y : c.loop-j.j * 2 ≡ i = omega arith in
    let z : i + 1 ≡ c.args.self.t = omega arith in
    let P = blank zero32 c.args.self.row (c.args.self.t + c.args.self.t) c.args.s.now in
    let a = c.loop-j.invariant.1 ∙ ap (λ n. all_finite (rows n (scored c.args.s.now c.args.self.q c.args.self.k c.args.self.v c.args.self.row c.args.self.out c.args.self.t c.args.self.heads c.args.self.hd c.args.h c.args.self.scaling))) y in
    let b = c.loop-j.invariant.2 ∙ ap (λ n. put_rows P n (goes c.args.s.now c.args.self.q c.args.self.k c.args.self.v c.args.self.row c.args.self.out c.args.self.t c.args.self.heads c.args.self.hd c.args.h c.args.self.scaling) (summed c.args.s.now c.args.self.q c.args.self.k c.args.self.v c.args.self.row c.args.self.out c.args.self.t c.args.self.heads c.args.self.hd c.args.h c.args.self.scaling)) y in
    let r = query-turn c.args.s.now c.args.self.q c.args.self.k c.args.self.v c.args.self.row c.args.self.out c.args.self.t c.args.self.heads c.args.self.hd c.args.h c.args.self.scaling c.requires i (omega arith) c.loop-j.s b (omega arith) c.attend_head-last.new.s c.loop-j.ok c.attend_head-last.result a c.attend_head-last.ensures.value c.attend_head-last.ensures.s_after in record {
      value = r.0 ∙ ap (λ n. all_finite (rows n (scored c.args.s.now c.args.self.q c.args.self.k c.args.self.v c.args.self.row c.args.self.out c.args.self.t c.args.self.heads c.args.self.hd c.args.h c.args.self.scaling))) z;
      s_after = r.1 ∙ ap (λ n. put_rows P n (goes c.args.s.now c.args.self.q c.args.self.k c.args.self.v c.args.self.row c.args.self.out c.args.self.t c.args.self.heads c.args.self.hd c.args.h c.args.self.scaling) (summed c.args.s.now c.args.self.q c.args.self.k c.args.self.v c.args.self.row c.args.self.out c.args.self.t c.args.self.heads c.args.self.hd c.args.h c.args.self.scaling)) z;
    }
