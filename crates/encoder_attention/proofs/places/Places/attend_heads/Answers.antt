-- `encoder_attention::places::Places::attend_heads` meets its contract. Assumes nothing.
use mathlib.Core.Path.{◌≡◌, refl, sym, ap, ◌∙◌}
use Prim.Native.Nat.{ℕ, ◌+◌, ◌*◌, ◌<◌}
use native.Mathlib.Omega.{arith}
use Rattle.buffers.specs.Region.{put_rows}
use Rattle.buffers.specs.Rows.{rows}
use Rattle.buffers.specs.Each.{blank}
use Rattle.buffers.proofs.Lists.{fit, length-rows}
use Rattle.buffers.proofs.Puts.{puts-joined}
use Rattle.buffers.proofs.Regions.{apart-sub}
use Rattle.number_floats.specs.Constants.{zero32}
use Rattle.encoder_kernels.specs.Kernels.{all_finite}
use Rattle.encoder_attention.specs.Attention.{token_scores, token_sums, scores_of, attention_of}
use Rattle.encoder_attention.specs.inner.Fits.{GatherFits, HeadsFit}
use Rattle.encoder_attention.proofs.Attends.{sums_at, scores_at, length-sums_at}
use Rattle.encoder_attention.proofs.Bands.{puts_none, all-finite-turned}
use Rattle.encoder_attention.proofs.Values.{queries-fit, heads-turn}
use Rattle.encoder_attention.proofs.places.Places.attend_heads.Goals as goal

-- a head's values, as `gather` asks
gathers : {len q k v g out t heads hd : ℕ} (h : ℕ) → HeadsFit len q k v g out t heads hd → h < heads → GatherFits len v g t (heads * hd) hd (h * hd)
gathers {len} {q} {k} {v} {g} {out} {t} {heads} {hd} h w l =
    let r = w.spare in
    record { v_in = w.v_in; g_in = omega (arith, w.g_in); o_in = fit hd l; apart = apart-sub w.vg (omega arith) (omega arith) (omega arith) (omega arith) }

pub loop-h-init : goal.loop-h-init
unfolding rows all_finite
loop-h-init c =
    (omega arith, refl, refl, sym (puts_none (blank zero32 c.args.g (c.args.self.t * (c.args.self.heads * c.args.self.hd)) c.args.s.now) (λ i. c.args.self.out + i * (c.args.self.heads * c.args.self.hd)) c.args.self.t))

pub gather-requires : goal.gather-requires
gather-requires c = rw c.loop-h.invariant.1 (gathers c.loop-h.h c.requires c.loop-h-test.true)

pub attend_queries-here-requires : goal.attend_queries-here-requires
attend_queries-here-requires c = rw (c.gather.auto.s ∙ c.loop-h.invariant.1) (queries-fit c.loop-h.h c.requires c.loop-h-test.true)

pub loop-h-preserved : goal.loop-h-preserved
loop-h-preserved c =
    let r = heads-turn c.args.s.now c.args.self.q c.args.self.k c.args.self.v c.args.g c.args.self.out c.args.self.t c.args.self.heads c.args.self.hd c.args.self.scaling c.requires c.loop-h.h c.loop-h-test.true
    c.loop-h.s c.gather.new.s c.attend_queries-here.new.s c.loop-h.ok c.attend_queries-here.result c.loop-h.invariant.2 c.loop-h.invariant.3 c.loop-h.invariant.1 c.gather.ensures c.attend_queries-here.ensures.value c.attend_queries-here.ensures.s_after in
    (omega arith, c.attend_queries-here.auto.s ∙ c.gather.auto.s ∙ c.loop-h.invariant.1, r.0, r.1)

pub shape_of-s : goal.shape_of-s
shape_of-s c = c.loop-h.invariant.1

pub returns : goal.returns
unfolding scores_of attention_of token_scores token_sums
returns c =
    let z : c.loop-h.h ≡ c.args.self.heads = omega arith in
    let n = c.args.self.t * (c.args.self.heads * c.args.self.hd) in
    let S = scores_at c.args.s.now c.args.self.q c.args.self.k c.args.self.v c.args.g c.args.self.out c.args.self.t c.args.self.heads c.args.self.hd c.args.self.scaling in
    let F = sums_at c.args.s.now c.args.self.q c.args.self.k c.args.self.v c.args.g c.args.self.out c.args.self.t c.args.self.heads c.args.self.hd c.args.self.scaling in record {
      value = c.loop-h.invariant.2 ∙ ap (λ m. all_finite (rows m (λ j. rows c.args.self.t (λ i. S i j)))) z ∙ all-finite-turned c.args.self.t c.args.self.heads S;
      s_after = c.loop-h.invariant.3 ∙ ap (λ m. put_rows (blank zero32 c.args.g n c.args.s.now) c.args.self.t (λ i. c.args.self.out + i * (c.args.self.heads * c.args.self.hd)) (λ i. rows m (F i))) z
          ∙ puts-joined (blank zero32 c.args.g n c.args.s.now) (λ i. c.args.self.out + i * (c.args.self.heads * c.args.self.hd)) (λ i. rows c.args.self.heads (F i)) (c.args.self.heads * c.args.self.hd) c.args.self.out c.args.self.t
          (λ i. length-rows (F i) c.args.self.hd (length-sums_at c.args.s.now c.args.self.q c.args.self.k c.args.self.v c.args.g c.args.self.out c.args.self.t c.args.self.heads c.args.self.hd c.args.self.scaling i) c.args.self.heads) (λ i _. refl);
    }
