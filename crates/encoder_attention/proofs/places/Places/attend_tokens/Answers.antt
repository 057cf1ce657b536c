-- `encoder_attention::places::Places::attend_tokens` meets its contract. Assumes nothing.
use mathlib.Core.Path.{◌≡◌, refl, ap, ◌∙◌}
use Prim.Native.Nat.{◌*◌}
use native.Mathlib.Omega.{arith}
use Rattle.buffers.specs.Region.{region, put}
use Rattle.number_floats.specs.Constants.{zero32}
use Rattle.buffers.specs.Rows.{rows}
use Rattle.buffers.specs.Each.{blank}
use Rattle.encoder_attention.specs.Attention.{token_scores, scores_of, attention_of}
use Rattle.encoder_attention.specs.inner.Keys.{keys_of}
use Rattle.encoder_kernels.specs.Kernels.{all_finite}
use Rattle.encoder_attention.proofs.Attends.{token_at, attend-turn}
use Rattle.encoder_attention.proofs.places.Places.attend_tokens.Goals as goal

pub loop-i-init : goal.loop-i-init
unfolding rows put all_finite
loop-i-init c = (omega arith, refl, refl, refl)

pub attend_token-here-requires : goal.attend_token-here-requires
attend_token-here-requires c =
    record { fits = rw c.loop-i.invariant.1 c.requires; token = c.loop-i-test.true }

pub loop-i-preserved : goal.loop-i-preserved
loop-i-preserved c =
    let r = attend-turn c.args.s.now c.args.self.q c.args.self.k c.args.self.v c.args.self.row c.args.self.out c.args.self.t c.args.self.heads c.args.self.hd c.args.self.scaling c.loop-i.i
    (record { fits = c.requires; token = c.loop-i-test.true }) c.loop-i.s c.attend_token-here.new.s c.loop-i.ok c.attend_token-here.result c.loop-i.invariant.2 c.loop-i.invariant.3 c.attend_token-here.ensures.value c.attend_token-here.ensures.s_after in
    (omega arith, c.attend_token-here.auto.s ∙ c.loop-i.invariant.1, r.0, r.1)

pub shape_of-s : goal.shape_of-s
shape_of-s c = c.loop-i.invariant.1

pub returns : goal.returns
unfolding scores_of attention_of
returns c =
    let z : c.loop-i.i ≡ c.args.self.t = omega arith in record {
      value = c.loop-i.invariant.2 ∙ ap (λ n. all_finite (rows n (λ j. token_scores c.args.self.t c.args.self.heads c.args.self.hd c.args.self.scaling (region c.args.s.now c.args.self.q (c.args.self.t * (c.args.self.heads * c.args.self.hd))) (keys_of c.args.self.t (c.args.self.heads * c.args.self.hd) (region c.args.s.now c.args.self.k (c.args.self.t * (c.args.self.heads * c.args.self.hd)))) j))) z;
      s_after = c.loop-i.invariant.3 ∙ ap (λ n. put (blank zero32 c.args.self.row c.args.self.t c.args.s.now) c.args.self.out (rows n (token_at c.args.s.now c.args.self.q c.args.self.k c.args.self.v c.args.self.row c.args.self.out c.args.self.t c.args.self.heads c.args.self.hd c.args.self.scaling))) z;
    }
