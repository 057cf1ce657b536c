-- `encoder_attention::places::Places::attend_token` meets its contract. Assumes nothing.
use mathlib.Core.Path.{◌≡◌, refl, ap, ◌∙◌}
use Prim.Native.Nat.{◌+◌, ◌*◌}
use native.Mathlib.Omega.{arith}
use Rattle.buffers.specs.Region.{put}
use Rattle.number_floats.specs.Constants.{zero32}
use Rattle.buffers.specs.Rows.{rows}
use Rattle.buffers.proofs.Lists.{fit}
use Rattle.encoder_attention.specs.Attention.{token_scores, token_sums}
use Rattle.buffers.specs.Each.{blank}
use Rattle.encoder_kernels.specs.Kernels.{all_finite}
use Rattle.encoder_attention.proofs.Attends.{sums_at, scores_at, token-turn}
use Rattle.encoder_attention.proofs.places.Places.attend_token.Goals as goal

pub loop-h-init : goal.loop-h-init
unfolding rows put all_finite
loop-h-init c = (omega arith, refl, refl, refl)

pub attend_head-here-requires : goal.attend_head-here-requires
attend_head-here-requires c =
    record { fits = rw c.loop-h.invariant.1 c.requires.fits; token = c.requires.token; head = c.loop-h-test.true; place = fit c.args.self.hd c.loop-h-test.true }

pub loop-h-preserved : goal.loop-h-preserved
loop-h-preserved c =
    let r = token-turn c.args.s.now c.args.self.q c.args.self.k c.args.self.v c.args.self.row c.args.self.out c.args.self.t c.args.self.heads c.args.self.hd c.args.self.scaling c.args.i c.loop-h.h
    (record { fits = c.requires.fits; token = c.requires.token; head = c.loop-h-test.true; place = fit c.args.self.hd c.loop-h-test.true }) c.loop-h.s c.attend_head-here.new.s c.loop-h.ok c.attend_head-here.result c.loop-h.invariant.2 c.loop-h.invariant.3 c.attend_head-here.ensures.value c.attend_head-here.ensures.s_after in
    (omega arith, c.attend_head-here.auto.s ∙ c.loop-h.invariant.1, r.0, r.1)

pub shape_of-s : goal.shape_of-s
shape_of-s c = c.loop-h.invariant.1

pub returns : goal.returns
unfolding token_scores token_sums
returns c =
    let z : c.loop-h.h ≡ c.args.self.heads = omega arith in record {
      value = c.loop-h.invariant.2 ∙ ap (λ n. all_finite (rows n (scores_at c.args.s.now c.args.self.q c.args.self.k c.args.self.v c.args.self.row c.args.self.out c.args.self.t c.args.self.heads c.args.self.hd c.args.self.scaling c.args.i))) z;
      s_after = c.loop-h.invariant.3 ∙ ap (λ n. put (blank zero32 c.args.self.row c.args.self.t c.args.s.now) (c.args.self.out + c.args.i * (c.args.self.heads * c.args.self.hd)) (rows n (sums_at c.args.s.now c.args.self.q c.args.self.k c.args.self.v c.args.self.row c.args.self.out c.args.self.t c.args.self.heads c.args.self.hd c.args.self.scaling c.args.i))) z;
    }
