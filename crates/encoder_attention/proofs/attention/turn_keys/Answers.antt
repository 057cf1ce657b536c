-- `encoder_attention::attention::turn_keys` meets its contract: the columns are filled one after another. Assumes nothing.
use mathlib.Core.Path.{◌≡◌, refl, ap, ◌∙◌}
use mathlib.Core.List.{List}
use Prim.Native.Nat.{ℕ, ◌+◌, ◌*◌, ◌<◌}
use native.Mathlib.Nat.{mul_comm}
use native.Mathlib.Numerals.{add-one}
use native.Mathlib.Omega.{arith}
use lib.ListN.{length, get_or}
use lib.Ieee.{Float, nan}
use Rattle.buffers.specs.Region.{region}
use Rattle.encoder_linear.specs.inner.Lanes.{spread, filled}
use Rattle.encoder_linear.proofs.Fills.{filled-all, filled_apart}
use Rattle.encoder_attention.specs.inner.Keys.{turned_keys}
use Rattle.encoder_attention.specs.inner.Fits.{TurnFits}
use Rattle.encoder_attention.proofs.attention.turn_keys.Invariants.{place}
use Rattle.encoder_attention.proofs.attention.turn_keys.Goals as goal

step : (s u z : List Float) (k kt t dim j : ℕ) → TurnFits (length s) k kt t dim → j < t → u ≡ filled s kt t dim j (place s k t dim)
    → z ≡ spread u (kt + j) t dim (λ d. get_or (region u k (t * dim)) (j * dim + d) nan) → z ≡ filled s kt t dim (j + 1) (place s k t dim)
unfolding filled
step s u z k kt t dim j g h e d =
    let same : region u k (t * dim) ≡ region s k (t * dim) =
    ap (λ x. region x k (t * dim)) e ∙ filled_apart s kt t (place s k t dim) dim j k (t * dim) (omega arith) (rw (mul_comm dim t) g.apart) in
    d ∙ rw (add-one j, same, e)

pub loop-j-init : goal.loop-j-init
unfolding filled
loop-j-init c = (omega arith, refl, refl)

pub turn_key-requires : goal.turn_key-requires
turn_key-requires c = record { fits = rw c.loop-j.invariant.1 c.requires; token = c.loop-j-test.true }

pub loop-j-preserved : goal.loop-j-preserved
loop-j-preserved c =
    let g = c.requires in
    (omega arith, c.turn_key.auto.s ∙ c.loop-j.invariant.1, step c.args.s.now c.loop-j.s _ c.args.k c.args.kt c.args.t c.args.dim c.loop-j.j g c.loop-j-test.true c.loop-j.invariant.2 c.turn_key.ensures)

pub shape_of-s : goal.shape_of-s
shape_of-s c = c.loop-j.invariant.1

pub returns : goal.returns
unfolding turned_keys
returns c =
    let P = place c.args.s.now c.args.k c.args.t c.args.dim in
    c.loop-j.invariant.2 ∙ ap (λ n. filled c.args.s.now c.args.kt c.args.t c.args.dim n P) (omega arith) ∙ filled-all c.args.s.now c.args.kt c.args.t P c.args.dim
