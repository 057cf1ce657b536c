-- `number_floats::whole::floor_f64` meets its contract: the library's floor is the definition's. Assumes nothing.
use mathlib.Core.Path.{◌≡◌, refl, ap, ◌∙◌}
use mathlib.Core.Bool.{true, false}
use Prim.Native.Nat.{ℕ, ◌+◌, ◌-◌, ◌*◌, ◌/◌}
use native.Mathlib.Omega.{arith}
use lib.Ieee.{Float, nan, inf, fin, binary64, round, up, down}
use Rattle.std.specs.Float as Std
use Rattle.std.specs.Float.{round_with}
use Rattle.number_floats.specs.Whole.{floor}
use lib.Ieee.Fits.{down_pos}
use Rattle.number_floats.proofs.whole.floor_f64.Goals as goal

same : (y : Float) → Std.floor binary64 y ≡ floor y
unfolding round_with
same nan = refl
same (inf s) = refl
same (fin false m e) = refl
same (fin true m e) = let h = down_pos e in ap (λ (a : ℕ). round binary64 true (a / down e) 1) (omega arith)

pub returns : goal.returns
returns c = c.floor.ensures ∙ same c.args.y
