-- `number_exp_lanes::lanes::series_lanes` meets its contract. The invariant is that of `series_of`, in each lane. Assumes nothing.
use mathlib.Core.Path.{◌≡◌}
use mathlib.Core.List.{List}
use Prim.Native.Nat.{ℕ, ◌-◌, ◌≤◌, ◌<◌}
use lib.ListN.{length, get_or}
use lib.Ieee.{Float, nan}
use Rattle.number_exp_tanh.specs.Exp.{series}
use Rattle.number_floats.specs.Constants.{one64}
use Rattle.number_exp_lanes.proofs.lanes.series_lanes.Given as goal

-- what is left of each lane's series, from p at i on, is that from 1 at 10 on
abbrev pub Left : List Float → List Float → ℕ → Type 0
Left r p i = (l : ℕ) → l < 16 → series (get_or r l nan) i (get_or p l nan) ≡ series (get_or r l nan) 10 one64

abbrev pub invariant-loop-i : goal.invariant-loop-i
invariant-loop-i l = (1 ≤ l.i) × (length l.p ≡ 16) × Left l.r l.p (l.i - 1)
