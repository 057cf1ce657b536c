-- `encoder_linear::lanes::lanes_at` meets its contract. Assumes nothing.
use mathlib.Core.Path.{◌≡◌}
use mathlib.Core.List.{List}
use Prim.Native.Nat.{ℕ, ◌+◌, ◌*◌, ◌≤◌}
use lib.ListN.{get_or, replicate}
use lib.Ieee.{Float, nan}
use Rattle.number_floats.specs.Constants.{zero32}
use Rattle.encoder_linear.specs.inner.Lanes.{spread}
use Rattle.encoder_linear.proofs.lanes.lanes_at.Given as goal

-- the first i floats at p, p + m, ..
abbrev pub lanes_of : List Float → ℕ → ℕ → ℕ → List Float
lanes_of s p m i = spread (replicate 16 zero32) 0 1 i (λ k. get_or s (p + k * m) nan)

abbrev pub invariant-loop-i : goal.invariant-loop-i
invariant-loop-i l =
    (l.i ≤ l.r) × (l.first ≡ lanes_of l.s l.a l.m l.i) × (l.second ≡ lanes_of l.s l.b l.m l.i) × (l.third ≡ lanes_of l.s l.c l.m l.i) × (l.fourth ≡ lanes_of l.s l.d l.m l.i)
