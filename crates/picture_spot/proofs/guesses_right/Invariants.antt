-- `picture_spot::guesses_right` meets its contract. Assumes nothing.
use mathlib.Core.Path.{◌≡◌}
use Prim.Native.Nat.{◌-◌, ◌/◌, ◌%◌, ◌≤◌}
use lib.Dec.{eqb}
use lib.ListN.{get_or}
use lib.Ieee.{nan, binary32, of_bits}
use Rattle.buffers.specs.Rows.{all}
use Rattle.picture_spot.specs.inner.Spot.{guessed}
use Rattle.picture_spot.proofs.guesses_right.Given as goal

abbrev pub invariant-loop-i : goal.invariant-loop-i
invariant-loop-i l = (l.i ≤ 768) × (l.ok ≡ all l.i (λ j. eqb (guessed (get_or l.slope (j / 256) nan) (get_or l.shift (j / 256) nan) (of_bits binary32 (get_or l.t j 0))) (j % 256)))
