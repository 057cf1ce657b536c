-- `encoder_linear::few::add_cells` meets its contract. Assumes nothing.
use mathlib.Core.Path.{◌≡◌}
use mathlib.Core.List.{List}
use Prim.Native.Nat.{ℕ, ◌+◌, ◌*◌, ◌/◌, ◌%◌, ◌≤◌}
use lib.ListN.{length, get_or}
use lib.Ieee.{Float, nan, binary32, add, mul}
use Rattle.buffers.specs.Rows.{tab}
use Rattle.buffers.specs.Region.{put}
use Rattle.encoder_linear.proofs.few.add_cells.Given as goal

-- what is added to cell i
abbrev pub more : List Float → ℕ → List Float → ℕ → ℕ → ℕ → Float
more xt j w at nin i = mul binary32 (get_or xt (j + i % 4) nan) (get_or w (at + i / 4 * nin) nan)

-- cell i with its product
abbrev pub next : List Float → List Float → ℕ → List Float → ℕ → ℕ → ℕ → Float
next a xt j w at nin i = add binary32 (get_or a i nan) (more xt j w at nin i)

abbrev pub invariant-loop-i : goal.invariant-loop-i
invariant-loop-i l = (l.i ≤ 16) × (length l.b ≡ length l.initial.b) × (l.b ≡ put l.initial.b 0 (tab l.i (next l.initial.b l.xt l.j l.w l.at l.nin)))
