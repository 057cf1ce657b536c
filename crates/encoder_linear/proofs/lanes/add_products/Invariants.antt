-- `encoder_linear::lanes::add_products` meets its contract. Assumes nothing.
use mathlib.Core.Path.{◌≡◌}
use mathlib.Core.List.{List}
use Prim.Native.Nat.{ℕ, ◌+◌, ◌≤◌}
use lib.ListN.{length, get_or}
use lib.Ieee.{Float, nan, binary32, add, mul}
use Rattle.buffers.specs.Rows.{tab}
use Rattle.buffers.specs.Region.{put}
use Rattle.encoder_linear.proofs.lanes.add_products.Given as goal

-- lane i with its product
abbrev pub next : List Float → List Float → ℕ → Float → ℕ → Float
next a xt j t i = add binary32 (get_or a i nan) (mul binary32 (get_or xt (j + i) nan) t)

abbrev pub invariant-loop-l : goal.invariant-loop-l
invariant-loop-l l = (l.l ≤ 16) × (length l.b ≡ length l.initial.b) × (l.b ≡ put l.initial.b 0 (tab l.l (next l.initial.b l.xt l.j l.t)))
