-- `encoder_attention::heads::gather` meets its contract. Assumes nothing.
use mathlib.Core.Path.{◌≡◌}
use mathlib.Core.List.{List}
use Prim.Native.Nat.{ℕ, ◌+◌, ◌*◌, ◌≤◌}
use lib.ListN.{length, get_or}
use lib.Ieee.{Float, nan}
use Rattle.buffers.specs.Region.{region, put}
use Rattle.buffers.specs.Rows.{grid}
use Rattle.encoder_attention.proofs.heads.gather.Given as goal

-- place d of value j
abbrev pub place : List Float → ℕ → ℕ → ℕ → ℕ → ℕ → ℕ → Float
place s v t dim o j d = get_or (region s v (t * dim)) (j * dim + (o + d)) nan

abbrev pub invariant-loop-j : goal.invariant-loop-j
invariant-loop-j l = (l.j ≤ l.t) × (length l.s ≡ length l.initial.s) × (l.s ≡ put l.initial.s l.g (grid l.j l.hd (place l.initial.s l.v l.t l.dim l.o)))
