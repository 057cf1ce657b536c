-- `encoder_attention::attention::turn_keys` meets its contract: the columns are filled one after another. Assumes nothing.
use mathlib.Core.Path.{◌≡◌}
use mathlib.Core.List.{List}
use Prim.Native.Nat.{ℕ, ◌+◌, ◌*◌, ◌≤◌}
use lib.ListN.{length, get_or}
use lib.Ieee.{Float, nan}
use Rattle.buffers.specs.Region.{region}
use Rattle.encoder_linear.specs.inner.Lanes.{filled}
use Rattle.encoder_attention.proofs.attention.turn_keys.Given as goal

-- place d of key i
abbrev pub place : List Float → ℕ → ℕ → ℕ → ℕ → ℕ → Float
place s k t dim d i = get_or (region s k (t * dim)) (i * dim + d) nan

abbrev pub invariant-loop-j : goal.invariant-loop-j
invariant-loop-j l = (l.j ≤ l.t) × (length l.s ≡ length l.initial.s) × (l.s ≡ filled l.initial.s l.kt l.t l.dim l.j (place l.initial.s l.k l.t l.dim))
