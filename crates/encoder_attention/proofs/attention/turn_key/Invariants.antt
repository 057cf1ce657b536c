-- `encoder_attention::attention::turn_key` meets its contract: what it reads lies apart from what it has written. Assumes nothing.
use mathlib.Core.Path.{◌≡◌}
use Prim.Native.Nat.{◌+◌, ◌*◌, ◌≤◌}
use lib.ListN.{length, get_or}
use lib.Ieee.{nan}
use Rattle.buffers.specs.Region.{region}
use Rattle.encoder_linear.specs.inner.Lanes.{spread}
use Rattle.encoder_attention.proofs.attention.turn_key.Given as goal

abbrev pub invariant-loop-d : goal.invariant-loop-d
invariant-loop-d l = (l.d ≤ l.dim) × (length l.s ≡ length l.initial.s) × (l.s ≡ spread l.initial.s (l.kt + l.j) l.t l.d (λ e. get_or (region l.initial.s l.k (l.t * l.dim)) (l.j * l.dim + e) nan))
