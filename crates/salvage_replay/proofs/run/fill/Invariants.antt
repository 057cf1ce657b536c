-- `run::fill` meets its contract: the first i places are written. Assumes nothing.
use Prim.Native.Nat.{ℕ, ◌+◌, ◌-◌, ◌*◌, ◌/◌, ◌%◌, ◌≤◌}
use mathlib.Core.Path.{◌≡◌}
use mathlib.Core.List.{List}
use lib.ListN.{length, get_or}
use Rattle.buffers.specs.Rows.{tab}
use Rattle.buffers.specs.Region.{put}
use Rattle.salvage_replay.specs.Run.{at, changed}
use Rattle.salvage_replay.proofs.run.fill.Given as goal

abbrev pub placed : List ℕ → List ℕ → List ℕ → ℕ → ℕ
placed v t b i = changed v i (get_or t (i / at v 9 % 3 * 256 + get_or b i 0) 0)

abbrev pub invariant-loop-i : goal.invariant-loop-i
invariant-loop-i l = (l.i ≤ length l.initial.to) × (length l.to ≡ length l.initial.to) × (l.to ≡ put l.initial.to 0 (tab l.i (placed l.v l.t l.bytes)))
