-- `name::behind` meets its contract. Assumes nothing.
use mathlib.Core.Path.{◌≡◌}
use Prim.Native.Nat.{◌-◌}
use lib.ListN.{drop}
use Rattle.json_members.specs.inner.Bytes.{behind_at}
use Rattle.json_members.proofs.name.behind.Given as goal

abbrev pub invariant-loop-x : goal.invariant-loop-x
invariant-loop-x l = (behind_at l.s l.at l.w ≡ behind_at l.s l.i (drop l.x-index l.w))
