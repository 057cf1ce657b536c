-- `decimal::digits` meets its contract: the digits that are left from there on follow ones for n. Assumes nothing.
use Prim.Native.Nat.{◌≤◌}
use mathlib.Core.Path.{◌≡◌}
use lib.ListN.{drop}
use Rattle.unpatch_form.specs.Decimal.{digits_from}
use Rattle.unpatch_form.proofs.decimal.digits.Given as goal

abbrev pub invariant-loop-b : goal.invariant-loop-b
invariant-loop-b l = (l.n ≤ l.most) × (digits_from 0 l.s ≡ digits_from l.n (drop l.b-index l.s))
