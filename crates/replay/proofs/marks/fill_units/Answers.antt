-- `marks::fill_units` meets its contract. Assumes nothing.
use Rattle.std.proofs.Common.{ℕ, ◌/◌, rules}
use Rattle.replay.specs.Marks.{unit_of}
use Rattle.replay.proofs.marks.fill_units.Goals as goal

pub returns : goal.returns
returns c = c.fill.ensures (λ (x : ℕ). unit_of x) (λ x r l p. search rules)
