-- `marks::fill_floats` meets its contract. Assumes nothing.
use Rattle.std.proofs.Common.{ℕ, ◌/◌, rules}
use lib.Ieee.{binary32, of_int}
use Rattle.std.proofs.Common.{pos}
use Rattle.replay.proofs.marks.fill_floats.Goals as goal

pub returns : goal.returns
returns c = c.fill.ensures (λ (x : ℕ). of_int binary32 (pos x)) (λ x r l p. search rules)
