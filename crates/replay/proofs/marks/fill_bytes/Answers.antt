-- `marks::fill_bytes` meets its contract. Assumes nothing.
use Rattle.std.proofs.Common.{ℕ, ◌/◌, rules}
use Rattle.replay.proofs.marks.fill_bytes.Goals as goal

pub returns : goal.returns
returns c = c.fill.ensures (λ (x : ℕ). x / 16777216) (λ x r l p. search rules)
