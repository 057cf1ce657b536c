-- `marks::fill_words` meets its contract. Assumes nothing.
use Rattle.std.proofs.Common.{ℕ, ◌/◌, rules}
use Rattle.replay.proofs.marks.fill_words.Goals as goal

pub returns : goal.returns
returns c = c.fill.ensures (λ (x : ℕ). x) (λ x r l p. search rules)
