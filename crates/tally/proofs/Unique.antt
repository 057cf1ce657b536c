-- Any two results that satisfy the contract of a public function are equal; that of `tally` is `Tallies`' `tally-unique`. Assumes nothing.
use Rattle.std.proofs.Common.{◌≡◌, Bool, List, ℕ, ◌≤◌, sym, ◌∙◌}
use Rattle.tally.specs.declared.Step.{Step}
use Rattle.tally.specs.Record.{number_at, judged}

pub judged-unique : (agrees : Bool) (len : ℕ) (a b : Step) → a ≡ judged agrees len → b ≡ judged agrees len → a ≡ b
judged-unique agrees len a b x y = x ∙ sym y

pub number-at-unique : (s : List ℕ) (at a b : ℕ) → (a ≡ number_at s at) × (a ≤ 2833305) → (b ≡ number_at s at) × (b ≤ 2833305) → a ≡ b
number-at-unique s at a b x y = x.0 ∙ sym y.0
