-- The first record of a text: its numbers, and what a judge may find it to be. Assumes nothing.
use Rattle.std.specs.Prelude.{Bool, true, false, List, ℕ, ◌+◌, ◌-◌, ◌*◌, ◌<◌, ◌≤◌, get_or, length}
use Rattle.tally.specs.declared.Step.{Step}
use Rattle.tally.specs.declared.Step.TheVariants.{Agrees, Differs, NoRecord}

-- the value of digit i
abbrev pub digit_at : List ℕ → ℕ → ℕ
digit_at s i = get_or s i 0 - 48

-- five digits from i on
unfoldable pub number_at : List ℕ → ℕ → ℕ
number_at s i = (((digit_at s i * 10 + digit_at s (i + 1)) * 10 + digit_at s (i + 2)) * 10 + digit_at s (i + 3)) * 10 + digit_at s (i + 4)

abbrev pub judged : Bool → ℕ → Step
judged true n = Agrees n
judged false n = Differs n

-- a record has a byte at least, and no more than there are
abbrev pub Inside : List ℕ → Step → Type 0
Inside t (Agrees n) = (0 < n) × (n ≤ length t)
Inside t (Differs n) = (0 < n) × (n ≤ length t)
Inside t NoRecord = Unit
