-- Whether a record's text is answered as the record says, and the counts over a text of records. Assumes nothing.
use Rattle.std.specs.Prelude.{Bool, true, false, cond, List, [], ◌∷◌, ℕ, zero, suc, ◌+◌, ◌-◌, ◌*◌, ltb, length, get_or, drop}
use Rattle.buffers.specs.Region.{region}
use Rattle.unpatch_form.specs.Words.{same}
use Rattle.unpatch_text.specs.Answer.{answer}
use Rattle.unpatch_replay.specs.declared.record.Step.{Step}
use Rattle.unpatch_replay.specs.declared.replay.Counts.{Counts}

-- the value of digit i
abbrev pub digit_at : List ℕ → ℕ → ℕ
digit_at s i = get_or s i 0 - 48

-- five digits
unfoldable pub size_of : List ℕ → ℕ
size_of s = (((digit_at s 0 * 10 + digit_at s 1) * 10 + digit_at s 2) * 10 + digit_at s 3) * 10 + digit_at s 4

-- what is no record is taken whole, and differs
abbrev pub unread : List ℕ → Step
unread t = record { len = length t; same = false }

-- with a text of n bytes and an answer of m
abbrev pub sized : List ℕ → ℕ → ℕ → Step
sized t n m =
    cond (ltb (length t - 12) (n + m)) (unread t)
    (record { len = 12 + n + m; same = same (answer (region t 12 n)) (region t (12 + n) m) })

-- the first record of t
unfoldable pub step_of : List ℕ → Step
step_of t = cond (ltb (length t) 12) (unread t) (sized t (size_of (region t 0 5)) (size_of (region t 6 5)))

abbrev pub none : Counts
none = record { agree = 0; differ = 0 }

abbrev pub counted : Bool → Counts → Counts
counted true c = record { agree = c.agree + 1; differ = c.differ }
counted false c = record { agree = c.agree; differ = c.differ + 1 }

-- the counts after each of the records, of which there are at most k
unfoldable pub tally : ℕ → Counts → List ℕ → Counts
tally zero c t = c
tally (suc k) c [] = c
tally (suc k) c (b ∷ bs) = tally k (counted (step_of (b ∷ bs)).same c) (drop (step_of (b ∷ bs)).len (b ∷ bs))
