-- The counts over a text of records, one after another. Assumes nothing.
use Rattle.std.specs.Prelude.{List, [], ◌∷◌, ℕ, ◌+◌, length, drop}
use Rattle.tally.specs.declared.Step.{Step}
use Rattle.tally.specs.declared.Step.TheVariants.{Agrees, Differs, NoRecord}
use Rattle.tally.specs.declared.Counts.{Counts}

abbrev pub none : Counts
none = record { agree = 0; differ = 0 }

abbrev pub counted : Step → Counts → Counts
counted (Agrees n) c = record { agree = c.agree + 1; differ = c.differ }
counted (Differs n) c = record { agree = c.agree; differ = c.differ + 1 }
counted NoRecord c = record { agree = c.agree; differ = c.differ + 1 }

-- how many bytes a step takes: what is no record is taken whole
abbrev pub taken : Step → List ℕ → ℕ
taken (Agrees n) t = n
taken (Differs n) t = n
taken NoRecord t = length t

-- from c on, the records of t lead to r, each found to be what P says
pub data Tally (P : List ℕ → Step → Type 0) : Counts → List ℕ → Counts → Type 0 where
  over : {c : Counts} → Tally P c [] c
  next : {c r : Counts} {b : ℕ} {bs : List ℕ} {s : Step} → P (b ∷ bs) s → Tally P (counted s c) (drop (taken s (b ∷ bs)) (b ∷ bs)) r → Tally P c (b ∷ bs) r
