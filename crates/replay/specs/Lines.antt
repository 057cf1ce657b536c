-- What the iterator over the lines of a text has left, and what it gives. Assumes nothing.
use Rattle.std.specs.Prelude.{◌≡◌, ℕ, ◌<◌, Option, MatchOption, List, [], ◌∷◌, length}
use Rattle.std.specs.Borrow.{Bor}
use Rattle.replay.specs.declared.line.Lines.{Lines}
use Rattle.replay.specs.Pieces.{pieces}

abbrev pub bytes_left : Lines → List ℕ
bytes_left s = s.rest.now

abbrev pub lines_left : Lines → List (List ℕ)
lines_left s = pieces 10 (bytes_left s)

-- the first line that is left, and fewer bytes after it; nothing where no line is left
abbrev pub GivesLine : Lines → Option (Bor (List ℕ)) → Lines → Type 0
GivesLine s r t = MatchOption r (lines_left s ≡ []) (λ x. (lines_left s ≡ x.now ∷ lines_left t) × (length (bytes_left t) < length (bytes_left s)))
