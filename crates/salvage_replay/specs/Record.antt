-- Whether the call of a record answers as the Rust, and the counts over a text. Assumes nothing.
use Rattle.std.specs.Prelude.{ℕ, Bool, cond, ◌&&◌, List, [], ◌∷◌, eqb, leb, ltb}
use Rattle.salvage_replay.specs.declared.run.Told.{Told}
use Rattle.replay.specs.Line.{Read, read_of}
use Rattle.replay.specs.Counts.{bump}
use Rattle.salvage_replay.specs.Run.{room, at, told_in}

abbrev pub same_as : Told → List ℕ → Bool
same_as m v =
    eqb m.patches (at v 17)
    && eqb m.number (at v 18)
    && eqb m.height (at v 19)
    && eqb m.width (at v 20)
    && eqb m.bad (at v 21)
    && eqb m.bytes (at v 22)
    && eqb m.entries (at v 23)

-- where what differs is counted
abbrev pub differs : ℕ
differs = 9

-- a call that does not is counted at its number, 19 at 10 and 21 at 11
unfoldable pub place_of : Told → List ℕ → ℕ
place_of m v =
    cond (same_as m v)
    (cond (ltb m.number 9) m.number (cond (eqb m.number 19) 10 (cond (eqb m.number 21) 11 differs)))
    differs

-- the record's lengths fit the buffers, and neither divisor is 0
abbrev pub small_of : List ℕ → Bool
small_of v = leb (at v 5) room && leb (at v 6) room && leb (at v 7) room && ltb 0 (at v 9) && ltb 0 (at v 12)

unfoldable pub place_from : Read → ℕ
place_from r = cond (r.whole && small_of r.list) (place_of (told_in r.list) r.list) differs

abbrev pub place_in : List ℕ → ℕ
place_in line = place_from (read_of 31 line)

-- the counts after each of the lines
unfoldable pub tally : List ℕ → List (List ℕ) → List ℕ
tally c [] = c
tally c (l ∷ ls) = tally (bump c (place_in l)) ls
