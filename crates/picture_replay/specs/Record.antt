-- Whether the two calls of a record answer as the Rust, and the counts over a text. Assumes nothing.
use Rattle.std.specs.Prelude.{ℕ, ◌+◌, Bool, cond, ◌&&◌, List, [], ◌∷◌, eqb, leb, ltb, Float}
use Rattle.picture_replay.specs.declared.run.Made.{Made}
use Rattle.picture_replay.specs.declared.run.Back.{Back}
use Rattle.picture_replay.specs.declared.record.Places.{Places}
use Rattle.replay.specs.Line.{Read, read_of}
use Rattle.replay.specs.Marks.{marks, floats}
use Rattle.replay.specs.Counts.{bump}
use Rattle.picture_replay.specs.Run.{room, at, first_of, cells_left, second_of}

-- a call that answers as the record says is counted at its number, 19 at 7 and 10; 6 and 9 count what differs

unfoldable pub made_place : Made → List ℕ → ℕ
made_place m v =
    cond (eqb m.number (at v 8) && eqb m.grid_h (at v 9) && eqb m.grid_w (at v 10) && eqb m.floats (at v 11) && eqb m.hash (at v 12))
    (cond (ltb m.number 6) m.number (cond (eqb m.number 19) 7 6))
    6

unfoldable pub back_place : Back → List ℕ → ℕ
back_place b v =
    cond (eqb b.number (at v 19) && eqb b.height (at v 20) && eqb b.width (at v 21) && eqb b.hash (at v 22))
    (cond (ltb b.number 9) b.number (cond (eqb b.number 19) 10 9))
    9

abbrev pub neither : Places
neither = record { first = 6; second = 9 }

-- the record's lengths fit the buffers
abbrev pub small_of : List ℕ → Bool
small_of v = leb (at v 5) room && leb (at v 6) room && leb (at v 15) room && leb (at v 16) room

abbrev pub marked : List Float
marked = floats marks room

unfoldable pub both_of : List ℕ → Places
both_of v = record { first = made_place (first_of v marked) v; second = back_place (second_of v (cells_left v marked)) v }

unfoldable pub places_from : Read → Places
places_from r = cond (r.whole && small_of r.list) (both_of r.list) neither

abbrev pub places_of : List ℕ → Places
places_of line = places_from (read_of 30 line)

-- the counts after each of the lines
unfoldable pub tally : List ℕ → List (List ℕ) → List ℕ
tally c [] = c
tally c (l ∷ ls) = let p = places_of l in tally (bump (bump c p.first) (p.second + 8)) ls
