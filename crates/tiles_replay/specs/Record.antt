-- Whether the two calls of a record answer as the Rust, and the counts over a text. Assumes nothing.
use Rattle.std.specs.Prelude.{ℕ, ◌+◌, Bool, cond, ◌&&◌, List, [], ◌∷◌, eqb, leb, ltb, Float}
use Rattle.tiles_replay.specs.declared.run.Told.{Told}
use Rattle.tiles_replay.specs.declared.record.Places.{Places}
use Rattle.replay.specs.Line.{Read, read_of}
use Rattle.replay.specs.Marks.{marks, floats}
use Rattle.replay.specs.Counts.{bump}
use Rattle.tiles_replay.specs.Run.{room, at, first_of, cells_left, second_of}

-- the call answers as the record says from k on
abbrev pub same_as : Told → List ℕ → ℕ → Bool
same_as m v k =
    eqb m.number (at v k)
    && eqb m.grid_h (at v (k + 1))
    && eqb m.grid_w (at v (k + 2))
    && eqb m.floats (at v (k + 3))
    && eqb m.top (at v (k + 4))
    && eqb m.left (at v (k + 5))
    && eqb m.height (at v (k + 6))
    && eqb m.width (at v (k + 7))
    && eqb m.hash (at v (k + 8))

-- such a call is counted at its number, 19 at 10 and 20 at 11; 9 counts what differs
unfoldable pub place_of : Told → List ℕ → ℕ → ℕ
place_of m v k =
    cond (same_as m v k)
    (cond (ltb m.number 9) m.number (cond (eqb m.number 19) 10 (cond (eqb m.number 20) 11 9)))
    9

abbrev pub neither : Places
neither = record { first = 9; second = 9 }

-- the record's lengths fit the buffers
abbrev pub small_of : List ℕ → Bool
small_of v = leb (at v 6) room && leb (at v 7) room && leb (at v 19) room && leb (at v 20) room

abbrev pub marked : List Float
marked = floats marks room

unfoldable pub both_of : List ℕ → Places
both_of v = record { first = place_of (first_of v marked) v 9; second = place_of (second_of v (cells_left v marked)) v 23 }

unfoldable pub places_from : Read → Places
places_from r = cond (r.whole && small_of r.list) (both_of r.list) neither

abbrev pub places_of : List ℕ → Places
places_of line = places_from (read_of 39 line)

-- the counts after each of the lines
unfoldable pub tally : List ℕ → List (List ℕ) → List ℕ
tally c [] = c
tally c (l ∷ ls) = let p = places_of l in tally (bump (bump c p.first) (p.second + 12)) ls
