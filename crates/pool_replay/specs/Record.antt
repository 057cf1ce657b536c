-- Whether the call of a record answers as stored, and the counts over a text. Assumes nothing.
use Rattle.std.specs.Prelude.{ℕ, ◌-◌, Bool, cond, ◌&&◌, List, [], ◌∷◌, eqb, leb, Float}
use Rattle.pool_books.specs.declared.Pool.{Pool}
use Rattle.replay.specs.Line.{read_of}
use Rattle.replay.specs.Hash.{float_hash}
use Rattle.replay.specs.Counts.{bump}
use Rattle.pool_replay.specs.declared.run.Ran.{Ran}
use Rattle.pool_replay.specs.declared.record.Told.{Told}
use Rattle.pool_replay.specs.declared.record.Judged.{Judged}
use Rattle.pool_replay.specs.Run.{at, ran_of, slice_of}

abbrev pub same_as : Told → List ℕ → Bool
same_as m v = eqb m.number (at v 5) && eqb m.count (at v 6) && eqb m.start (at v 7) && eqb m.len (at v 8) && eqb m.cells (at v 9)

-- where what differs is counted
abbrev pub differs : ℕ
differs = 6

-- a call that does not: 0 first, and then 23 to 27
unfoldable pub place_of : Told → List ℕ → ℕ
place_of m v =
    cond (same_as m v)
    (cond (eqb m.number 0) 0 (cond (leb 23 m.number && leb m.number 27) (m.number - 22) differs))
    differs

-- what a call answered, and the hash of the slice afterwards
abbrev pub told_of : Ran → ℕ → Told
told_of r h = record { number = r.number; count = r.pool.count; start = r.start; len = r.len; cells = h }

abbrev pub judged : ℕ → Pool → Judged
judged k p = record { place = k; pool = p }

-- a line, of the pool and the slice that those before it have left: where it is counted, with the pool after it, and the slice
unfoldable pub judged_in : Pool → List Float → List ℕ → Judged
judged_in p s line =
    let v = (read_of 10 line).list in
    cond (read_of 10 line).whole
    (judged (place_of (told_of (ran_of p s v) (float_hash (slice_of p s v))) v) (ran_of p s v).pool)
    (judged differs p)

unfoldable pub slice_in : Pool → List Float → List ℕ → List Float
slice_in p s line = cond (read_of 10 line).whole (slice_of p s (read_of 10 line).list) s

-- the counts after each of the lines
unfoldable pub tally : List ℕ → Pool → List Float → List (List ℕ) → List ℕ
tally c p s [] = c
tally c p s (l ∷ ls) = tally (bump c (judged_in p s l).place) (judged_in p s l).pool (slice_in p s l) ls
