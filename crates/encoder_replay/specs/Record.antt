-- Whether the call of a record answers as the Rust, and the counts over a text. Assumes nothing.
use Rattle.std.specs.Prelude.{ℕ, Bool, cond, ◌&&◌, List, [], ◌∷◌, eqb, leb, ltb}
use Rattle.encoder_replay.specs.declared.run.Answer.{Answer}
use Rattle.encoder_replay.specs.Run.{at, scratch_room, out_room, run_of}
use Rattle.replay.specs.Line.{Read, read_of}
use Rattle.replay.specs.Counts.{bump}

-- a call that answers as the record says is counted at its number; what differs, past these
abbrev pub differs : ℕ
differs = 23

unfoldable pub counted_at : Answer → List ℕ → ℕ
counted_at a v =
    cond (eqb a.number (at v 21) && eqb a.tokens (at v 22) && eqb a.out (at v 23) && eqb a.scratch (at v 24))
    (cond (ltb a.number differs) a.number differs)
    differs

-- the record's lengths fit the buffers
abbrev pub small_of : List ℕ → Bool
small_of v =
    leb (at v 12) 1024 && leb (at v 13) 6144 && leb (at v 14) 512 && leb (at v 15) 512 && leb (at v 16) scratch_room && leb (at v 17) out_room

unfoldable pub place_from : Read → ℕ
place_from r = cond (r.whole && small_of r.list) (counted_at (run_of r.list) r.list) differs

abbrev pub place_of : List ℕ → ℕ
place_of line = place_from (read_of 28 line)

-- the counts after each of the lines
unfoldable pub tally : List ℕ → List (List ℕ) → List ℕ
tally c [] = c
tally c (l ∷ ls) = tally (bump c (place_of l)) ls
