-- What the call of a record answers and leaves, of the pool and the slice that the lines before it have left. Assumes nothing.
use Rattle.std.specs.Prelude.{ℕ, ◌%◌, cond, List, ◌++◌, eqb, length, get_or, take, drop, set, Float, Result, min}
use Rattle.pool_books.specs.declared.Pool.{Pool}
use Rattle.picture_limits.specs.declared.Refusal as F
use Rattle.pool_books.specs.declared.Place.{Place}
use Rattle.pool_books.specs.Book.{held}
use Rattle.pool.specs.Pool.{Pooled, new_pool, add_answer, add_slice, find_answer, drop_answer, number}
use Rattle.pool_books.specs.Lookup.{found_number, found_start, found_len}
use Rattle.replay.specs.Marks.{seeded, floats}
use Rattle.pool_replay.specs.declared.run.Ran.{Ran}

-- ---- a record of 10 numbers

abbrev pub at : List ℕ → ℕ → ℕ
at v k = get_or v k 0

-- of n floats, as many as are asked for, and all of them where that is more
abbrev pub lent_of : ℕ → ℕ → ℕ
lent_of k n = min k n

-- what is lent of the slice
abbrev pub part_of : List ℕ → List Float → List Float
part_of v s = take (lent_of (at v 1) (length s)) s

abbrev pub vectors_of : List ℕ → List Float
vectors_of v = take (lent_of (at v 3) 512) (floats (seeded (at v 4)) 512)

-- ---- the calls

abbrev pub pooled : Pooled → Ran
pooled r = record { pool = r.pool; number = number r.outcome; start = 0; len = 0 }

abbrev pub placed : Pool → Result Place F.Refusal → Ran
placed p f = record { pool = p; number = found_number f; start = found_start f; len = found_len f }

abbrev pub plain : Pool → Ran
plain p = record { pool = p; number = 0; start = 0; len = 0 }

-- the bookkeeping with another count, and with another entry
abbrev pub counted : Pool → List ℕ → Pool
counted p v = record { len = p.len; count = at v 3; held = p.held }

abbrev pub entered : Pool → List ℕ → Pool
entered p v = record { len = p.len; count = p.count; held = set p.held (at v 1 % 64) (held (at v 2) (at v 3) (at v 4)) }

unfoldable pub ran_of : Pool → List Float → List ℕ → Ran
ran_of p s v =
    cond (eqb (at v 0) 0) (plain (new_pool (at v 1)))
    (cond (eqb (at v 0) 1) (pooled (add_answer p (part_of v s) (at v 2) (vectors_of v)))
    (cond (eqb (at v 0) 2) (placed p (find_answer p (length (part_of v s)) (at v 2)))
    (cond (eqb (at v 0) 3) (pooled (drop_answer p (length (part_of v s)) (at v 2)))
    (cond (eqb (at v 0) 4) (plain (counted p v))
    (plain (entered p v))))))

-- the slice afterwards: filled anew, or what add leaves of the part that it was lent
unfoldable pub slice_of : Pool → List Float → List ℕ → List Float
slice_of p s v =
    cond (eqb (at v 0) 0) (floats (seeded (at v 4)) (length s))
    (cond (eqb (at v 0) 1) (add_slice p (part_of v s) (at v 2) (vectors_of v) ++ drop (lent_of (at v 1) (length s)) s)
    s)
