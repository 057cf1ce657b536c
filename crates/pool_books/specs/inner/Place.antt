-- What the inner functions answer: where a key stands in the bookkeeping, and what a test of it finds. Assumes nothing.
use Rattle.std.specs.Prelude.{cond, Option, Some, None, List, [], ◌∷◌, ◌++◌, ℕ, suc, eqb, take, drop}
use Rattle.pool_books.specs.declared.Held.{Held}
use Rattle.pool_books.specs.declared.Pool.{Pool}
use Rattle.pool_books.specs.declared.Books.{Books}
use Rattle.pool_books.specs.Book.{entries, floats, end_of, well_made}
use Rattle.pool_books.specs.Lookup.{lookup, found_start, found_len}

-- at which place the first with the key stands; as many as there are where none has it
unfoldable pub place_in : ℕ → List Held → ℕ
place_in k [] = 0
place_in k (h ∷ hs) = cond (eqb h.key k) 0 (suc (place_in k hs))

-- all but the one at place i
abbrev pub left_out : ℕ → List Held → List Held
left_out i es = take i es ++ drop (suc i) es

-- of a pool for a slice of n floats, how many floats it holds, where the last result ends, and where the key stands
abbrev pub books_in : Pool → ℕ → Books
books_in p k =
    record {
      floats = floats (entries p);
      end = end_of 0 (entries p);
      place = place_in k (entries p);
      start = found_start (lookup k (entries p));
      len = found_len (lookup k (entries p));
    }

unfoldable pub books_of : Pool → ℕ → ℕ → Option Books
books_of p n k = cond (well_made p n) (Some (books_in p k)) None
