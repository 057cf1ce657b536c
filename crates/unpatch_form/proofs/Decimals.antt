-- Laws of decimals that are read. Assumes nothing.
use mathlib.Core.Path.{◌≡◌, refl}
use mathlib.Core.Bool.{Bool, true, false, cond}
use mathlib.Core.List.{List, [], ◌∷◌}
use Rattle.std.specs.Prelude.{None}
use Prim.Native.Nat.{ℕ, ◌+◌, ◌-◌, ◌*◌, ◌≤◌, ◌<◌}
use native.Mathlib.Numerals.{add-one}
use native.Mathlib.Omega.{arith}
use borrow.Author.Tests.{le-leb, lt-leb, eq-eqb, ne_eqb}
use lib.ListN.{length, get_or, drop}
use lib.Seq.{drop-cons}
use Rattle.unpatch_form.specs.Words.{◌>>=◌}
use Rattle.unpatch_form.specs.Decimal.{is_digit, digits_from, decimal, up_to}
use Rattle.unpatch_form.specs.inner.Limited.{limited_from}

-- the next byte is a digit
pub digit-next : (s : List ℕ) (n i : ℕ) → i < length s → 48 ≤ get_or s i 0 → get_or s i 0 ≤ 57 → digits_from n (drop i s) ≡ digits_from (n * 10 + (get_or s i 0 - 48)) (drop (i + 1) s)
unfolding digits_from
digit-next s n i h a b = rw (add-one i, drop-cons s i 0) (simp (le-leb _ _ a, le-leb _ _ b))

-- it is below `0`, or above `9`
pub digit_low : (s : List ℕ) (n i : ℕ) → i < length s → get_or s i 0 < 48 → digits_from n (drop i s) ≡ None
unfolding digits_from
digit_low s n i h a = rw (drop-cons s i 0) (simp (lt-leb _ _ a))

pub digit-high : (s : List ℕ) (n i : ℕ) → i < length s → 48 ≤ get_or s i 0 → 57 < get_or s i 0 → digits_from n (drop i s) ≡ None
unfolding digits_from
digit-high s n i h a b = rw (drop-cons s i 0) (simp (le-leb _ _ a, lt-leb _ _ b))

-- digits only make a number larger
pub past : (most n : ℕ) (l : List ℕ) → most < n → limited_from most n l ≡ None
unfolding digits_from
past most n [] h = simp (lt-leb _ _ h)
past most n (b ∷ bs) h = go (is_digit b) (past most (n * 10 + (b - 48)) bs (omega arith))
  where
    go : (t : Bool) → limited_from most (n * 10 + (b - 48)) bs ≡ None → (cond t (digits_from (n * 10 + (b - 48)) bs) None >>= up_to most) ≡ None
    go true e = e
    go false e = refl

-- ---- by the length
pub decimal-empty : (s : List ℕ) → length s ≡ 0 → decimal s ≡ None
unfolding decimal
decimal-empty [] e = refl
decimal-empty (b ∷ bs) e = absurd (omega arith)

pub decimal-one : (s : List ℕ) → length s ≡ 1 → decimal s ≡ digits_from 0 s
unfolding decimal
decimal-one [] e = absurd (omega arith)
decimal-one (b ∷ []) e = refl
decimal-one (b ∷ (d ∷ bs)) e = absurd (omega arith)

pub decimal-zero : (s : List ℕ) → 2 ≤ length s → get_or s 0 0 ≡ 48 → decimal s ≡ None
unfolding decimal
decimal-zero [] h e = absurd (omega arith)
decimal-zero (b ∷ []) h e = absurd (omega arith)
decimal-zero (b ∷ (d ∷ bs)) h e = simp (eq-eqb _ _ e)

pub decimal-more : (s : List ℕ) → 2 ≤ length s → (get_or s 0 0 ≡ 48 → ⊥) → decimal s ≡ digits_from 0 s
unfolding decimal
decimal-more [] h n = absurd (omega arith)
decimal-more (b ∷ []) h n = absurd (omega arith)
decimal-more (b ∷ (d ∷ bs)) h n = simp (ne_eqb _ _ n)
