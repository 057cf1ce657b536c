-- The order of floats that are no NaN is that of their patterns below the sign, turned round where the sign is set. Assumes nothing.
use Rattle.std.proofs.Common.{◌≡◌, ℕ, ◌+◌, ◌-◌, ◌*◌, ◌%◌, ◌^◌, ◌<◌, ◌≤◌, Bool, true, false, ◌&&◌, ◌||◌, T, eqb, ltb, leb, ◌⊎◌, sym, refl, ap, ◌∙◌, subst, inl, inr, le_of_eq, le_of_lt, mul-le-mul_right, eq-or-lt_of_le, mul-pos, zero-mul, not-le_of_lt, le_of_mul-le-mul_right, arith, eqb→eq, ltb→lt, pow_pos, lt-ltb, eq-eqb}
use lib.Ieee.{Float, nan, inf, fin, Format, prec, low, up, down, hid, ones, top, of_bits, below, level, le}
use lib.Ieee.Exact.{HasValue}
use lib.Ieee.Fits.{down_pos, and_l, and_r}
use lib.Ieee.Order.{transfer}
use lib.Ieee.Scale.{finite}
use Rattle.number_floats.specs.Size.{count}
use Rattle.number_floats.proofs.Ways.{lt-or-ge}
use Rattle.number_floats.proofs.Sizes.{grows}
use Rattle.number_floats.proofs.Patterns.{nan-above}
use Rattle.number_floats.proofs.Values.{number-of-bits, infinity-of-bits}

-- the size a with the sign s is at most b with the sign t; true is minus, and -0 is +0
abbrev pub Upto : Bool → ℕ → Bool → ℕ → Type 0
Upto false a false b = a ≤ b
Upto false a true b = (a ≤ 0) × (b ≤ 0)
Upto true a false b = Unit {0}
Upto true a true b = b ≤ a

-- and so are others that are ordered as a and b are, and 0 where those are
pub kept : (s t : Bool) (a b a' b' : ℕ) → (a ≤ b → a' ≤ b') → (b ≤ a → b' ≤ a') → (a ≤ 0 → a' ≤ 0) → (b ≤ 0 → b' ≤ 0) → Upto s a t b → Upto s a' t b'
kept false false a b a' b' f g z w u = f u
kept false true a b a' b' f g z w u = (z u.0, w u.1)
kept true false a b a' b' f g z w u = tt
kept true true a b a' b' f g z w u = g u

-- ---- the tests of `le`

lt-or-eq : (p q : Bool) (a b : ℕ) → (T p → a < b) → (T q → a ≡ b) → T (p || (q && true)) → a ≤ b
lt-or-eq true q a b f g t = le_of_lt (f tt)
lt-or-eq false true a b f g t = le_of_eq (g tt)
lt-or-eq false false a b f g t = absurd t

of_test : (s t : Bool) (a b : ℕ) → T (below s a t b || level s a t b) → Upto s a t b
of_test false false a b h = lt-or-eq (ltb a b) (eqb a b) a b (ltb→lt a b) (eqb→eq a b) h
of_test false true a b h = let e = eqb→eq a b (and_l (eqb a b) (eqb a 0) h) in let z = eqb→eq a 0 (and_r (eqb a b) (eqb a 0) h) in (omega arith, omega arith)
of_test true false a b h = tt
of_test true true a b h = lt-or-eq (ltb b a) (eqb a b) b a (ltb→lt b a) (λ t. sym (eqb→eq a b t)) h

or-true : (p : Bool) → T (p || true)
or-true true = tt
or-true false = tt

test_of : (s t : Bool) (a b : ℕ) → Upto s a t b → T (below s a t b || level s a t b)
test_of false false a b h = elim (eq-or-lt_of_le h) [ inl e ↦ rw (eq-eqb a b e) (or-true (ltb a b)) | inr l ↦ rw (lt-ltb a b l) tt ]
test_of false true a b h = rw (eq-eqb a b (omega arith), eq-eqb a 0 (omega arith)) tt
test_of true false a b h = elim (lt-or-ge 0 (a + b)) [ inl l ↦ rw (lt-ltb 0 (a + b) l) tt | inr z ↦ rw (eq-eqb a b (omega arith), eq-eqb a 0 (omega arith)) (or-true (ltb 0 (a + b))) ]
test_of true true a b h = elim (eq-or-lt_of_le h) [ inl e ↦ rw (eq-eqb a b (sym e)) (or-true (ltb b a)) | inr l ↦ rw (lt-ltb b a l) tt ]

-- ---- two floats of one unit, 1 / c

-- x / d is a / c and y / e is b / c, so they are ordered as a and b are
module _ (x d y e a b c : ℕ) (D : 0 < d) (E : 0 < e) (C : 0 < c) (p : x * c ≡ a * d) (q : y * c ≡ b * e) where
  crossed : a ≤ b → x * e ≤ y * d
  crossed h = transfer x y d e a b c c C C p q (mul-le-mul_right c h)

  uncrossed : x * e ≤ y * d → a ≤ b
  uncrossed h = le_of_mul-le-mul_right (transfer a b c c x y d e D E (sym p) (sym q) h) C

module _ (x d a c e : ℕ) (D : 0 < d) (E : 0 < e) (C : 0 < c) (p : x * c ≡ a * d) where
  none : a ≤ 0 → x * e ≤ 0
  none h = rw zero-mul at (crossed x d 0 e a 0 c D E C p (zero-mul c ∙ sym (zero-mul e)) h)

  none_left : x * e ≤ 0 → a ≤ 0
  none_left h = uncrossed x d 0 e a 0 c D E C p (zero-mul c ∙ sym (zero-mul e)) (rw zero-mul h)

-- the floats have the sizes a / c and b / c
sizes : (x y : Float) (s t : Bool) (a b c : ℕ) → 0 < c → HasValue x s a c → HasValue y t b c → T (le x y) → Upto s a t b
unfolding le
sizes nan y s t a b c C p q h = absurd p
sizes (inf u) y s t a b c C p q h = absurd p
sizes (fin u m e) nan s t a b c C p q h = absurd q
sizes (fin u m e) (inf v) s t a b c C p q h = absurd q
sizes (fin u m e) (fin v n d) s t a b c C p q h =
    rw (← p.0, ← q.0)
    (kept u v (m * up e * down d) (n * up d * down e) a b
    (uncrossed (m * up e) (down e) (n * up d) (down d) a b c (down_pos e) (down_pos d) C p.1 q.1)
    (uncrossed (n * up d) (down d) (m * up e) (down e) b a c (down_pos d) (down_pos e) C q.1 p.1)
    (none_left (m * up e) (down e) a c (down d) (down_pos e) (down_pos d) C p.1)
    (none_left (n * up d) (down d) b c (down e) (down_pos d) (down_pos e) C q.1)
    (of_test u v (m * up e * down d) (n * up d * down e) h))

of-sizes : (x y : Float) (s t : Bool) (a b c : ℕ) → 0 < c → HasValue x s a c → HasValue y t b c → Upto s a t b → T (le x y)
unfolding le
of-sizes nan y s t a b c C p q h = absurd p
of-sizes (inf u) y s t a b c C p q h = absurd p
of-sizes (fin u m e) nan s t a b c C p q h = absurd q
of-sizes (fin u m e) (inf v) s t a b c C p q h = absurd q
of-sizes (fin u m e) (fin v n d) s t a b c C p q h =
    test_of u v (m * up e * down d) (n * up d * down e)
    (kept u v a b (m * up e * down d) (n * up d * down e)
    (crossed (m * up e) (down e) (n * up d) (down d) a b c (down_pos e) (down_pos d) C p.1 q.1)
    (crossed (n * up d) (down d) (m * up e) (down e) b a c (down_pos d) (down_pos e) C q.1 p.1)
    (none (m * up e) (down e) a c (down d) (down_pos e) (down_pos d) C p.1)
    (none (n * up d) (down d) b c (down e) (down_pos d) (down_pos e) C q.1)
    (rw (p.0, q.0) h))

-- ---- patterns

count-zero : (f : Format) → count (hid f) 0 ≡ 0
count-zero lib.Ieee.binary32 = refl
count-zero lib.Ieee.binary64 = refl

-- an infinity, whose pattern is n, beside a finite value, whose pattern m is below n; and two infinities
infinity-first : (s t : Bool) (y : Float) (b c m n : ℕ) → HasValue y t b c → m < n → Upto s n t m → T (le (inf s) y)
unfolding le
infinity-first s t nan b c m n v l h = absurd v
infinity-first s t (inf u) b c m n v l h = absurd v
infinity-first true t (fin u k d) b c m n v l h = tt
infinity-first false true (fin u k d) b c m n v l h = absurd (omega arith)
infinity-first false false (fin u k d) b c m n v l h = absurd (omega arith)

infinity-last : (s t : Bool) (x : Float) (a c m n : ℕ) → HasValue x s a c → m < n → Upto s m t n → T (le x (inf t))
unfolding le
infinity-last s t nan a c m n v l h = absurd v
infinity-last s t (inf u) a c m n v l h = absurd v
infinity-last s false (fin u k d) a c m n v l h = tt
infinity-last true true (fin u k d) a c m n v l h = absurd (omega arith)
infinity-last false true (fin u k d) a c m n v l h = absurd (omega arith)

infinities : (s t : Bool) (n : ℕ) → 0 < n → Upto s n t n → T (le (inf s) (inf t))
unfolding le
infinities false false n l h = tt
infinities false true n l h = absurd (omega arith)
infinities true false n l h = tt
infinities true true n l h = tt

module _ (f : Format) where
  pos-hid : 0 < hid f
  pos-hid = pow_pos (prec f - 1)

  pos-infinity : 0 < ones f * hid f
  pos-infinity = let h : 0 < ones f = omega arith in mul-pos h pos-hid

  -- sizes grow with the patterns
  counted : (m n : ℕ) → m ≤ n → count (hid f) m ≤ count (hid f) n
  counted m n h = elim (eq-or-lt_of_le h) [ inl e ↦ le_of_eq (ap (count (hid f)) e) | inr l ↦ le_of_lt (grows (hid f) pos-hid m n l) ]

  uncounted : (m n : ℕ) → count (hid f) m ≤ count (hid f) n → m ≤ n
  uncounted m n h = elim (lt-or-ge n m) [ inl l ↦ absurd (not-le_of_lt (grows (hid f) pos-hid n m l) h) | inr g ↦ g ]

  pub finite-size : (b : ℕ) → T (finite (of_bits f b)) → b % top f < ones f * hid f
  finite-size b h = elim (lt-or-ge (b % top f) (ones f * hid f)) [
    | inl l ↦ l
    | inr g ↦ absurd (elim (eq-or-lt_of_le g) [
      | inl e ↦ subst (λ (x : Float). T (finite x)) (infinity-of-bits f b (sym e)) h
      | inr l ↦ subst (λ (x : Float). T (finite x)) (sym (nan-above f b l)) h
    ])
  ]

  module _ (x y : ℕ) where
    -- finite ones are ordered as their patterns are, and patterns order infinities too
    pub patterns : x % top f < ones f * hid f → y % top f < ones f * hid f → T (le (of_bits f x) (of_bits f y)) → Upto (leb (top f) x) (x % top f) (leb (top f) y) (y % top f)
    patterns u v h =
        kept (leb (top f) x) (leb (top f) y) (count (hid f) (x % top f)) (count (hid f) (y % top f)) (x % top f) (y % top f)
        (uncounted (x % top f) (y % top f))
        (uncounted (y % top f) (x % top f))
        (λ z. uncounted (x % top f) 0 (rw (count-zero f) z))
        (λ z. uncounted (y % top f) 0 (rw (count-zero f) z))
        (sizes (of_bits f x) (of_bits f y) _ _ _ _ (2 ^ low f) (pow_pos (low f)) (number-of-bits f x u) (number-of-bits f y v) h)

    pub of-patterns : x % top f ≤ ones f * hid f → y % top f ≤ ones f * hid f → Upto (leb (top f) x) (x % top f) (leb (top f) y) (y % top f) → T (le (of_bits f x) (of_bits f y))
    of-patterns p q h = go (eq-or-lt_of_le p) (eq-or-lt_of_le q)
      where
        go : (x % top f ≡ ones f * hid f) ⊎ (x % top f < ones f * hid f) → (y % top f ≡ ones f * hid f) ⊎ (y % top f < ones f * hid f) → T (le (of_bits f x) (of_bits f y))
        go (inl e) (inl g) = rw (infinity-of-bits f x e, infinity-of-bits f y g) (infinities (leb (top f) x) (leb (top f) y) (ones f * hid f) pos-infinity (rw (e, g) at h))
        go (inl e) (inr v) = rw (infinity-of-bits f x e) (infinity-first (leb (top f) x) (leb (top f) y) (of_bits f y) _ _ (y % top f) (ones f * hid f) (number-of-bits f y v) v (rw e at h))
        go (inr u) (inl g) = rw (infinity-of-bits f y g) (infinity-last (leb (top f) x) (leb (top f) y) (of_bits f x) _ _ (x % top f) (ones f * hid f) (number-of-bits f x u) u (rw g at h))
        go (inr u) (inr v) =
            of-sizes (of_bits f x) (of_bits f y) _ _ _ _ (2 ^ low f) (pow_pos (low f)) (number-of-bits f x u) (number-of-bits f y v)
            (kept (leb (top f) x) (leb (top f) y) (x % top f) (y % top f) (count (hid f) (x % top f)) (count (hid f) (y % top f))
            (counted (x % top f) (y % top f))
            (counted (y % top f) (x % top f))
            (λ z. rw (count-zero f) at (counted (x % top f) 0 z))
            (λ z. rw (count-zero f) at (counted (y % top f) 0 z))
            h)
