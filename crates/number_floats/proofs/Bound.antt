-- Bounds on sizes go through the rounded operations. Assumes nothing.
use Rattle.std.proofs.Common.{◌≡◌, ℕ, zero, suc, ◌+◌, ◌-◌, ◌*◌, ◌/◌, ◌^◌, ◌<◌, ◌≤◌, Bool, true, false, cond, not, ◌&&◌, ◌||◌, T, eqb, ltb, ℤ, sym, refl, ap, ◌∙◌, subst, true≢false, le_trans, le_of_eq, le_of_suc-le-suc, le_of_lt, mul-le-mul_right, zero-lt-suc, div-lt_iff_lt-mul, mul-le-mul, mul-pos, mul-one, mul_right_comm, le_of_mul-le-mul_right, arith, eqb→eq, ltb→lt}
use mathlib.Core.Bool.{beq}
use native.Mathlib.Nat.{mul-mul-mul_comm}
use lib.Ieee.Bits.{cond_no}
use lib.Ieee.{Float, nan, inf, fin, Format, binary64, prec, emax, low, up, down, neg, odd, units, round, sum, add, mul, div, le, unlike}
use lib.Ieee.Fits.{down_pos, up_pos}
use lib.Ieee.Exact.{HasValue}
use lib.Ieee.Back.{round_whole}
use lib.Ieee.Order.{round_mono}
use Rattle.number_floats.specs.Whole.{floor}
use Rattle.number_floats.specs.inner.Bounds.{AtMost}

-- ---- the sign does not change the size
neg-odd : (d : ℕ) (q k l : ℕ) → odd d true q k l ≡ neg (odd d false q k l)
unfolding odd neg
neg-odd d zero k l = refl
neg-odd d (suc q) k l = refl

neg-cond : (b : Bool) (x y u v : Float) → x ≡ neg u → y ≡ neg v → cond b x y ≡ neg (cond b u v)
neg-cond true x y u v p q = p
neg-cond false x y u v p q = q

neg-units : (f : Format) (q k : ℕ) → units f true q k ≡ neg (units f false q k)
unfolding units
neg-units f q k = neg-cond (ltb (q * 2 ^ k) (2 ^ (low f + suc (emax f)))) (odd (suc (prec f)) true q k (low f)) (inf true) (odd (suc (prec f)) false q k (low f)) (inf false) (neg-odd (suc (prec f)) q k (low f)) (unfold neg in refl)

pub neg-round : (f : Format) (a c : ℕ) → round f true a c ≡ neg (round f false a c)
unfolding round
neg-round f a c = neg-units f _ _

at-most-neg : (n : ℕ) (x : Float) → AtMost n x → AtMost n (neg x)
unfolding neg
at-most-neg n nan h = h
at-most-neg n (inf s) h = h
at-most-neg n (fin s m e) h = h

-- ---- the sign of what `round` gives
abbrev pub Signed : Bool → Float → Type 0
Signed s nan = ⊥
Signed s (inf t) = t ≡ s
Signed s (fin t m e) = t ≡ s

signed_odd : (d : ℕ) (s : Bool) (q k l : ℕ) → Signed s (odd d s q k l)
unfolding odd
signed_odd d s zero k l = refl
signed_odd d s (suc q) k l = refl

signed-cond : (s b : Bool) (x y : Float) → Signed s x → Signed s y → Signed s (cond b x y)
signed-cond s true x y p q = p
signed-cond s false x y p q = q

signed_units : (f : Format) (s : Bool) (q k : ℕ) → Signed s (units f s q k)
unfolding units
signed_units f s q k = signed-cond s (ltb (q * 2 ^ k) (2 ^ (low f + suc (emax f)))) (odd (suc (prec f)) s q k (low f)) (inf s) (signed_odd (suc (prec f)) s q k (low f)) refl

pub signed_round : (f : Format) (s : Bool) (a c : ℕ) → Signed s (round f s a c)
unfolding round
signed_round f s a c = signed_units f s _ _

-- ---- a / c at most n rounds to at most n
lt-or-eq : (a b : ℕ) (r : Bool) → T (ltb a b || (eqb a b && r)) → a ≤ b
lt-or-eq a b r t = go (ltb a b) (eqb a b) (ltb→lt a b) (eqb→eq a b) t
  where
    go : (p q : Bool) → (T p → a < b) → (T q → a ≡ b) → T (p || (q && r)) → a ≤ b
    go true q f g t = le_of_lt (f tt)
    go false true f g t = le_of_eq (g tt)
    go false false f g t = absurd t

at-most-le : (n : ℕ) (x y : Float) → Signed false x → HasValue y false n 1 → T (le x y) → AtMost n x
unfolding le
at-most-le n nan y s v h = absurd s
at-most-le n (inf true) y s v h = absurd (true≢false s)
at-most-le n (inf false) nan s v h = absurd v
at-most-le n (inf false) (inf t) s v h = absurd v
at-most-le n (inf false) (fin t k d) s v h = absurd h
at-most-le n (fin true m e) y s v h = absurd (true≢false s)
at-most-le n (fin false m e) nan s v h = absurd v
at-most-le n (fin false m e) (inf t) s v h = absurd v
at-most-le n (fin false m e) (fin true k d) s v h = absurd (true≢false v.0)
at-most-le n (fin false m e) (fin false k d) s v h =
    let w : k * up d ≡ n * down d = sym (mul-one (k * up d)) ∙ v.1 in
    le_of_mul-le-mul_right
    (le_trans (lt-or-eq (m * up e * down d) (k * up d * down e) _ h) (le_of_eq (ap (λ (z : ℕ). z * down e) w ∙ mul_right_comm n (down d) (down e))))
    (down_pos d)

plain : (n a c : ℕ) → n ≤ 2 ^ 53 → 0 < c → a ≤ n * c → AtMost n (round binary64 false a c)
plain n a c N C h =
    at-most-le n (round binary64 false a c) (round binary64 false n 1) (signed_round binary64 false a c) (round_whole binary64 false n N)
    (round_mono binary64 a c n 1 C (zero-lt-suc 0) (le_trans (le_of_eq (mul-one a)) h))

pub at-most-round : (n : ℕ) (s : Bool) (a c : ℕ) → n ≤ 2 ^ 53 → 0 < c → a ≤ n * c → AtMost n (round binary64 s a c)
at-most-round n false a c N C h = plain n a c N C h
at-most-round n true a c N C h = subst (AtMost n) (sym (neg-round binary64 a c)) (at-most-neg n (round binary64 false a c) (plain n a c N C h))

-- ---- a sum, and a quotient
module _ (n : ℕ) (N : n ≤ 2 ^ 53) where
  at-most-cond : (b : Bool) (x y : Float) → AtMost n x → AtMost n y → AtMost n (cond b x y)
  at-most-cond true x y p q = p
  at-most-cond false x y p q = q

  at-most-sum : (s : Bool) (a : ℕ) (t : Bool) (b c : ℕ) → 0 < c → a + b ≤ n * c → AtMost n (sum binary64 s a t b c)
  unfolding sum
  at-most-sum s a t b c C h =
      at-most-cond (beq s t) _ _ (at-most-round n s (a + b) c N C h)
      (at-most-cond (ltb a b) _ _ (at-most-round n t (b - a) c N C (omega arith)) (at-most-round n (s && ltb b a) (a - b) c N C (omega arith)))

  pub at-most-add : (i j : ℕ) (x y : Float) → i + j ≤ n → AtMost i x → AtMost j y → AtMost n (add binary64 x y)
  unfolding add
  at-most-add i j nan y l p q = absurd p
  at-most-add i j (inf s) y l p q = absurd p
  at-most-add i j (fin s m e) nan l p q = absurd q
  at-most-add i j (fin s m e) (inf t) l p q = absurd q
  at-most-add i j (fin s m e) (fin t k d) l p q =
      at-most-sum s (m * up e * down d) t (k * up d * down e) (down e * down d) (mul-pos (down_pos e) (down_pos d))
      (let a : m * up e * down d ≤ i * down e * down d = mul-le-mul_right (down d) p in
      let b : k * up d * down e ≤ j * down d * down e = mul-le-mul_right (down e) q in
      let c : (i + j) * (down e * down d) ≤ n * (down e * down d) = mul-le-mul_right (down e * down d) l in
      omega arith)

  pub at-most-mul : (i j : ℕ) (x y : Float) → i * j ≤ n → AtMost i x → AtMost j y → AtMost n (mul binary64 x y)
  unfolding mul
  at-most-mul i j nan y l p q = absurd p
  at-most-mul i j (inf s) y l p q = absurd p
  at-most-mul i j (fin s m e) nan l p q = absurd q
  at-most-mul i j (fin s m e) (inf t) l p q = absurd q
  at-most-mul i j (fin s m e) (fin t k d) l p q =
      at-most-round n (unlike s t) (m * up e * (k * up d)) (down e * down d) N (mul-pos (down_pos e) (down_pos d))
      (le_trans (mul-le-mul p q) (le_trans (le_of_eq (mul-mul-mul_comm i (down e) j (down d))) (mul-le-mul_right (down e * down d) l)))

  -- x / y for a y that is b / g with i * g ≤ n * b
  pub at-most-div : (i : ℕ) (x : Float) (t : Bool) (k : ℕ) (d : ℤ) → T (not (eqb k 0)) → 0 < k → i * down d ≤ n * (k * up d) → AtMost i x → AtMost n (div binary64 x (fin t k d))
  unfolding div
  at-most-div i nan t k d z K l p = absurd p
  at-most-div i (inf s) t k d z K l p = absurd p
  at-most-div i (fin s m e) t k d z K l p =
      subst (AtMost n) (sym (cond_no (eqb k 0) _ _ z))
      (at-most-round n (unlike s t) (m * up e * down d) (k * up d * down e) N (mul-pos (mul-pos K (up_pos d)) (down_pos e))
      (let a : m * up e * down d ≤ i * down e * down d = mul-le-mul_right (down d) p in
      let b : i * down d * down e ≤ n * (k * up d) * down e = mul-le-mul_right (down e) l in
      omega arith))

  pub at-most-floor : (x : Float) → AtMost n x → AtMost n (floor x)
  at-most-floor nan p = p
  at-most-floor (inf s) p = p
  at-most-floor (fin false m e) p = at-most-round n false (m * up e / down e) 1 N (zero-lt-suc 0) (le_trans (whole_le (m * up e) (down e) n (down_pos e) p) (le_of_eq (sym (mul-one n))))
    where
      whole_le : (a c n : ℕ) → 0 < c → a ≤ n * c → a / c ≤ n
      whole_le a c n C h = le_of_suc-le-suc ((div-lt_iff_lt-mul C).1 (omega arith))
  at-most-floor (fin true m e) p = at-most-round n true ((m * up e + (down e - 1)) / down e) 1 N (zero-lt-suc 0) (le_trans (up_le (m * up e) (down e) n (down_pos e) p) (le_of_eq (sym (mul-one n))))
    where
      up_le : (a c n : ℕ) → 0 < c → a ≤ n * c → (a + (c - 1)) / c ≤ n
      up_le a c n C h = le_of_suc-le-suc ((div-lt_iff_lt-mul C).1 (omega arith))
