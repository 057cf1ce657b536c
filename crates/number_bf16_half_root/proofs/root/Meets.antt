-- The root of the definition meets the statement over integers; and the parts of the definition, case by case. Assumes nothing.
use Rattle.std.proofs.Common.{◌≡◌, ℕ, zero, suc, ◌+◌, ◌-◌, ◌*◌, ◌/◌, ◌%◌, ◌^◌, ◌<◌, ◌≤◌, Bool, true, false, cond, not, T, ltb, leb, ◌⊎◌, sym, refl, ap, ◌∙◌, subst, ap₂, inl, inr, le_trans, le_of_eq, lt_of_le_of_lt, lt_irrefl, mul-le-mul_right, mod-lt, mul_assoc, mul-le-mul, add_comm, pow-suc, div-add-mod', not-le_of_lt, arith, lit<, lit≤, ltb→lt, leb→le, nltb→le, pow_pos, pow-add, shl_lt, le-ltb, lt-ltb, eq-eqb, ne_eqb}
use lib.Dec.{nleb→lt}
use lib.Ieee.{size}
use lib.Ieee.Digits.{size-lt, size-le, size_reaches}
use Rattle.number_floats.specs.Size.{size_of, count}
use Rattle.number_bf16_half_root.specs.Root.{whole_root, near_root, digits, exponent, root_of_number, root, NearRoot, Rooted, RootRule}
use Rattle.number_floats.proofs.Ways.{lt-or-ge}
use Rattle.number_bf16_half_root.proofs.root.Scale.{rooted, scaled-from, scaled-to}

abbrev top : ℕ
top = 0x7F80_0000

-- ---- the rounded root, from the whole one. d is 2 * n - 1
lower : (v n d : ℕ) → d + 1 ≡ 2 * n → n * n ≤ v → 0 < n → d * d < 4 * v
lower v n d e l p = let s : (d + 1) * (d + 1) ≡ 2 * n * (2 * n) = ap₂ ◌*◌ e e in omega arith

pub stay : (v n : ℕ) → 0 < n → n * n ≤ v → v - n * n ≤ n → NearRoot v n
stay v n p l h = record { above = lower v n (2 * n - 1) (omega arith) l p; below = omega arith }

upper : (v n d : ℕ) → d ≡ 2 * n + 1 → n * n ≤ v → n < v - n * n → d * d < 4 * v
upper v n d e l h = let s : d * d ≡ (2 * n + 1) * (2 * n + 1) = ap₂ ◌*◌ e e in omega arith

pub go-up : (v n : ℕ) → n * n ≤ v → v < (n + 1) * (n + 1) → n < v - n * n → NearRoot v (n + 1)
go-up v n l g h = record { above = upper v n (2 * (n + 1) - 1) (omega arith) l h; below = omega arith }

-- ---- the whole root, digit by digit
abbrev Between : ℕ → ℕ → ℕ → Type 0
Between v a b = (a * a ≤ v) × (v < b * b)

digit : (v i n : ℕ) (t : Bool) → ((m : ℕ) → Between v m (m + 2 ^ i) → Between v (whole_root v i m) (whole_root v i m + 1))
    → (T t → (n + 2 ^ i) * (n + 2 ^ i) ≤ v) → (T (not t) → v < (n + 2 ^ i) * (n + 2 ^ i)) → Between v n (n + 2 ^ suc i)
    → Between v (whole_root v i (cond t (n + 2 ^ i) n)) (whole_root v i (cond t (n + 2 ^ i) n) + 1)
digit v i n true ih y o h = let e : n + 2 ^ suc i ≡ n + 2 ^ i + 2 ^ i = ap (λ (p : ℕ). n + p) (pow-suc 2 i) ∙ omega arith in ih (n + 2 ^ i) (y tt, subst (λ (b : ℕ). v < b * b) e h.1)
digit v i n false ih y o h = ih n (h.0, o tt)

found : (v i n : ℕ) → Between v n (n + 2 ^ i) → Between v (whole_root v i n) (whole_root v i n + 1)
unfolding whole_root
found v zero n h = h
found v (suc i) n h = digit v i n (leb ((n + 2 ^ i) * (n + 2 ^ i)) v) (found v i) (leb→le ((n + 2 ^ i) * (n + 2 ^ i)) v) (nleb→lt ((n + 2 ^ i) * (n + 2 ^ i)) v) h

module _ (v : ℕ) (from : 2 ^ 46 ≤ v) (to : v < 2 ^ 48) where
  abbrev w : ℕ
  w = whole_root v 24 0

  at-w : Between v w (w + 1)
  at-w = found v 24 0 (omega arith, to)

  w-from : 2 ^ 23 ≤ w
  w-from = elim (lt-or-ge w (2 ^ 23)) [ inl l ↦ absurd (not-le_of_lt at-w.1 (le_trans (mul-le-mul {n₁ = w + 1} {m₁ = w + 1} {n₂ = 2 ^ 23} {m₂ = 2 ^ 23} (omega arith) (omega arith)) from)) | inr g ↦ g ]

  w-to : w < 2 ^ 24
  w-to = elim (lt-or-ge w (2 ^ 24)) [ inl l ↦ l | inr g ↦ absurd (not-le_of_lt to (le_trans (mul-le-mul {n₁ = 2 ^ 24} {m₁ = 2 ^ 24} {n₂ = w} {m₂ = w} g g) at-w.0)) ]

  abbrev Near : ℕ → Type 0
  Near n = (2 ^ 23 ≤ n) × (n ≤ 2 ^ 24) × NearRoot v n

  near : Near (near_root v)
  unfolding near_root
  near = pick (ltb w (v - w * w)) (ltb→lt w (v - w * w)) (nltb→le w (v - w * w))
    where
      pick : (t : Bool) → (T t → w < v - w * w) → (T (not t) → v - w * w ≤ w) → Near (cond t (w + 1) w)
      pick true y o = (omega (arith, w-from), omega (arith, w-to), go-up v w at-w.0 at-w.1 (y tt))
      pick false y o = (w-from, omega (arith, w-to), stay v w (omega (arith, w-from)) at-w.0 (o tt))

-- ---- the number by its digits and its exponent
abbrev Placed : ℕ → ℕ → Type 0
Placed e t = (size_of (2 ^ 23) e t * 2 ^ 24 ≡ digits e t * 2 ^ exponent e t) × (2 ^ 23 ≤ digits e t) × (digits e t < 2 ^ 24)

placed : (e t : ℕ) → t < 2 ^ 23 → (e ≡ 0 → 0 < t) → Placed e t
placed (suc e) t l p =
    let f : e + 24 ≡ 23 + suc e = omega arith in
    (mul_assoc (2 ^ 23 + t) (2 ^ e) (2 ^ 24) ∙ ap (λ (n : ℕ). (2 ^ 23 + t) * n) (sym (pow-add 2 e 24) ∙ ap (λ (n : ℕ). 2 ^ n) f), omega arith, omega arith)
placed zero t l p = at (size t) (size-lt t) (size-le t 23 l) (size_reaches t)
  where
    at : (z : ℕ) → t < 2 ^ z → z ≤ 23 → ((j : ℕ) → j < z → 2 ^ j ≤ t) → (t * 2 ^ 24 ≡ t * 2 ^ (24 - z) * 2 ^ z) × (2 ^ 23 ≤ t * 2 ^ (24 - z)) × (t * 2 ^ (24 - z) < 2 ^ 24)
    at zero h b r = absurd (let q = p refl in omega arith)
    at (suc z) h b r =
        let s : 24 - suc z + suc z ≡ 24 = omega arith in
        let d : z + (24 - suc z) ≡ 23 = omega arith in
        let u : suc z + (24 - suc z) ≡ 24 = omega arith in (
          sym (mul_assoc t (2 ^ (24 - suc z)) (2 ^ suc z) ∙ ap (λ (n : ℕ). t * n) (sym (pow-add 2 (24 - suc z) (suc z)) ∙ ap (λ (n : ℕ). 2 ^ n) s)),
          le_trans (le_of_eq (sym (sym (pow-add 2 z (24 - suc z)) ∙ ap (λ (n : ℕ). 2 ^ n) d))) (mul-le-mul_right (2 ^ (24 - suc z)) (r z (omega arith))),
          subst (λ (n : ℕ). t * 2 ^ (24 - suc z) < 2 ^ n) u (shl_lt (suc z) (24 - suc z) h),
        )

pub number-rooted : (x : ℕ) → 0 < x → Rooted x (root_of_number (digits (x / 2 ^ 23) (x % 2 ^ 23)) (exponent (x / 2 ^ 23) (x % 2 ^ 23)))
unfolding root_of_number
number-rooted x p =
    let e = x / 2 ^ 23 in
    let t = x % 2 ^ 23 in
    let g = placed e t (mod-lt x (pow_pos 23)) (λ z. omega arith) in
    let m = digits e t in
    let k = exponent e t in
    let n = near (m * 2 ^ (23 + k % 2)) (scaled-from m k g.1) (scaled-to m k g.2) in
    rooted x m k (near_root (m * 2 ^ (23 + k % 2))) g.0 g.1 g.2 n.0 n.1 n.2

-- ---- the cases of the definition
module _ (x : ℕ) where
  pub at_zero : x ≡ 0 → root x ≡ x
  unfolding root
  at_zero e = simp (eq-eqb x 0 e)

  pub at-number : 0 < x → x < top → root x ≡ root_of_number (digits (x / 2 ^ 23) (x % 2 ^ 23)) (exponent (x / 2 ^ 23) (x % 2 ^ 23))
  unfolding root
  at-number p h = simp (ne_eqb x 0 (λ e. omega arith), lt-ltb x top h)

  pub at-infinity : x ≡ top → root x ≡ x
  unfolding root
  at-infinity e = simp (ne_eqb x 0 (λ z. omega arith), le-ltb x top (le_of_eq (sym e)), eq-eqb x top e)

  pub at-minus-zero : x ≡ 0x8000_0000 → root x ≡ x
  unfolding root
  at-minus-zero e = simp (ne_eqb x 0 (λ z. omega arith), le-ltb x top (omega arith), ne_eqb x top (λ z. omega arith), eq-eqb x 0x8000_0000 e)

  pub at_rest : top < x → (x ≡ 0x8000_0000 → ⊥) → root x ≡ 0x7FC0_0000
  unfolding root
  at_rest l n = simp (ne_eqb x 0 (λ z. omega arith), le-ltb x top (omega arith), ne_eqb x top (λ z. omega arith), ne_eqb x 0x8000_0000 n)

-- ---- the whole rule
pub root-meets : (x : ℕ) → x < 2 ^ 32 → RootRule x (root x)
root-meets x l = record {
  zero = λ z. elim (lt-or-ge x (2 ^ 31)) [ inl m ↦ at_zero x (omega arith) | inr g ↦ at-minus-zero x (omega arith) ];
  infinite = at-infinity x;
  other = at_rest x;
  number = λ p h. subst (Rooted x) (sym (at-number x p h)) (number-rooted x p);
}
