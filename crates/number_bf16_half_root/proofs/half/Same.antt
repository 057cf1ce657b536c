-- The f32 of a half is the same number: a half's smallest is 2 ^ -24 and an f32's 2 ^ -149. Assumes nothing.
use Rattle.std.proofs.Common.{◌≡◌, ℕ, zero, suc, ◌+◌, ◌-◌, ◌*◌, ◌/◌, ◌%◌, ◌^◌, ◌<◌, ◌≤◌, ◌⊎◌, sym, refl, ap, ◌∙◌, ap₂, inl, inr, lt_irrefl, mul_assoc, pow-suc, arith, lit<, pow-add}
use lib.Count.{count_leading_zeros}
use lib.Pow as Pow
use Rattle.number_floats.specs.Size.{size_of, count}
use Rattle.number_bf16_half_root.specs.Half.{subnormal, half_size, half}
use Rattle.number_floats.proofs.Ways.{lt-or-ge}
use Rattle.number_floats.proofs.Sizes.{at-kept}
use Rattle.number_bf16_half_root.proofs.half.Fields.{subnormal-is, shifted, at-subnormal, at-normal, half-size-lt}

number : (k t : ℕ) → 0 < k → t < 2 ^ 10 → count (2 ^ 23) (k * 2 ^ 23 + t * 2 ^ 13) ≡ (2 ^ 10 + t) * 2 ^ 12 * 2 ^ k
number zero t p l = absurd (lt_irrefl 0 p)
number (suc j) t p l =
    let e : suc j * 2 ^ 23 + t * 2 ^ 13 ≡ j * 2 ^ 23 + (2 ^ 10 + t) * 2 ^ 13 = omega arith in
    let f : (2 ^ 10 + t) * 2 ^ 13 * 2 ^ j ≡ (2 ^ 10 + t) * 2 ^ 12 * (2 ^ j * 2) = omega arith in
    ap (count (2 ^ 23)) e
    ∙ at-kept (2 ^ 23) j ((2 ^ 10 + t) * 2 ^ 13) (lit< tt) (inr (omega arith)) (omega arith)
    ∙ f
    ∙ ap (λ (x : ℕ). (2 ^ 10 + t) * 2 ^ 12 * x) (sym (pow-suc 2 j))

small : (m : ℕ) → m < 2 ^ 10 → (0 < m) ⊎ (m ≤ 0) → count (2 ^ 23) (subnormal m) ≡ m * 2 ^ 125
unfolding subnormal
small m l (inr g) = let z : m ≡ 0 = omega arith in ap (λ (x : ℕ). count (2 ^ 23) (subnormal x)) z ∙ sym (ap (λ (x : ℕ). x * 2 ^ 125) z)
small m l (inl p) =
    let s = count_leading_zeros 32 m - 21 in
    let h = shifted m p l in
    let d : 2 ^ 10 + m * 2 ^ s % 2 ^ 10 ≡ m * 2 ^ s = omega (arith, h.lo, h.hi) in
    let t : s + (12 + (113 - s)) ≡ 125 = omega (arith, h.most) in
    ap (count (2 ^ 23)) (subnormal-is m p)
    ∙ number (113 - s) (m * 2 ^ s % 2 ^ 10) (omega (arith, h.most)) (omega arith)
    ∙ ap (λ (x : ℕ). x * 2 ^ 12 * 2 ^ (113 - s)) d
    ∙ mul_assoc (m * 2 ^ s) (2 ^ 12) (2 ^ (113 - s))
    ∙ mul_assoc m (2 ^ s) (2 ^ 12 * 2 ^ (113 - s))
    ∙ ap (λ (x : ℕ). m * x) (sym (pow-add 2 s (12 + (113 - s)) ∙ ap (λ (x : ℕ). 2 ^ s * x) (pow-add 2 12 (113 - s))) ∙ ap (λ (x : ℕ). 2 ^ x) t)

normal : (e t : ℕ) → 0 < e → t < 2 ^ 10 → count (2 ^ 23) ((e + 127 - 15) * 2 ^ 23 + t * 2 ^ 13) ≡ size_of (2 ^ 10) e t * 2 ^ 125
normal zero t p l = absurd (lt_irrefl 0 p)
normal (suc x) t p l =
    let f : 12 + (suc x + 127 - 15) ≡ x + 125 = omega arith in
    number (suc x + 127 - 15) t (omega arith) l
    ∙ mul_assoc (2 ^ 10 + t) (2 ^ 12) (2 ^ (suc x + 127 - 15))
    ∙ ap (λ (z : ℕ). (2 ^ 10 + t) * z) (sym (pow-add 2 12 (suc x + 127 - 15)) ∙ ap (λ (z : ℕ). 2 ^ z) f ∙ pow-add 2 x 125)
    ∙ sym (mul_assoc (2 ^ 10 + t) (2 ^ x) (2 ^ 125))

fields-same : (e m : ℕ) → e < 31 → m < 2 ^ 10 → (e ≡ 0) ⊎ (0 < e) → count (2 ^ 23) (half_size e m) ≡ size_of (2 ^ 10) e m * 2 ^ 125
fields-same e m h l (inl z) = ap (count (2 ^ 23)) (at-subnormal e m z) ∙ small m l (lt-or-ge 0 m) ∙ sym (ap (λ (x : ℕ). size_of (2 ^ 10) x m * 2 ^ 125) z)
fields-same e m h l (inr p) = ap (count (2 ^ 23)) (at-normal e m (λ z. omega arith) (λ z. omega arith)) ∙ normal e m p l

-- a finite half keeps its sign and its size
module _ (h : ℕ) (H : h < 2 ^ 16) where
  below : half_size (h / 2 ^ 10 % 2 ^ 5) (h % 2 ^ 10) < 2 ^ 31
  below = half-size-lt (h / 2 ^ 10 % 2 ^ 5) (h % 2 ^ 10) (omega arith) (omega arith)

  pub same_sign : half h / 2 ^ 31 ≡ h / 2 ^ 15
  unfolding half
  same_sign = Pow.high (h / 2 ^ 15) 31 below

  pub same_size : h % 2 ^ 15 < 0x7C00 → count (2 ^ 23) (half h % 2 ^ 31) ≡ count (2 ^ 10) (h % 2 ^ 15) * 2 ^ 125
  unfolding half
  same_size f =
      let e = h / 2 ^ 10 % 2 ^ 5 in
      let m = h % 2 ^ 10 in
      let x : h % 2 ^ 15 / 2 ^ 10 ≡ e = Pow.field h 5 10 in
      let y : h % 2 ^ 15 % 2 ^ 10 ≡ m = Pow.mod-mod-pow h 5 10 in
      ap (count (2 ^ 23)) (Pow.low (h / 2 ^ 15) 31 below)
      ∙ fields-same e m (omega arith) (omega arith) (which e)
      ∙ sym (ap₂ (λ (a b : ℕ). size_of (2 ^ 10) a b * 2 ^ 125) x y)
    where
      which : (e : ℕ) → (e ≡ 0) ⊎ (0 < e)
      which zero = inl refl
      which (suc e) = inr (omega arith)
