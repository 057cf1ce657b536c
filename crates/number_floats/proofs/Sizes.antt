-- `count` grows with the bits. Assumes nothing.
use Rattle.std.proofs.Common.{◌≡◌, ℕ, zero, suc, ◌+◌, ◌-◌, ◌*◌, ◌/◌, ◌%◌, ◌^◌, ◌<◌, ◌≤◌, ◌⊎◌, sym, ap, ◌∙◌, subst, ap₂, inl, inr, le_of_suc-le-suc, not-suc-le-zero, add-zero, lt_irrefl, mod-lt, eq-or-lt_of_le, mul-lt-mul_of_pos_right, pow-suc, div-add-mod', mul-one, not-le_of_lt, arith, pow_pos}
use lib.Arith.{digits_div, digits_mod}
use Rattle.number_floats.proofs.Ways.{lt-or-ge}
use Rattle.number_floats.specs.Size.{size_of, count}

-- the count of bits that are given by their two fields
pub at_fields : (h x t : ℕ) → t < h → count h (x * h + t) ≡ size_of h x t
at_fields h x t l = ap₂ (size_of h) (digits_div x l) (digits_mod x l)

-- one more digit, in the same field; and the first of the next field
in_field : (h x t : ℕ) → size_of h x t < size_of h x (suc t)
in_field h zero t = omega arith
in_field h (suc x) t = let l : (h + t) * 2 ^ x < (h + suc t) * 2 ^ x = mul-lt-mul_of_pos_right (omega arith) (pow_pos x) in l

next_field : (h x t : ℕ) → t < h → size_of h x t < size_of h (suc x) 0
next_field h zero t l = let e : (h + 0) * 2 ^ 0 ≡ h = mul-one (h + 0) ∙ add-zero h in omega arith
next_field h (suc x) t l =
    let g : (h + t) * 2 ^ x < (h + h) * 2 ^ x = mul-lt-mul_of_pos_right (omega arith) (pow_pos x) in
    let e : (h + 0) * 2 ^ suc x ≡ (h + 0) * (2 ^ x * 2) = ap (λ (n : ℕ). (h + 0) * n) (pow-suc 2 x) in
    omega arith

module _ (h : ℕ) (H : 0 < h) where
  pub step : (b : ℕ) → count h b < count h (suc b)
  step b =
      let x = b / h in
      let t = b % h in
      let l : t < h = mod-lt b H in
      let e : x * h + t ≡ b = div-add-mod' b h in
      elim (eq-or-lt_of_le l) [
        | inl last ↦
            subst (λ (n : ℕ). count h b < n)
            (sym (at_fields h (suc x) 0 H) ∙ ap (count h) (omega arith))
            (next_field h x t l)
        | inr more ↦
            subst (λ (n : ℕ). count h b < n)
            (sym (at_fields h x (suc t) more) ∙ ap (count h) (omega arith))
            (in_field h x t)
      ]

  pub grows : (a b : ℕ) → a < b → count h a < count h b
  grows a zero l = absurd (not-suc-le-zero l)
  grows a (suc b) l = elim (eq-or-lt_of_le (le_of_suc-le-suc l)) [ inl e ↦ subst (λ (n : ℕ). count h n < count h (suc b)) (sym e) (step b) | inr m ↦ omega (arith, grows a b m, step b) ]

  -- two patterns of one size are the same
  pub size_same : (r s : ℕ) → count h r ≡ count h s → r ≡ s
  size_same r s e = elim (lt-or-ge r s) [
    | inl l ↦ absurd (lt_irrefl (count h s) (subst (λ (n : ℕ). n < count h s) e (grows r s l)))
    | inr g ↦ elim (eq-or-lt_of_le g) [ inl p ↦ sym p | inr l ↦ absurd (lt_irrefl (count h r) (subst (λ (n : ℕ). n < count h r) (sym e) (grows s r l))) ]
  ]

-- the count where the exponent's field and the digits are written as one number, q, with a carry at q = 2 * h too
pub at-kept : (h k q : ℕ) → 0 < h → (k ≡ 0) ⊎ (h ≤ q) → q ≤ 2 * h → count h (k * h + q) ≡ q * 2 ^ k
at-kept h k q H d l = by_size (lt-or-ge q h)
  where
    -- q fits the digits: the first field
    small : q < h → (k ≡ 0) ⊎ (h ≤ q) → count h (k * h + q) ≡ q * 2 ^ k
    small s (inl z) = at_fields h k q s ∙ subst (λ (n : ℕ). size_of h n q ≡ q * 2 ^ n) (sym z) (sym (mul-one q))
    small s (inr g) = absurd (not-le_of_lt s g)

    full : h ≤ q → (q ≡ 2 * h) ⊎ (q < 2 * h) → count h (k * h + q) ≡ q * 2 ^ k
    full g (inl e) =
        ap (count h) (omega arith) ∙ at_fields h (suc (suc k)) 0 H
        ∙ (let p : (h + 0) * 2 ^ suc k ≡ (h + 0) * (2 ^ k * 2) = ap (λ (n : ℕ). (h + 0) * n) (pow-suc 2 k) in
        let r : q * 2 ^ k ≡ 2 * h * 2 ^ k = ap (λ (n : ℕ). n * 2 ^ k) e in omega arith)
    full g (inr s) =
        ap (count h) (omega arith) ∙ at_fields h (suc k) (q - h) (omega arith)
        ∙ ap (λ (n : ℕ). n * 2 ^ k) (omega arith)

    by_size : (q < h) ⊎ (h ≤ q) → count h (k * h + q) ≡ q * 2 ^ k
    by_size (inl s) = small s d
    by_size (inr g) = full g (eq-or-lt_of_le l)
