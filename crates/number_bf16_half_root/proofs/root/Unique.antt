-- One f32 alone meets the statement of a root, and one pattern alone the whole rule. Assumes nothing.
use Rattle.std.proofs.Common.{◌≡◌, ℕ, ◌+◌, ◌-◌, ◌*◌, ◌%◌, ◌^◌, ◌<◌, ◌≤◌, sym, refl, ap, ◌∙◌, subst, ap₂, inl, inr, le_trans, lt_of_lt_of_le, le_of_lt, lt_irrefl, mul-le-mul, eq-or-lt_of_le, mul-lt-mul_of_pos_right, arith, lit<, pow_pos, pow_mono, pow-add}
use native.Mathlib.Nat.{eq_of_mul-eq-mul_right}
use Rattle.number_floats.specs.Size.{count}
use Rattle.number_floats.proofs.Ways.{lt-or-ge}
use Rattle.number_floats.proofs.Sizes.{size_same}
use Rattle.number_bf16_half_root.specs.Root.{NearRoot, Rooted, RootRule}

-- a larger scale has a larger value
apart : (v s w t : ℕ) → v < 2 ^ 48 → 2 ^ 46 ≤ w → s < t → v * 2 ^ (2 * s) < w * 2 ^ (2 * t)
apart v s w t hv hw l =
    let a : v * 2 ^ (2 * s) < 2 ^ 48 * 2 ^ (2 * s) = mul-lt-mul_of_pos_right hv (pow_pos (2 * s)) in
    let b : 2 ^ (2 * s + 2) ≤ 2 ^ (2 * t) = pow_mono {i = 2 * s + 2} {j = 2 * t} (omega arith) in
    let c : 2 ^ 46 * 2 ^ (2 * s + 2) ≤ w * 2 ^ (2 * t) = mul-le-mul hw b in
    let d : 2 ^ (2 * s + 2) ≡ 2 ^ (2 * s) * 2 ^ 2 = pow-add 2 (2 * s) 2 in
    omega arith

scale_same : (v s w t : ℕ) → 2 ^ 46 ≤ v → v < 2 ^ 48 → 2 ^ 46 ≤ w → w < 2 ^ 48 → v * 2 ^ (2 * s) ≡ w * 2 ^ (2 * t) → s ≡ t
scale_same v s w t a b c d e = elim (lt-or-ge s t) [
  | inl l ↦ absurd (lt_irrefl (w * 2 ^ (2 * t)) (subst (λ (n : ℕ). n < w * 2 ^ (2 * t)) e (apart v s w t b c l)))
  | inr g ↦ elim (eq-or-lt_of_le g) [ inl p ↦ sym p | inr l ↦ absurd (lt_irrefl (v * 2 ^ (2 * s)) (subst (λ (n : ℕ). n < v * 2 ^ (2 * s)) (sym e) (apart w t v s d a l))) ]
]

crossed : (v n m : ℕ) → NearRoot v n → NearRoot v m → n < m → ⊥
crossed v n m p q l =
    let s : (2 * n + 1) * (2 * n + 1) ≤ (2 * m - 1) * (2 * m - 1) = mul-le-mul {n₁ = 2 * n + 1} {m₁ = 2 * n + 1} {n₂ = 2 * m - 1} {m₂ = 2 * m - 1} (omega arith) (omega arith) in
    lt_irrefl (4 * v) (lt_of_lt_of_le p.below (le_trans s (le_of_lt q.above)))

root-same : (v n m : ℕ) → NearRoot v n → NearRoot v m → n ≡ m
root-same v n m p q = elim (lt-or-ge n m) [ inl l ↦ absurd (crossed v n m p q l) | inr g ↦ elim (eq-or-lt_of_le g) [ inl e ↦ sym e | inr l ↦ absurd (crossed v m n q p l) ] ]

pub rooted-unique : (x r q : ℕ) → Rooted x r → Rooted x q → r ≡ q
rooted-unique x r q a b =
    let e : a.v * 2 ^ (2 * a.s) ≡ b.v * 2 ^ (2 * b.s) = sym a.value ∙ b.value in
    let s : a.s ≡ b.s = scale_same a.v a.s b.v b.s a.from a.to b.from b.to e in
    let v : a.v ≡ b.v = eq_of_mul-eq-mul_right (2 ^ (2 * b.s)) (pow_pos (2 * b.s)) a.v b.v (ap (λ (n : ℕ). a.v * 2 ^ (2 * n)) (sym s) ∙ e) in
    let n : a.n ≡ b.n = root-same b.v a.n b.n (subst (λ (z : ℕ). NearRoot z a.n) v a.near) b.near in
    size_same (2 ^ 23) (lit< tt) r q (a.root ∙ ap₂ (λ (x y : ℕ). x * 2 ^ y) n s ∙ sym b.root)

-- the special cases too
pub rule-unique : (x r q : ℕ) → RootRule x r → RootRule x q → r ≡ q
rule-unique x r q a b = elim (lt-or-ge x 0x7F80_0000) [
  | inl l ↦ elim (lt-or-ge 0 x) [ inl p ↦ rooted-unique x r q (a.number p l) (b.number p l) | inr g ↦ zeros 0 (omega arith) refl ]
  | inr g ↦ elim (eq-or-lt_of_le g) [
    | inl e ↦ a.infinite (sym e) ∙ sym (b.infinite (sym e))
    | inr l ↦ elim (lt-or-ge x 0x8000_0000) [
      | inl m ↦ others l (λ e. omega arith)
      | inr h ↦ elim (eq-or-lt_of_le h) [ inl e ↦ zeros 0x8000_0000 (sym e) refl | inr m ↦ others l (λ e. omega arith) ]
    ]
  ]
]
  where
    zeros : (z : ℕ) → x ≡ z → z % 2 ^ 31 ≡ 0 → r ≡ q
    zeros z e m = let n : x % 2 ^ 31 ≡ 0 = ap (λ (k : ℕ). k % 2 ^ 31) e ∙ m in a.zero n ∙ sym (b.zero n)

    others : 0x7F80_0000 < x → (x ≡ 0x8000_0000 → ⊥) → r ≡ q
    others l n = a.other l n ∙ sym (b.other l n)
