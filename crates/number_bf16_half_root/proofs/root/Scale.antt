-- The numbers of `root_number`: x's size times 2 ^ 24 is m * 2 ^ k. Assumes nothing.
use Rattle.std.proofs.Common.{◌≡◌, ℕ, zero, suc, ◌+◌, ◌-◌, ◌*◌, ◌/◌, ◌%◌, ◌^◌, ◌<◌, ◌≤◌, ◌⊎◌, sym, refl, ap, ◌∙◌, subst, ap₂, inl, inr, lt_of_lt_of_le, lt_irrefl, mod-lt, mul_assoc, mul_comm, mul-le-mul, add_comm, mul-le-mul_left, mul-lt-mul_of_pos_right, pow-suc, mul-one, arith, lit<, lit≤, pow_pos, pow_mono, pow-add}
use Rattle.number_floats.specs.Size.{size_of, count}
use Rattle.number_floats.proofs.Sizes.{grows, at-kept}
use Rattle.number_bf16_half_root.specs.Root.{NearRoot, Rooted}

pub size-pos : (x : ℕ) → 0 < x → 0 < count (2 ^ 23) x
size-pos x h = grows (2 ^ 23) (lit< tt) 0 x h

-- the start, in a field above 0 and in field 0
pub start-normal : (x : ℕ) → 0 < x / 2 ^ 23 → count (2 ^ 23) x * 2 ^ 24 ≡ (x % 2 ^ 23 + 2 ^ 23) * 2 ^ (23 + x / 2 ^ 23)
start-normal x h = at_field (x / 2 ^ 23) (x % 2 ^ 23) h
  where
    at_field : (e t : ℕ) → 0 < e → size_of (2 ^ 23) e t * 2 ^ 24 ≡ (t + 2 ^ 23) * 2 ^ (23 + e)
    at_field zero t p = absurd (lt_irrefl 0 p)
    at_field (suc y) t p =
        let e : y + 24 ≡ 23 + suc y = omega arith in
        mul_assoc (2 ^ 23 + t) (2 ^ y) (2 ^ 24) ∙ ap₂ (λ (a b : ℕ). a * b) (add_comm (2 ^ 23) t) (sym (pow-add 2 y 24) ∙ ap (λ (n : ℕ). 2 ^ n) e)

pub start_small : (x : ℕ) → x / 2 ^ 23 ≡ 0 → count (2 ^ 23) x * 2 ^ 24 ≡ x % 2 ^ 23 * 2 ^ 24
start_small x e = ap (λ (n : ℕ). size_of (2 ^ 23) n (x % 2 ^ 23) * 2 ^ 24) e

-- a turn
pub left : (X m k : ℕ) → 0 < X → m < 2 ^ 23 → X * 2 ^ 24 ≡ m * 2 ^ k → 0 < k
left X m zero p l e = absurd (let z : m * 2 ^ 0 ≡ m = mul-one m in omega arith)
left X m (suc k) p l e = omega arith

pub turn : (Y m k : ℕ) → 0 < k → Y ≡ m * 2 ^ k → Y ≡ m * 2 * 2 ^ (k - 1)
turn Y m zero p e = absurd (lt_irrefl 0 p)
turn Y m (suc k) p e =
    let z : suc k - 1 ≡ k = omega arith in
    e ∙ ap (λ (n : ℕ). m * n) (pow-suc 2 k ∙ mul_comm (2 ^ k) 2) ∙ sym (mul_assoc m 2 (2 ^ k)) ∙ ap (λ (n : ℕ). m * 2 * 2 ^ n) (sym z)

-- the end
pub scaled-from : (m k : ℕ) → 2 ^ 23 ≤ m → 2 ^ 46 ≤ m * 2 ^ (23 + k % 2)
scaled-from m k l = mul-le-mul l (pow_mono {i = 23} {j = 23 + k % 2} (omega arith))

pub scaled-to : (m k : ℕ) → m < 2 ^ 24 → m * 2 ^ (23 + k % 2) < 2 ^ 48
scaled-to m k l = lt_of_lt_of_le (mul-lt-mul_of_pos_right l (pow_pos (23 + k % 2))) (mul-le-mul_left (2 ^ 24) (pow_mono {i = 23 + k % 2} {j = 24} (omega arith)))

module _ (X m k : ℕ) (e : X * 2 ^ 24 ≡ m * 2 ^ k) where
  value-is : X * 2 ^ 149 ≡ m * 2 ^ (23 + k % 2) * 2 ^ (2 * (51 + k / 2))
  value-is =
      let f : k + 125 ≡ 23 + k % 2 + 2 * (51 + k / 2) = omega arith in
      sym (mul_assoc X (2 ^ 24) (2 ^ 125))
      ∙ ap (λ (n : ℕ). n * 2 ^ 125) e
      ∙ mul_assoc m (2 ^ k) (2 ^ 125)
      ∙ ap (λ (n : ℕ). m * n) (sym (pow-add 2 k 125) ∙ ap (λ (n : ℕ). 2 ^ n) f ∙ pow-add 2 (23 + k % 2) (2 * (51 + k / 2)))
      ∙ sym (mul_assoc m (2 ^ (23 + k % 2)) (2 ^ (2 * (51 + k / 2))))

pub rooted : (x m k n : ℕ) → count (2 ^ 23) x * 2 ^ 24 ≡ m * 2 ^ k → 2 ^ 23 ≤ m → m < 2 ^ 24
    → 2 ^ 23 ≤ n → n ≤ 2 ^ 24 → NearRoot (m * 2 ^ (23 + k % 2)) n → Rooted x ((51 + k / 2) * 2 ^ 23 + n)
rooted x m k n e lo hi a b near = record {
  s = 51 + k / 2;
  v = m * 2 ^ (23 + k % 2);
  n = n;
  value = value-is (count (2 ^ 23) x) m k e;
  from = scaled-from m k lo;
  to = scaled-to m k hi;
  near = near;
  root = at-kept (2 ^ 23) (51 + k / 2) n (lit< tt) (inr a) b;
}
