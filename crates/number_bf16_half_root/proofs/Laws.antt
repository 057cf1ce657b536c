-- The statements of specs/Laws.antt. Assumes nothing.
use Rattle.std.proofs.Common.{◌≡◌, ℕ, ◌+◌, ◌*◌, ◌/◌, ◌%◌, ◌^◌, ◌<◌, ◌≤◌, T, leb, List, length, get_or, take, drop, sym, ap, ◌∙◌, subst, inl, inr, arith, take_at, le-leb}
use native.Mathlib.Nat.{min-eq_left}
use borrow.Author.Tests.{lt-leb}
use lib.Ieee.{binary32, of_bits, le}
use lib.Ieee.Bits.{is_true}
use Rattle.number_floats.proofs.Ways.{lt-or-ge}
use Rattle.buffers.specs.Region.{over}
use Rattle.buffers.specs.Each.{each}
use Rattle.buffers.proofs.Lists.{length-tab, get_or-tab, tab-ext}
use Rattle.number_bf16_half_root.specs.Bf16.{bf16}
use Rattle.number_bf16_half_root.specs.Packed.{packed, widened, front, packed_all, widened_all}
use Rattle.number_bf16_half_root.specs.Laws.{flipped, Twice, Either-order, Order-kept, Rounded-back, Same-back, Vector-back}
use Rattle.number_bf16_half_root.proofs.bf16.Order.{kept, finite-size, patterns, of-patterns}

pub twice : Twice
unfolding bf16
twice x = omega arith

-- bit 16 stays, whatever is added goes through the flip, and so does the clearing
flipped-bit : (x : ℕ) → flipped x / 2 ^ 16 % 2 ≡ x / 2 ^ 16 % 2
flipped-bit x = omega arith

flipped-sum : (x n : ℕ) → (flipped x + n) % 2 ^ 32 ≡ flipped ((x + n) % 2 ^ 32)
flipped-sum x n = omega arith

flipped-high : (y : ℕ) → y < 2 ^ 32 → flipped y / 2 ^ 16 * 2 ^ 16 ≡ flipped (y / 2 ^ 16 * 2 ^ 16)
flipped-high y h = omega arith

pub either_order : Either-order
unfolding bf16
either_order x =
    ap (λ (b : ℕ). (flipped x + (0x7FFF + b)) % 2 ^ 32 / 2 ^ 16 * 2 ^ 16) (flipped-bit x)
    ∙ ap (λ (n : ℕ). n / 2 ^ 16 * 2 ^ 16) (flipped-sum x (0x7FFF + x / 2 ^ 16 % 2))
    ∙ flipped-high ((x + (0x7FFF + x / 2 ^ 16 % 2)) % 2 ^ 32) (omega arith)

-- ---- the order

-- a pattern below plus infinity's goes to infinity's at most; 0 stays; and the rounded pattern grows with the pattern
module _ (m : ℕ) (h : m < 0x7F80_0000) where
  upto-infinity : bf16 m ≤ 0x7F80_0000
  unfolding bf16
  upto-infinity = omega arith

  high-below : m / 2 ^ 16 * 2 ^ 16 ≤ bf16 m
  unfolding bf16
  high-below = omega arith

  high-above : bf16 m ≤ (m / 2 ^ 16 + 1) * 2 ^ 16
  unfolding bf16
  high-above = omega arith

  unwrapped : bf16 m ≡ (m + (0x7FFF + m / 2 ^ 16 % 2)) / 2 ^ 16 * 2 ^ 16
  unfolding bf16
  unwrapped = let e : (m + (0x7FFF + m / 2 ^ 16 % 2)) % 2 ^ 32 ≡ m + (0x7FFF + m / 2 ^ 16 % 2) = omega arith in ap (λ (n : ℕ). n / 2 ^ 16 * 2 ^ 16) e

zero-kept : (m : ℕ) → m ≤ 0 → bf16 m ≤ 0
unfolding bf16
zero-kept m h = omega arith

rounded-grows : (m n : ℕ) → n < 0x7F80_0000 → m ≤ n → bf16 m ≤ bf16 n
rounded-grows m n h l = elim (lt-or-ge (m / 2 ^ 16) (n / 2 ^ 16)) [
  | inl k ↦ let a = high-above m (omega arith) in let b = high-below n h in omega arith
  | inr g ↦
      let e : m / 2 ^ 16 % 2 ≡ n / 2 ^ 16 % 2 = ap (λ (i : ℕ). i % 2) (omega arith) in
      rw (unwrapped m (omega arith), unwrapped n h, e) (step (n / 2 ^ 16 % 2))
]
  where
    step : (b : ℕ) → (m + (0x7FFF + b)) / 2 ^ 16 * 2 ^ 16 ≤ (n + (0x7FFF + b)) / 2 ^ 16 * 2 ^ 16
    step b = omega arith

-- a finite value keeps its sign, and what stands below the sign is rounded alone
fields : (x : ℕ) → x < 2 ^ 32 → x % 2 ^ 31 < 0x7F80_0000 → (leb (2 ^ 31) (bf16 x) ≡ leb (2 ^ 31) x) × (bf16 x % 2 ^ 31 ≡ bf16 (x % 2 ^ 31))
fields x h k = elim (lt-or-ge x (2 ^ 31)) [
  | inl l ↦
      let r : bf16 x ≡ bf16 (x % 2 ^ 31) = ap bf16 (omega arith) in
      (lt-leb (2 ^ 31) (bf16 x) (omega (arith, upto-infinity (x % 2 ^ 31) k)) ∙ sym (lt-leb (2 ^ 31) x l), omega (arith, upto-infinity (x % 2 ^ 31) k))
  | inr g ↦
      let e : x ≡ flipped (x % 2 ^ 31) = omega arith in
      let r : bf16 x ≡ flipped (bf16 (x % 2 ^ 31)) = ap bf16 e ∙ either_order (x % 2 ^ 31) in
      (le-leb (2 ^ 31) (bf16 x) (omega (arith, upto-infinity (x % 2 ^ 31) k)) ∙ sym (le-leb (2 ^ 31) x g), omega (arith, upto-infinity (x % 2 ^ 31) k))
]

pub order-kept : Order-kept
order-kept x y X Y p q h =
    let u = finite-size binary32 x (subst T (sym p) tt) in
    let v = finite-size binary32 y (subst T (sym q) tt) in
    let e = fields x X u in
    let g = fields y Y v in
    is_true (le (of_bits binary32 (bf16 x)) (of_bits binary32 (bf16 y)))
    (of-patterns binary32 (bf16 x) (bf16 y) (rw e.1 (upto-infinity (x % 2 ^ 31) u)) (rw g.1 (upto-infinity (y % 2 ^ 31) v))
    (rw (e.0, e.1, g.0, g.1)
    (kept (leb (2 ^ 31) x) (leb (2 ^ 31) y) (x % 2 ^ 31) (y % 2 ^ 31) (bf16 (x % 2 ^ 31)) (bf16 (y % 2 ^ 31))
    (rounded-grows (x % 2 ^ 31) (y % 2 ^ 31) v)
    (rounded-grows (y % 2 ^ 31) (x % 2 ^ 31) u)
    (zero-kept (x % 2 ^ 31))
    (zero-kept (y % 2 ^ 31))
    (patterns binary32 x y u v (subst T (sym h) tt)))))

-- ---- the packed form

pub rounded-back : Rounded-back
unfolding bf16
rounded-back x = omega arith

pub same_back : Same-back
unfolding bf16
same_back b h =
    let e : widened b / 2 ^ 16 ≡ b = omega arith in
    let s : (widened b + (0x7FFF + b % 2)) % 2 ^ 32 ≡ widened b + (0x7FFF + b % 2) = omega arith in
    ap (λ (n : ℕ). (widened b + (0x7FFF + n % 2)) % 2 ^ 32 / 2 ^ 16 * 2 ^ 16 / 2 ^ 16) e ∙ ap (λ (n : ℕ). n / 2 ^ 16 * 2 ^ 16 / 2 ^ 16) s ∙ omega arith

-- the front of what was written, where there is room for all of x
front_of : (f : ℕ → ℕ) (x out : List ℕ) → length x ≤ length out → front f x out ≡ over (each 0 (length x) f x) out
front_of f x out h = ap (λ (n : ℕ). over (each 0 n f x) out) (min-eq_left h)

pub vector-back : Vector-back
unfolding packed_all widened_all
vector-back x store out h k =
    let n = length x in
    let stored = each 0 n packed x in
    let l : length stored ≡ n = length-tab n (λ i. packed (get_or x i 0)) in
    let t : take n (front packed x store) ≡ stored = ap (take n) (front_of packed x store h) ∙ take_at stored (drop (length stored) store) n l in
    ap (λ (b : List ℕ). front widened b out) t
    ∙ front_of widened stored out (rw l k)
    ∙ ap (λ (m : ℕ). over (each 0 m widened stored) out) l
    ∙ ap (λ (b : List ℕ). over b out) (tab-ext n (λ i. widened (get_or stored i 0)) (λ i. bf16 (get_or x i 0))
    (λ i m. ap widened (get_or-tab n i (λ j. packed (get_or x j 0)) 0 m) ∙ rounded-back (get_or x i 0)))
