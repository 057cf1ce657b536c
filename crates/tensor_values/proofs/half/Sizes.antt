-- What `widen_size` works out is the half: of a subnormal by one test over the 1,024 mantissas, else by the fields. Assumes nothing.
use mathlib.Core.Path.{◌≡◌, refl, sym, ap₂, ◌∙◌}
use mathlib.Core.Bool.{Bool, true, false, not, ◌&&◌, cond}
use mathlib.Core.Logic.{inl, inr}
use Prim.Native.Nat.{ℕ, ◌+◌, ◌*◌, ◌/◌, ◌%◌, ◌^◌, ◌<◌, ◌≤◌}
use native.Mathlib.Omega.{arith}
use borrow.Author.Tests.{eqb-true, lt-ltb, le-ltb}
use denote.Floats.{passes}
use lib.Dec.{T, eqb, ltb}
use lib.Bits.{bit_and, and_high}
use lib.Count.{count_leading_zeros}
use lib.Ieee.{Float, binary32, of_bits, to_bits, sub, is_nan, nan_bits}
use Rattle.buffers.specs.Rows.{all}
use Rattle.buffers.proofs.Lists.{all-at, and_left, and_right}
use Rattle.number_floats.proofs.Ways.{lt-or-ge}
use Rattle.number_bf16_half_root.specs.Half.{subnormal, half_size, half}
use Rattle.number_bf16_half_root.proofs.half.Fields.{at-subnormal, at-normal, at-special, half-size-lt}

-- ---- a subnormal of mantissa m: m behind the leading one of 2 ^ -14, and 2 ^ -14 taken off
abbrev pub behind : ℕ → ℕ
behind m = 0x3880_0000 + m * 2 ^ 13

abbrev pub taken : ℕ → Float
taken m = sub binary32 (of_bits binary32 (behind m)) (of_bits binary32 0x3880_0000)

right : ℕ → Bool
right m = not (nan_bits binary32 (behind m)) && (not (is_nan (taken m)) && eqb (to_bits binary32 (taken m)) (subnormal m))

all_right : all 1024 right ≡ true
unfolding all right nan_bits is_nan sub of_bits to_bits subnormal count_leading_zeros
all_right = refl

pub record Taken (m : ℕ) : Type 0 where
  pub from : T (not (nan_bits binary32 (behind m)))
  pub number : T (not (is_nan (taken m)))
  pub is : to_bits binary32 (taken m) ≡ subnormal m

pub taken-off : (m : ℕ) → m < 1024 → Taken m
unfolding right
taken-off m h =
    let a = not (nan_bits binary32 (behind m)) in
    let b = not (is_nan (taken m)) in
    let d = eqb (to_bits binary32 (taken m)) (subnormal m) in
    let e = all-at 1024 right all_right m h in
    let f = and_right a (b && d) e in
    record {
      from = passes a (and_left a (b && d) e);
      number = passes b (and_left b d f);
      is = eqb-true _ _ (and_right b d f);
    }

pub more-le : (size : ℕ) → cond (ltb size 0xF80_0000) 0 0x3800_0000 ≤ 0x3800_0000
more-le size = go (ltb size 0xF80_0000)
  where
    go : (b : Bool) → cond b 0 0x3800_0000 ≤ 0x3800_0000
    go true = omega arith
    go false = omega arith

-- ---- the bits below the sign, by their fields: the exponent's from bit 23 on, and 10 digits from bit 13
module _ (size : ℕ) (d : size % 2 ^ 13 ≡ 0) (l : size < 2 ^ 28) where
  pub as-subnormal : size < 2 ^ 23 → to_bits binary32 (taken (size / 2 ^ 13 % 2 ^ 10)) ≡ half_size (size / 2 ^ 23) (size / 2 ^ 13 % 2 ^ 10)
  as-subnormal h = let m = size / 2 ^ 13 % 2 ^ 10 in (taken-off m (omega arith)).is ∙ sym (at-subnormal (size / 2 ^ 23) m (omega arith))

  pub as-other : 2 ^ 23 ≤ size → 0x3800_0000 + size + cond (ltb size 0xF80_0000) 0 0x3800_0000 ≡ half_size (size / 2 ^ 23) (size / 2 ^ 13 % 2 ^ 10)
  as-other h = let e = size / 2 ^ 23 in let m = size / 2 ^ 13 % 2 ^ 10 in elim (lt-or-ge size 0xF80_0000) [
    | inl k ↦ simp (lt-ltb size 0xF80_0000 k) (sym (at-normal e m (λ z. omega arith) (λ z. omega arith) ∙ omega arith))
    | inr k ↦ simp (le-ltb size 0xF80_0000 k) (sym (at-special e m (omega arith) ∙ omega arith))
  ]

-- ---- with the sign, from the high half of w
module _ (w : ℕ) (H : w < 2 ^ 32) where
  pub size_is : bit_and w 0x7FFF_0000 / 2 ^ 3 ≡ w / 2 ^ 16 % 2 ^ 15 * 2 ^ 13
  size_is = omega (arith, and_high w 15 16)

  sign-is : w / 2 ^ 31 * 2 ^ 31 % 2 ^ 32 ≡ w / 2 ^ 16 / 2 ^ 15 * 2 ^ 31
  sign-is = let e : w / 2 ^ 31 ≡ w / 2 ^ 16 / 2 ^ 15 = omega arith in omega arith

  pub signed : (s r : ℕ) → s ≡ w / 2 ^ 16 % 2 ^ 15 * 2 ^ 13 → r ≡ half_size (s / 2 ^ 23) (s / 2 ^ 13 % 2 ^ 10) → (w / 2 ^ 31 * 2 ^ 31 % 2 ^ 32 + r < 2 ^ 32) × (w / 2 ^ 31 * 2 ^ 31 % 2 ^ 32 + r ≡ half (w / 2 ^ 16))
  unfolding half
  signed s r e g =
      let h = w / 2 ^ 16 in
      let x : s / 2 ^ 23 ≡ h / 2 ^ 10 % 2 ^ 5 = omega arith in
      let m : s / 2 ^ 13 % 2 ^ 10 ≡ h % 2 ^ 10 = omega arith in
      let q : r ≡ half_size (h / 2 ^ 10 % 2 ^ 5) (h % 2 ^ 10) = g ∙ ap₂ half_size x m in
      let b = half-size-lt (h / 2 ^ 10 % 2 ^ 5) (h % 2 ^ 10) (omega arith) (omega arith) in
      (omega (arith, q, b), rw (sign-is, q))
