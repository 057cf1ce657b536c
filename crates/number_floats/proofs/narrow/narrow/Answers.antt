-- `number_floats::narrow::narrow` meets its contract: what it returns meets the statement over integers, which one f32 alone does. Assumes nothing.
use Rattle.std.proofs.Common.{◌≡◌, ℕ, ◌+◌, ◌*◌, ◌/◌, ◌%◌, ◌^◌, ◌<◌, ◌≤◌, sym, refl, ap, ◌∙◌, subst, le_of_eq, lt_of_le_of_lt, not-le_of_lt, lit<, lit≤, shl_exact, shr_lt}
use lib.Bits.{bit_and, bit_or, and_mask, or_shifted}
use lib.Pow as Pow
use Rattle.number_floats.specs.Size.{size32, size64, Nearest}
use Rattle.number_floats.specs.Narrow.{Narrowed, narrow_bits}
use Rattle.number_floats.proofs.narrow.Pick.{at_top, unique}
use Rattle.number_floats.proofs.narrow.Core.{sized-grows}
use Rattle.number_floats.proofs.narrow.Meets.{narrow-meets, narrowed-unique}
use Rattle.number_floats.proofs.narrow.narrow.Goals as goal

abbrev top : ℕ
top = 0x7F80_0000

is-nan : (b : ℕ) → 0x7FF0_0000_0000_0000 < bit_and b 0x7FFF_FFFF_FFFF_FFFF → Narrowed b 0x7FC0_0000
is-nan b h =
    let l : 0x7FF0_0000_0000_0000 < b % 2 ^ 63 = subst (λ (n : ℕ). 0x7FF0_0000_0000_0000 < n) (and_mask b 63) h in
    record {
      nan = λ _. refl;
      sign = λ g. absurd (not-le_of_lt l g);
      near = λ g. absurd (not-le_of_lt l g);
      infinite = λ e. absurd (not-le_of_lt l (le_of_eq e));
    }

module _ (b n : ℕ) (B : b < 2 ^ 64) (N : Nearest size32 top (size64 (b % 2 ^ 63)) n) where
  abbrev r : ℕ
  r = bit_or (b / 2 ^ 63 * 2 ^ 31 % 2 ^ 32) n

  n-lt : n < 2 ^ 31
  n-lt = lt_of_le_of_lt N.held (lit< tt)

  r-is : r ≡ b / 2 ^ 63 * 2 ^ 31 + n
  r-is = ap (λ (x : ℕ). bit_or x n) (shl_exact 1 31 32 (shr_lt 1 63 B) (lit≤ tt)) ∙ or_shifted (b / 2 ^ 63) 31 n n-lt

  sign-is : r / 2 ^ 31 ≡ b / 2 ^ 63
  sign-is = ap (λ (x : ℕ). x / 2 ^ 31) r-is ∙ Pow.high (b / 2 ^ 63) 31 n-lt

  size_is : r % 2 ^ 31 ≡ n
  size_is = ap (λ (x : ℕ). x % 2 ^ 31) r-is ∙ Pow.low (b / 2 ^ 63) 31 n-lt

  at-infinity : b % 2 ^ 63 ≡ 0x7FF0_0000_0000_0000 → n ≡ top
  at-infinity e =
      unique size32 (sized-grows 925) top (size64 0x7FF0_0000_0000_0000) n top
      (subst (λ (x : ℕ). Nearest size32 top (size64 x) n) e N)
      (at_top size32 (sized-grows 925) top (size64 0x7FF0_0000_0000_0000) (lit≤ tt))

  is_number : b % 2 ^ 63 ≤ 0x7FF0_0000_0000_0000 → Narrowed b r
  is_number l = record {
    nan = λ g. absurd (not-le_of_lt g l);
    sign = λ _. sign-is;
    near = λ _. subst (λ (x : ℕ). Nearest size32 top (size64 (b % 2 ^ 63)) x) (sym size_is) N;
    infinite = λ e. size_is ∙ at-infinity e;
  }

-- so it is the definition's
only : (b r : ℕ) → b < 2 ^ 64 → Narrowed b r → r ≡ narrow_bits b
only b r h n = narrowed-unique b r (narrow_bits b) n (narrow-meets b h)

pub returns-then-a-gt9218868437227405312 : goal.returns-then-a-gt9218868437227405312
returns-then-a-gt9218868437227405312 c = let b = c.args.b in only b 0x7FC0_0000 c.ranges.b.fits (is-nan b c.if-a-gt9218868437227405312.true)

pub returns : goal.returns
returns c =
    let near : Nearest size32 top (size64 (c.args.b % 2 ^ 63)) c.narrow_size.result = subst (λ (x : ℕ). Nearest size32 top (size64 x) c.narrow_size.result) (and_mask c.args.b 63) c.narrow_size.ensures in
    let b = c.args.b in
    let n = c.narrow_size.result in
    only b (r b n c.ranges.b.fits (near)) c.ranges.b.fits
    (is_number b n c.ranges.b.fits (near) (subst (λ (x : ℕ). x ≤ 0x7FF0_0000_0000_0000) (and_mask b 63) c.if-a-gt9218868437227405312.false))
