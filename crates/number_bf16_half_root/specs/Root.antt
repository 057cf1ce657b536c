-- The root of an f32, by its pattern: the nearest f32, stated over integers; and the one that meets it, digit by digit. Assumes nothing.
use Rattle.std.specs.Prelude.{◌≡◌, ℕ, zero, suc, ◌+◌, ◌-◌, ◌*◌, ◌/◌, ◌%◌, ◌^◌, ◌<◌, ◌≤◌, cond, ◌==◌, ◌≢◌, from_bits, nat_le, nat_lt, to_bits, Float}
use Rattle.std.specs.Float.{binary32}
use Rattle.std.specs.Float.Ieee.{size}
use Rattle.number_floats.specs.Size.{count}

-- ---- the rule, over integers

-- n is the rounded root of v
pub record NearRoot (v n : ℕ) : Type 0 where
  pub above : (2 * n - 1) * (2 * n - 1) < 4 * v
  pub below : 4 * v < (2 * n + 1) * (2 * n + 1)

-- The f32 with pattern x, finite and above zero, is v * 2 ^ (2 * (s - 149)) with 2 ^ 46 ≤ v < 2 ^ 48, and the one with pattern r is n * 2 ^ (s - 149), n the rounded root of v.
-- `count` has an f32's size in units of 2 ^ -149.
pub record Rooted (x r : ℕ) : Type 0 where
  pub s : ℕ
  pub v : ℕ
  pub n : ℕ
  pub value : count (2 ^ 23) x * 2 ^ 149 ≡ v * 2 ^ (2 * s)
  pub from : 2 ^ 46 ≤ v
  pub to : v < 2 ^ 48
  pub near : NearRoot v n
  pub root : count (2 ^ 23) r ≡ n * 2 ^ s

-- the whole rule: either zero and plus infinity give themselves, a number below zero and a NaN give 0x7FC0_0000
pub record RootRule (x r : ℕ) : Type 0 where
  pub zero : x % 2 ^ 31 ≡ 0 → r ≡ x
  pub infinite : x ≡ 0x7F80_0000 → r ≡ x
  pub other : 0x7F80_0000 < x → (x ≢ 0x8000_0000) → r ≡ 0x7FC0_0000
  pub number : 0 < x → x < 0x7F80_0000 → Rooted x r

-- ---- the root, by the digits of a whole root: it meets the rule, and nothing else does (proofs/root)

-- the largest n below 2 ^ 24 whose square is at most v, found digit by digit: n holds the digits above the i that are left
unfoldable pub whole_root : ℕ → ℕ → ℕ → ℕ
whole_root v zero n = n
whole_root v (suc i) n = whole_root v i (cond (nat_le ((n + 2 ^ i) * (n + 2 ^ i)) v) (n + 2 ^ i) n)

-- the nearest whole number to v's root
unfoldable pub near_root : ℕ → ℕ
near_root v = let n = whole_root v 24 0 in cond (nat_lt n (v - n * n)) (n + 1) n

-- A number above zero, by its exponent's field and its digits, is m * 2 ^ (k - 173) for an m of 24 digits: `digits` is m, and `exponent` is k.
abbrev pub digits : ℕ → ℕ → ℕ
digits zero t = t * 2 ^ (24 - size t)
digits (suc e) t = 2 ^ 23 + t

abbrev pub exponent : ℕ → ℕ → ℕ
exponent zero t = size t
exponent (suc e) t = 23 + suc e

-- Scaled by an even power of two it is v * 2 ^ (2 * (s - 149)) with v of 47 or 48 digits, so its root is n * 2 ^ (s - 149), n the root of v.
-- The pattern of that is s * 2 ^ 23 + n: n's leading digit is one in the exponent's field.
unfoldable pub root_of_number : ℕ → ℕ → ℕ
root_of_number m k = (51 + k / 2) * 2 ^ 23 + near_root (m * 2 ^ (23 + k % 2))

-- either zero and plus infinity give themselves; a number below zero and a NaN, which are the patterns above plus infinity's but -0, give a NaN
unfoldable pub root : ℕ → ℕ
root x =
    cond (x == 0) x
    (cond (nat_lt x 0x7F80_0000) (root_of_number (digits (x / 2 ^ 23) (x % 2 ^ 23)) (exponent (x / 2 ^ 23) (x % 2 ^ 23)))
    (cond (x == 0x7F80_0000) x
    (cond (x == 0x8000_0000) x
    0x7FC0_0000)))

unfoldable pub root_of : Float → Float
root_of x = from_bits binary32 (root (to_bits binary32 x))
