-- The size of a float by its pattern, and the pattern nearest to a given size. Assumes nothing.
use Rattle.std.specs.Prelude.{◌≡◌, ℕ, zero, suc, ◌+◌, ◌-◌, ◌*◌, ◌/◌, ◌%◌, ◌^◌, ◌≤◌, ◌≢◌}

-- the size that an exponent's field and the digits below the leading one stand for, in units of the format's smallest number. h is the leading digit's weight
abbrev pub size_of : ℕ → ℕ → ℕ → ℕ
size_of h zero t = t
size_of h (suc x) t = (h + t) * 2 ^ x

-- the same by the bits below the sign
abbrev pub count : ℕ → ℕ → ℕ
count h b = size_of h (b / h) (b % h)

-- in units of 2 ^ -1074: an f64, and an f32, whose own smallest is 2 ^ -149. At plus infinity's bits, 0x7F80_0000, the second is 2 ^ 128
abbrev pub size64 : ℕ → ℕ
size64 b = count (2 ^ 52) b

abbrev pub size32 : ℕ → ℕ
size32 b = count (2 ^ 23) b * 2 ^ 925

abbrev pub gap : ℕ → ℕ → ℕ
gap a b = (a - b) + (b - a)

-- Of the numbers up to `top`, r is the one whose size f r is nearest to v. Of two that are equally near it is the even one.
pub record Nearest (f : ℕ → ℕ) (top v r : ℕ) : Type 0 where
  pub held : r ≤ top
  pub near : (q : ℕ) → q ≤ top → gap (f r) v ≤ gap (f q) v
  pub even : (q : ℕ) → q ≤ top → gap (f q) v ≡ gap (f r) v → (q ≢ r) → r % 2 ≡ 0
