-- An f64's pattern a with an exponent's field e in the f32s' normal range, or above it: the digits' nearest 24 are the f32's. Assumes nothing.
use Rattle.std.proofs.Common.{◌≡◌, ℕ, zero, suc, ◌+◌, ◌-◌, ◌*◌, ◌/◌, ◌%◌, ◌^◌, ◌<◌, ◌≤◌, sym, ap, ◌∙◌, subst, ap₂, inr, lt_irrefl, add_comm, arith}
use lib.Bits.{bit_and, and_mask}
use lib.Ieee.Nearest.{closest}
use Rattle.number_floats.specs.Size.{size_of, size32, size64, Nearest}
use Rattle.number_floats.proofs.narrow.Core.{rounded}

-- the digits, the leading one with them, as `narrow_size` has them
abbrev pub m : ℕ → ℕ
m a = bit_and a 0xF_FFFF_FFFF_FFFF + 0x10_0000_0000_0000

abbrev pub top : ℕ
top = 0x7F80_0000

pub m-is : (a : ℕ) → m a ≡ 2 ^ 52 + a % 2 ^ 52
m-is a = ap (λ (n : ℕ). n + 2 ^ 52) (and_mask a 52) ∙ add_comm (a % 2 ^ 52) (2 ^ 52)

pub m-lt : (a : ℕ) → m a < 2 ^ 53
m-lt a = omega (arith, m-is a)

pub m-ge : (a : ℕ) → 2 ^ 52 ≤ m a
m-ge a = omega (arith, m-is a)

-- a size whose field is above 0
pub normal : (a e : ℕ) → 0 < e → a / 2 ^ 52 ≡ e → m a * 2 ^ (e - 1) ≡ size64 a
normal a zero p h = absurd (lt_irrefl 0 p)
normal a (suc x) p h =
    let z : suc x - 1 ≡ x = omega arith in
    ap₂ (λ (n k : ℕ). n * 2 ^ k) (m-is a) z ∙ sym (ap (λ (n : ℕ). size_of (2 ^ 52) n (a % 2 ^ 52)) h)

-- in the normal range, and above
pub wide : (a e : ℕ) → a / 2 ^ 52 ≡ e → (r : ℕ) → 897 ≤ e → r ≡ (e - 897) * 2 ^ 23 + closest (m a) (2 ^ 29)
    → (r ≤ top → Nearest size32 top (size64 a) r) × (top ≤ r → Nearest size32 top (size64 a) top)
wide a e E r lo d =
    let f : 29 + (e - 1) ≡ e - 897 + 925 = omega arith in
    let x : m a / 2 ^ 29 < 2 ^ 24 = omega (arith, m-lt a) in
    let y : 2 ^ 23 ≤ m a / 2 ^ 29 = omega (arith, m-ge a) in
    subst (λ (n : ℕ). (n ≤ top → Nearest size32 top (size64 a) n) × (top ≤ n → Nearest size32 top (size64 a) top)) (sym d)
    (subst (λ (v : ℕ). (k ≤ top → Nearest size32 top v k) × (top ≤ k → Nearest size32 top v top)) (normal a e (omega arith) E)
    (rounded top 925 (m a) (e - 1) 29 (e - 897) f x (inr y)))
  where
    k : ℕ
    k = (e - 897) * 2 ^ 23 + closest (m a) (2 ^ 29)
