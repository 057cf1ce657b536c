-- `narrow::round_shift` meets its contract. Assumes nothing.
use Rattle.std.proofs.Common.{◌≡◌, ℕ, ◌+◌, ◌-◌, ◌*◌, ◌/◌, ◌%◌, ◌^◌, ◌<◌, ◌≤◌, sym, ap, ◌∙◌, mod-lt, one-mul, div-le_self, add-one, arith, lit<, pow_pos, shl_exact}
use lib.Arith.{lt_of_le-ne}
use lib.Bits.{bit_and, and_mask}
use lib.Pow.{pow-lt}
use lib.Ieee.{nearest}
use lib.Ieee.Nearest.{closest}
use Rattle.number_floats.proofs.Ways.{compare-lt, compare-eq, compare-gt}
use Rattle.number_floats.proofs.narrow.round_shift.Goals as goal

-- the code's `1 << s`, and its `(m & (u - 1)) * 2`
abbrev u : ℕ → ℕ
u s = (1 * 2 ^ s) % 2 ^ 64

abbrev d : ℕ → ℕ → ℕ
d m s = bit_and m (u s - 1) * 2

module _ (m s : ℕ) (S : s < 63) where
  u-is : u s ≡ 2 ^ s
  u-is = shl_exact 1 s 64 (lit< tt) (omega arith) ∙ one-mul (2 ^ s)

  d-is : d m s ≡ m % 2 ^ s * 2
  d-is = ap (λ (n : ℕ). bit_and m (n - 1) * 2) u-is ∙ ap (λ (n : ℕ). n * 2) (and_mask m s)

  rest_lt : bit_and m (u s - 1) < 2 ^ 63
  rest_lt = lt (bit_and m (u s - 1)) (m % 2 ^ s) (2 ^ s) (2 ^ 63) d-is (mod-lt m (pow_pos s)) (pow-lt S)
    where
      lt : (a b c x : ℕ) → a * 2 ≡ b * 2 → b < c → c < x → a < x
      lt a b c x e h k = omega arith

  below : d m s < u s → m / 2 ^ s ≡ closest m (2 ^ s)
  below h = sym (ap (nearest (m / 2 ^ s)) (compare-lt (m % 2 ^ s * 2) (2 ^ s) (rw (d-is, u-is) at h)))

  level : d m s ≡ u s → m / 2 ^ s + bit_and (m / 2 ^ s) 1 ≡ closest m (2 ^ s)
  level h = ap (λ (n : ℕ). m / 2 ^ s + n) (and_mask (m / 2 ^ s) 1) ∙ sym (ap (nearest (m / 2 ^ s)) (compare-eq (m % 2 ^ s * 2) (2 ^ s) (sym d-is ∙ h ∙ u-is)))

  above : u s ≤ d m s → (d m s ≡ u s → ⊥) → m / 2 ^ s + 1 ≡ closest m (2 ^ s)
  above h n = add-one (m / 2 ^ s) ∙ sym (ap (nearest (m / 2 ^ s)) (compare-gt (m % 2 ^ s * 2) (2 ^ s) (rw (d-is, u-is) at (lt_of_le-ne h (λ e. n (sym e))))))

pub overflow_sub-twice : goal.overflow_sub-twice
overflow_sub-twice c = rw (u-is c.args.m c.args.s c.requires.1) (pow_pos c.args.s)

pub overflow_mul-twice : goal.overflow_mul-twice
overflow_mul-twice c = omega (arith, rest_lt c.args.m c.args.s c.requires.1)

pub overflow_add-result : goal.overflow_add-result
overflow_add-result c =
    let l : c.args.m / 2 ^ c.args.s ≤ c.args.m = div-le_self c.args.m (2 ^ c.args.s) in
    omega (arith, and_mask (c.args.m / 2 ^ c.args.s) 1, c.requires.2)

pub overflow_add-result-else-twice-unit-2 : goal.overflow_add-result-else-twice-unit-2
overflow_add-result-else-twice-unit-2 c =
    let l : c.args.m / 2 ^ c.args.s ≤ c.args.m = div-le_self c.args.m (2 ^ c.args.s) in
    omega (arith, c.requires.2)

pub returns-then-twice-unit : goal.returns-then-twice-unit
returns-then-twice-unit c = below c.args.m c.args.s c.requires.1 c.if-twice-unit.true

pub returns-then-twice-unit-2 : goal.returns-then-twice-unit-2
returns-then-twice-unit-2 c = level c.args.m c.args.s c.requires.1 c.if-twice-unit-2.true

pub returns-else-twice-unit-2 : goal.returns-else-twice-unit-2
returns-else-twice-unit-2 c = above c.args.m c.args.s c.requires.1 c.if-twice-unit.false c.if-twice-unit-2.false
