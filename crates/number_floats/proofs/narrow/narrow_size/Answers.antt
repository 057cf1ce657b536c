-- `narrow::narrow_size` meets its contract. Assumes nothing.
use Rattle.std.proofs.Common.{◌≡◌, ℕ, suc, ◌+◌, ◌-◌, ◌*◌, ◌/◌, ◌%◌, ◌^◌, ◌<◌, ◌≤◌, sym, refl, subst, ap₂, inl, zero-le, le_trans, le_of_eq, lt_of_lt_of_le, le_of_lt, div-lt_iff_lt-mul, zero-add, arith, lit<, lit≤, pow_mono, shl_exact, shr_lt}
use Prim.Native.Nat.{compare}
use lib.Ieee.Nearest.{closest}
use lib.Ieee.Fits.{nearest-le}
use Rattle.number_floats.specs.Size.{size32, size64, Nearest}
use Rattle.number_floats.proofs.Sizes.{grows}
use Rattle.number_floats.proofs.narrow.Pick.{low}
use Rattle.number_floats.proofs.narrow.Core.{sized-grows, rounded}
use Rattle.number_floats.proofs.narrow.Wide.{m, top, m-lt, normal, wide}
use Rattle.number_floats.proofs.narrow.narrow_size.Goals as goal

-- a size below half of the smallest f32
quarter : (v h x : ℕ) → v < h → h * 4 ≡ x → (v < x) × (2 * v ≤ x)
quarter v h x l e = omega arith

tiny : (a : ℕ) → a / 2 ^ 52 < 872 → Nearest size32 top (size64 a) 0
tiny a h =
    let l : size64 a < 2 ^ 923 = grows (2 ^ 52) (lit< tt) a (872 * 2 ^ 52) ((div-lt_iff_lt-mul (lit< tt)).0 h) in
    let r : (size64 a < 2 ^ 925) × (2 * size64 a ≤ 2 ^ 925) = quarter (size64 a) (2 ^ 923) (2 ^ 925) l refl in
    low size32 (sized-grows 925) top (size64 a) 0 zero-le r.0 zero-le r.1 (λ _. refl)

closest-le : (a b : ℕ) → closest a b ≤ suc (a / b)
closest-le a b = nearest-le (a / b) (compare (a % b * 2) b)

module _ (a e : ℕ) (E : a / 2 ^ 52 ≡ e) where
  -- below the f32s' normal range
  module _ (lo : 872 ≤ e) (hi : e < 897) where
    kept-lt : m a / 2 ^ (926 - e) < 2 ^ 24
    kept-lt = shr_lt 24 (926 - e) (lt_of_lt_of_le (m-lt a) (pow_mono {i = 53} {j = 24 + (926 - e)} (omega arith)))

    low-le : closest (m a) (2 ^ (926 - e)) ≤ 2 ^ 24
    low-le = le_trans (closest-le (m a) (2 ^ (926 - e))) kept-lt

    subnormal : Nearest size32 top (size64 a) (closest (m a) (2 ^ (926 - e)))
    subnormal =
        let r = closest (m a) (2 ^ (926 - e)) in
        let f : 926 - e + (e - 1) ≡ 0 + 925 = omega arith in
        subst (λ (n : ℕ). Nearest size32 top n r) (normal a e (omega arith) E)
        (subst (λ (n : ℕ). Nearest size32 top (m a * 2 ^ (e - 1)) n) (zero-add r)
        ((rounded top 925 (m a) (e - 1) (926 - e) 0 f kept-lt (inl refl)).0
        (le_trans (le_of_eq (zero-add r)) (le_trans low-le (lit≤ tt)))))

  wide-le : closest (m a) (2 ^ 29) ≤ 2 ^ 24
  wide-le = le_trans (closest-le (m a) (2 ^ 29)) (omega (arith, m-lt a))

-- the shift loses nothing
shifted : (a : ℕ) → a ≤ 0x7FF0_0000_0000_0000 → (a / 2 ^ 52 - 897) * 2 ^ 23 % 2 ^ 64 ≡ (a / 2 ^ 52 - 897) * 2 ^ 23
shifted a h = shl_exact 11 23 64 (omega arith) (lit≤ tt)

pub returns-then-e-lt872 : goal.returns-then-e-lt872
returns-then-e-lt872 c = tiny c.args.a c.if-e-lt872.true

pub overflow_add-m : goal.overflow_add-m
overflow_add-m c = omega (arith, m-lt c.args.a)

pub round_shift-requires : goal.round_shift-requires
round_shift-requires c = omega (arith, m-lt c.args.a)

pub overflow_cast-result : goal.overflow_cast-result
overflow_cast-result c =
    let a = c.args.a in
    omega (arith, c.round_shift.ensures, low-le a (a / 2 ^ 52) refl c.if-e-lt872.false c.if-e-lt897.true)

pub returns-then-e-lt897 : goal.returns-then-e-lt897
returns-then-e-lt897 c =
    let a = c.args.a in
    subst (λ (n : ℕ). Nearest size32 top (size64 a) n) (sym c.round_shift.ensures) (subnormal a (a / 2 ^ 52) refl c.if-e-lt872.false c.if-e-lt897.true)

pub round_shift-requires-2 : goal.round_shift-requires-2
round_shift-requires-2 c = omega (arith, m-lt c.args.a)

pub overflow_add-r : goal.overflow_add-r
overflow_add-r c =
    let a = c.args.a in
    omega (arith, shifted a c.requires, c.requires, c.round_shift-2.ensures, wide-le a (a / 2 ^ 52) refl)

pub returns-then-r-lt2139095040 : goal.returns-then-r-lt2139095040
returns-then-r-lt2139095040 c =
    let sum : ℕ = (c.args.a / 2 ^ 52 - 897) * 2 ^ 23 % 2 ^ 64 + c.round_shift-2.result in
    let answer : (sum ≤ top → Nearest size32 top (size64 c.args.a) (sum)) × (top ≤ sum → Nearest size32 top (size64 c.args.a) top) = let a = c.args.a in
    wide a (a / 2 ^ 52) refl (sum) c.if-e-lt897.false (ap₂ ◌+◌ (shifted a c.requires) c.round_shift-2.ensures) in
    answer.0 (le_of_lt c.if-r-lt2139095040.true)

pub returns-else-r-lt2139095040 : goal.returns-else-r-lt2139095040
returns-else-r-lt2139095040 c =
    let sum : ℕ = (c.args.a / 2 ^ 52 - 897) * 2 ^ 23 % 2 ^ 64 + c.round_shift-2.result in
    let answer : (sum ≤ top → Nearest size32 top (size64 c.args.a) (sum)) × (top ≤ sum → Nearest size32 top (size64 c.args.a) top) = let a = c.args.a in
    wide a (a / 2 ^ 52) refl (sum) c.if-e-lt897.false (ap₂ ◌+◌ (shifted a c.requires) c.round_shift-2.ensures) in
    answer.1 c.if-r-lt2139095040.false
