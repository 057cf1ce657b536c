-- `number_bf16_half_root::half::half_subnormal` meets its contract. Assumes nothing.
use Rattle.std.proofs.Common.{◌≡◌, ℕ, ◌-◌, ◌*◌, ◌%◌, ◌^◌, sym, ap, ◌∙◌, arith}
use lib.Bits.{bit_and, bit_or, and_mask}
use lib.Count.{count_leading_zeros}
use lib.Pow.{mod-mod-pow}
use Rattle.number_bf16_half_root.proofs.half.Fields.{Shifted, shifted, subnormal-is, joined}
use Rattle.number_bf16_half_root.proofs.half.half_subnormal.Goals as goal

pub overflow_sub-shift : goal.overflow_sub-shift
overflow_sub-shift c =
    let places : Shifted c.args.m (count_leading_zeros 32 c.args.m) = shifted c.args.m c.requires.0 c.requires.1 in
    omega (arith, places.least)

pub overflow_sub-result-2 : goal.overflow_sub-result-2
overflow_sub-result-2 c =
    let places : Shifted c.args.m (count_leading_zeros 32 c.args.m) = shifted c.args.m c.requires.0 c.requires.1 in
    omega (arith, places.most)

pub overflow_shl-result-2 : goal.overflow_shl-result-2
overflow_shl-result-2 c =
    let places : Shifted c.args.m (count_leading_zeros 32 c.args.m) = shifted c.args.m c.requires.0 c.requires.1 in
    omega (arith, places.most)

-- the low 10 digits of the shifted mantissa, of which 32 are there
digits : (n : ℕ) → bit_and (n % 2 ^ 32) 0x3FF ≡ n % 2 ^ 10
digits n = and_mask (n % 2 ^ 32) 10 ∙ mod-mod-pow n 22 10

pub returns : goal.returns
returns c =
    let m = c.args.m in
    let s = count_leading_zeros 32 m - 21 in
    ap (λ (t : ℕ). bit_or ((113 - s) * 2 ^ 23 % 2 ^ 32) (t * 2 ^ 13 % 2 ^ 32)) (digits (m * 2 ^ s))
    ∙ joined (113 - s) (m * 2 ^ s % 2 ^ 10) (omega arith) (omega arith)
    ∙ sym (subnormal-is m c.requires.0)
