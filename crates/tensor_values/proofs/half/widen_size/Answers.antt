-- `tensor_values::half::widen_size` meets its contract. Assumes nothing.
use mathlib.Core.Path.{◌≡◌, sym, ap, ◌∙◌, subst}
use mathlib.Core.Bool.{not}
use Prim.Native.Nat.{ℕ, ◌+◌, ◌*◌, ◌/◌, ◌%◌, ◌^◌}
use native.Mathlib.Omega.{arith}
use lib.Dec.{T}
use lib.Ieee.{Float, binary32, of_bits, to_bits, sub, is_nan, nan_bits}
use Rattle.tensor_values.proofs.half.Sizes.{Taken, taken-off, as-subnormal, as-other, more-le}
use Rattle.tensor_values.proofs.half.widen_size.Goals as goal

abbrev less : ℕ → Float
less s = sub binary32 (of_bits binary32 (0x3880_0000 + s)) (of_bits binary32 0x3880_0000)

pub float_from_bits-result : goal.float_from_bits-result
float_from_bits-result c =
    let mantissa : let s = c.args.size in s ≡ s / 2 ^ 13 % 2 ^ 10 * 2 ^ 13 = omega (arith, c.requires.0, c.if-size-lt8388608.true) in
    let its : Taken (c.args.size / 2 ^ 13 % 2 ^ 10) = taken-off (c.args.size / 2 ^ 13 % 2 ^ 10) (omega arith) in
    subst (λ (s : ℕ). T (not (nan_bits binary32 (0x3880_0000 + s)))) (sym (mantissa)) its.from

pub float_from_bits-result-then-size-lt8388608 : goal.float_from_bits-result-then-size-lt8388608
unfolding nan_bits
float_from_bits-result-then-size-lt8388608 c = tt

pub float_to_bits-result : goal.float_to_bits-result
float_to_bits-result c =
    let mantissa : let s = c.args.size in s ≡ s / 2 ^ 13 % 2 ^ 10 * 2 ^ 13 = omega (arith, c.requires.0, c.if-size-lt8388608.true) in
    let its : Taken (c.args.size / 2 ^ 13 % 2 ^ 10) = taken-off (c.args.size / 2 ^ 13 % 2 ^ 10) (omega arith) in
    subst (λ (s : ℕ). T (not (is_nan (less s)))) (sym (mantissa)) its.number

pub returns-then-size-lt8388608 : goal.returns-then-size-lt8388608
returns-then-size-lt8388608 c =
    let mantissa : let s = c.args.size in s ≡ s / 2 ^ 13 % 2 ^ 10 * 2 ^ 13 = omega (arith, c.requires.0, c.if-size-lt8388608.true) in
    ap (λ (s : ℕ). to_bits binary32 (less s)) (mantissa) ∙ as-subnormal c.args.size c.requires.0 c.requires.1 c.if-size-lt8388608.true

pub overflow_add-result-3 : goal.overflow_add-result-3
overflow_add-result-3 c = omega (arith, c.more_of.ensures, more-le c.args.size)

pub returns : goal.returns
returns c =
    ap (λ (m : ℕ). 0x3800_0000 + c.args.size + m) c.more_of.ensures ∙ as-other c.args.size c.requires.0 c.requires.1 c.if-size-lt8388608.false
