-- `number_bf16_half_root::bf16::bf16` meets its contract: the two masks are a remainder and a cleared part (`lib.Bits`). Assumes nothing.
use Rattle.std.proofs.Common.{◌≡◌, ℕ, ◌+◌, ◌*◌, ◌/◌, ◌%◌, ◌^◌, ap, ◌∙◌, mod-lt, arith, pow_pos}
use lib.Bits.{bit_and, and_mask, and_high}
use lib.Pow.{shr_mod}
use Rattle.number_bf16_half_root.specs.Bf16 as S
use Rattle.number_bf16_half_root.proofs.bf16.bf16.Goals as goal

-- the whole of it over numbers: y is what the wrapping sum gives
whole : (x y : ℕ) → y ≡ (x + (0x7FFF + bit_and (x / 2 ^ 16) 1)) % 2 ^ 32 → bit_and y 0xFFFF_0000 ≡ S.bf16 x
unfolding S.bf16
whole x y e =
    and_high y 16 16
    ∙ ap (λ (n : ℕ). n / 2 ^ 16 % 2 ^ 16 * 2 ^ 16) (e ∙ ap (λ (b : ℕ). (x + (0x7FFF + b)) % 2 ^ 32) (and_mask (x / 2 ^ 16) 1))
    ∙ ap (λ (n : ℕ). n * 2 ^ 16) (shr_mod 16 16 (mod-lt (x + (0x7FFF + x / 2 ^ 16 % 2)) (pow_pos 32)))

pub overflow_add-rounding : goal.overflow_add-rounding
overflow_add-rounding c = omega (arith, and_mask (c.args.x / 2 ^ 16) 1)

pub returns : goal.returns
returns c = whole c.args.x c.wrapping_add_u32.result c.wrapping_add_u32.ensures.value
