-- `number_bf16_half_root::half::half_to_f32` meets its contract. Assumes nothing.
use Rattle.std.proofs.Common.{◌≡◌, ℕ, ◌*◌, ◌/◌, ◌%◌, ◌^◌, ◌<◌, ◌∙◌, ap₂, arith, lit≤, shl_exact, shr_lt}
use lib.Bits.{bit_and, bit_or, and_mask, or_shifted}
use Rattle.number_bf16_half_root.specs.Half.{half_size, half}
use Rattle.number_bf16_half_root.proofs.half.Fields.{half-size-lt}
use Rattle.number_bf16_half_root.proofs.half.half_to_f32.Goals as goal

whole : (h r : ℕ) → h < 2 ^ 16 → r ≡ half_size (bit_and (h / 2 ^ 10) 0x1F) (bit_and h 0x3FF) → bit_or (h / 2 ^ 15 * 2 ^ 31 % 2 ^ 32) r ≡ half h
unfolding half
whole h r H e =
    ap₂ bit_or (shl_exact 1 31 32 (shr_lt 1 15 H) (lit≤ tt)) (e ∙ ap₂ half_size (and_mask (h / 2 ^ 10) 5) (and_mask h 10))
    ∙ or_shifted (h / 2 ^ 15) 31 (half_size (h / 2 ^ 10 % 2 ^ 5) (h % 2 ^ 10)) (half-size-lt (h / 2 ^ 10 % 2 ^ 5) (h % 2 ^ 10) (omega arith) (omega arith))

pub half_size-requires : goal.half_size-requires
half_size-requires c = let h = c.args.bits in omega (arith, and_mask (h / 2 ^ 10) 5, and_mask h 10)

pub returns : goal.returns
returns c = whole c.args.bits c.half_size.result c.ranges.bits.fits c.half_size.ensures
