-- Worked examples of specs/Values.antt, computed. Assumes nothing.
use mathlib.Core.Path.{◌≡◌, refl}
use mathlib.Core.List.{[], ◌∷◌}
use lib.Count.{count_leading_zeros}
use Rattle.buffers.specs.Rows.{tab}
use Rattle.buffers.specs.Region.{copied}
use Rattle.number_bf16_half_root.specs.Half.{subnormal, half_size, half}
use Rattle.tensor_values.specs.declared.Kind.TheVariants.{F32, BF16, F16}
use Rattle.tensor_values.specs.Values.{value_of, values_of}

-- 1.0 and a byte that makes no value
pub one-f32 : values_of F32 (0x00 ∷ 0x00 ∷ 0x80 ∷ 0x3F ∷ 0x07 ∷ []) ≡ 0x3F80_0000 ∷ []
unfolding value_of values_of tab
one-f32 = refl

-- 1.0 and -2.0
pub two-bf16 : values_of BF16 (0x80 ∷ 0x3F ∷ 0x00 ∷ 0xC0 ∷ []) ≡ 0x3F80_0000 ∷ 0xC000_0000 ∷ []
unfolding value_of values_of tab
two-bf16 = refl

-- 1.0, the smallest subnormal, 2 ^ -24, minus infinity, and a NaN
pub four-f16 : values_of F16 (0x00 ∷ 0x3C ∷ 0x01 ∷ 0x00 ∷ 0x00 ∷ 0xFC ∷ 0x01 ∷ 0x7C ∷ []) ≡ 0x3F80_0000 ∷ 0x3380_0000 ∷ 0xFF80_0000 ∷ 0x7F80_2000 ∷ []
unfolding value_of values_of tab half half_size subnormal count_leading_zeros
four-f16 = refl

-- over the front of a longer list, and of a shorter one
pub longer : copied (values_of BF16 (0x80 ∷ 0x3F ∷ [])) (1 ∷ 2 ∷ []) ≡ 0x3F80_0000 ∷ 2 ∷ []
unfolding value_of values_of tab copied
longer = refl

pub shorter : copied (values_of BF16 (0x80 ∷ 0x3F ∷ 0x00 ∷ 0xC0 ∷ [])) (1 ∷ []) ≡ 1 ∷ []
unfolding value_of values_of tab copied
shorter = refl
