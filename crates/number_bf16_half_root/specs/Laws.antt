-- Laws of bf16 and of its packed form. Six statements; proofs/Laws.antt proves them. Assumes nothing.
use Rattle.std.specs.Prelude.{◌≡◌, ℕ, ◌+◌, ◌%◌, ◌^◌, ◌<◌, ◌≤◌, true, List, length, take, from_bits}
use Rattle.std.specs.Float.{binary32}
use Rattle.std.specs.Float.Ieee.{le}
use Rattle.std.specs.Float.Ieee.Scale.{finite}
use Rattle.buffers.specs.Region.{over}
use Rattle.buffers.specs.Each.{each}
use Rattle.number_bf16_half_root.specs.Bf16.{bf16}
use Rattle.number_bf16_half_root.specs.Packed.{packed, widened, packed_all, widened_all}

-- ---- of every number, and so of all 2 ^ 32 patterns, those of NaNs too

-- rounding twice is rounding once
abbrev pub Twice : Type 0
Twice = (x : ℕ) → bf16 (bf16 x) ≡ bf16 x

-- the sign bit flipped
abbrev pub flipped : ℕ → ℕ
flipped x = (x + 2 ^ 31) % 2 ^ 32

-- rounding and flipping the sign bit may be done in either order
abbrev pub Either-order : Type 0
Either-order = (x : ℕ) → bf16 (flipped x) ≡ flipped (bf16 x)

-- ---- of finite values: where x ≤ y, the rounded values keep that order. These may be infinite, and -0 and +0 are equal
abbrev pub Order-kept : Type 0
Order-kept = (x y : ℕ) → x < 2 ^ 32 → y < 2 ^ 32
    → finite (from_bits binary32 x) ≡ true → finite (from_bits binary32 y) ≡ true
    → le (from_bits binary32 x) (from_bits binary32 y) ≡ true
    → le (from_bits binary32 (bf16 x)) (from_bits binary32 (bf16 y)) ≡ true

-- ---- of the packed form

-- widening gives the rounded value
abbrev pub Rounded-back : Type 0
Rounded-back = (x : ℕ) → widened (packed x) ≡ bf16 x

-- and what was widened is packed to the same 16 bits
abbrev pub Same-back : Type 0
Same-back = (b : ℕ) → b < 2 ^ 16 → packed (widened b) ≡ b

-- a vector that was packed and widened is the rounded one, where both buffers have room for it
abbrev pub Vector-back : Type 0
Vector-back = (x store out : List ℕ) → length x ≤ length store → length x ≤ length out
    → widened_all (take (length x) (packed_all x store)) out ≡ over (each 0 (length x) bf16 x) out
