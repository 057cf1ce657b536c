-- gelu's constant is the source's `(2.0 / PI).sqrt()` in f32: computed. Assumes nothing.
use mathlib.Core.Path.{◌≡◌, refl}
use lib.Ieee.{binary32, div, of_bits, to_bits}
use Rattle.number_bf16_half_root.specs.Root.{whole_root, near_root, root_of_number, root, root_of}
use Rattle.encoder_elements.specs.Element.{root_two_over_pi}

pub root-two-over-pi : root_of (div binary32 (of_bits binary32 0x4000_0000) (of_bits binary32 0x4049_0FDB)) ≡ root_two_over_pi
unfolding root_of root root_of_number near_root whole_root div of_bits to_bits
root-two-over-pi = refl
