-- Any two results that satisfy the contract of a public function are equal. Assumes nothing.
use Rattle.std.proofs.Common.{◌≡◌, ℕ, sym, ◌∙◌}
use lib.Ieee.{Float, binary32, binary64}
use Rattle.number_floats.specs.Narrow as Narrow
use lib.Ieee as Ieee
use Rattle.number_floats.specs.Whole.{floor, away}

-- the contract of a function is one equation for its result and one for each buffer
pub one : {A : Type 0} (x : A) {a b : A} → a ≡ x → b ≡ x → a ≡ b
one x p q = p ∙ sym q

pub narrow-unique : (b : ℕ) (r r' : ℕ) → r ≡ Narrow.narrow_bits b → r' ≡ Narrow.narrow_bits b → r ≡ r'
narrow-unique b r r' = one _

pub narrow-f64-unique : (x : Float) (r r' : Float) → r ≡ Narrow.narrow x → r' ≡ Narrow.narrow x → r ≡ r'
narrow-f64-unique x r r' = one _

pub widen-f32-unique : (x : Float) (r r' : Float) → r ≡ x → r' ≡ x → r ≡ r'
widen-f32-unique x r r' = one _

pub f32-of-bits-unique : (b : ℕ) (r r' : Float) → r ≡ Ieee.of_bits binary32 b → r' ≡ Ieee.of_bits binary32 b → r ≡ r'
f32-of-bits-unique b r r' = one _

pub bits-of-f32-unique : (x : Float) (r r' : ℕ) → r ≡ Ieee.to_bits binary32 x → r' ≡ Ieee.to_bits binary32 x → r ≡ r'
bits-of-f32-unique x r r' = one _

pub bits-of-f64-unique : (x : Float) (r r' : ℕ) → r ≡ Ieee.to_bits binary64 x → r' ≡ Ieee.to_bits binary64 x → r ≡ r'
bits-of-f64-unique x r r' = one _

pub floor-f64-unique : (y : Float) (r r' : Float) → r ≡ floor y → r' ≡ floor y → r ≡ r'
floor-f64-unique y r r' = one _

pub round-f64-unique : (y : Float) (r r' : Float) → r ≡ away y → r' ≡ away y → r ≡ r'
round-f64-unique y r r' = one _

pub f64-to-usize-unique : (x : Float) (r r' : ℕ) → r ≡ Ieee.to_unsigned 64 x → r' ≡ Ieee.to_unsigned 64 x → r ≡ r'
f64-to-usize-unique x r r' = one _

pub f64-to-u8-unique : (x : Float) (r r' : ℕ) → r ≡ Ieee.to_unsigned 8 x → r' ≡ Ieee.to_unsigned 8 x → r ≡ r'
f64-to-u8-unique x r r' = one _
