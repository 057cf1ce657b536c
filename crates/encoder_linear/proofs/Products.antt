-- A product's factors may change places. Assumes nothing.
use mathlib.Core.Path.{◌≡◌, refl, ap}
use mathlib.Core.Bool.{Bool, true, false}
use Prim.Native.Nat.{◌*◌}
use native.Mathlib.Nat.{mul_comm}
use lib.Ieee.{Format, Float, nan, inf, fin, up, down, unlike, mul}

unlike-comm : (s t : Bool) → unlike s t ≡ unlike t s
unlike-comm true true = refl
unlike-comm true false = refl
unlike-comm false true = refl
unlike-comm false false = refl

pub product-comm : (f : Format) (x y : Float) → mul f x y ≡ mul f y x
unfolding mul
product-comm f nan nan = refl
product-comm f nan (inf t) = refl
product-comm f nan (fin t n d) = refl
product-comm f (inf s) nan = refl
product-comm f (inf s) (inf t) = ap inf (unlike-comm s t)
product-comm f (inf s) (fin t n d) = rw (unlike-comm s t) refl
product-comm f (fin s m e) nan = refl
product-comm f (fin s m e) (inf t) = rw (unlike-comm s t) refl
product-comm f (fin s m e) (fin t n d) = rw (unlike-comm s t, mul_comm (m * up e) (n * up d), mul_comm (down e) (down d)) refl
