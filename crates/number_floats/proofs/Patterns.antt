-- NaN by its test and by its patterns. Assumes nothing.
use Rattle.std.proofs.Common.{◌≡◌, ℕ, ◌*◌, ◌%◌, ◌<◌, ◌≤◌, Bool, true, false, not, T, sym, refl, ◌∙◌, subst, true≢false, le-ltb, lt-ltb}
use lib.Ieee.{Float, nan, inf, fin, Format, hid, ones, top, ne, is_nan, nan_bits, of_bits}
use lib.Ieee.Bits.{nan_bits_is, nan_bits_above}
use lib.Ieee.Compare.{differs_from_itself, nan_differs}

-- what `x != x` tells
pub is-nan : (x : Float) → ne x x ≡ true → x ≡ nan
is-nan x t = differs_from_itself x (subst T (sym t) tt)

pub no_nan : (x : Float) → ne x x ≡ false → T (not (is_nan x))
unfolding is_nan
no_nan nan e = absurd (true≢false (sym nan_differs ∙ e))
no_nan (inf s) e = tt
no_nan (fin s m k) e = tt

only_nan : (x : Float) → is_nan x ≡ true → nan ≡ x
unfolding is_nan
only_nan nan e = refl
only_nan (inf s) e = absurd (true≢false (sym e))
only_nan (fin s m k) e = absurd (true≢false (sym e))

-- a pattern above infinity's, the sign left out, is a NaN's, and no other is
pub nan-above : (f : Format) (b : ℕ) → ones f * hid f < b % top f → nan ≡ of_bits f b
nan-above f b h = only_nan (of_bits f b) (sym (nan_bits_is f b) ∙ nan_bits_above f b ∙ lt-ltb (ones f * hid f) (b % top f) h)

pub no-nan-upto : (f : Format) (b : ℕ) → b % top f ≤ ones f * hid f → T (not (nan_bits f b))
no-nan-upto f b h = subst (λ (t : Bool). T (not t)) (sym (nan_bits_above f b ∙ le-ltb (ones f * hid f) (b % top f) h)) tt
