-- What the library's casts give at their ends. Assumes nothing.
use Rattle.std.proofs.Common.{◌≡◌, Bool, ◌&&◌, ◌||◌, ℕ, ◌-◌, ◌*◌, ◌/◌, ◌^◌, ◌≤◌, ◌<◌, eqb, ltb, min, true, false, pos, sym, refl, ap, ◌∙◌, true≢false, le-div_iff_mul-le, arith}
use native.Mathlib.Nat.{min-eq_right}
use lib.Ieee.{Float, nan, inf, fin, binary32, binary64, up, down, le, lt, eq, ne, of_bits, to_bits, to_unsigned}
use lib.Ieee.Fits.{down_pos}
use lib.Pow.{pow_pos}
use Rattle.number_floats.proofs.Patterns.{is-nan}

reaches : (a b : ℕ) (p : Bool) → (ltb a b || (eqb a b && p)) ≡ true → a ≤ b
reaches a b p h = grind arith

apart : (a b : ℕ) → 0 < a → (false || (eqb a b && (false || eqb a 0))) ≡ true → ⊥
apart a b k h = grind arith

positive : (a b : ℕ) → 0 < a → 0 < b → 0 < 1 * a * b
positive a b h k = grind arith

-- from 2 ^ w on a cast to w bits gives the largest number
cast-top : (w : ℕ) (x : Float) → le (fin false 1 (pos w)) x ≡ true → 2 ^ w - 1 ≡ to_unsigned w x
unfolding le lt eq to_unsigned
cast-top w nan h = absurd (true≢false (sym h))
cast-top w (inf true) h = absurd (true≢false (sym h))
cast-top w (inf false) h = refl
cast-top w (fin true m e) h = absurd (apart (1 * 2 ^ w * down e) (m * up e * 1) (positive (2 ^ w) (down e) (pow_pos w) (down_pos e)) h)
cast-top w (fin false m e) h =
    let g : 1 * 2 ^ w * down e ≤ m * up e * 1 = reaches (1 * 2 ^ w * down e) (m * up e * 1) true h in
    let q : 2 ^ w ≤ m * up e / down e = (le-div_iff_mul-le (down_pos e)).1 (omega (arith, g)) in
    sym (min-eq_right (omega arith))

pub top_of_8 : (x : Float) → le (of_bits binary64 4643211215818981376) x ≡ true → 255 ≡ to_unsigned 8 x
unfolding of_bits
top_of_8 x h = cast-top 8 x h

pub top_of_64 : (x : Float) → le (of_bits binary64 4895412794951729152) x ≡ true → 18446744073709551615 ≡ to_unsigned 64 x
unfolding of_bits
top_of_64 x h = cast-top 64 x h

-- a NaN's pattern
pub nan_bits : (x : Float) → ne x x ≡ true → 2143289344 ≡ to_bits binary32 x
unfolding to_bits
nan_bits x h = sym (ap (to_bits binary32) (is-nan x h))
