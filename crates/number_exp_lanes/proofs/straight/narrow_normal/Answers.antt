-- `straight::narrow_normal` meets its contract. Assumes nothing.
use mathlib.Core.Path.{sym, ap, ◌∙◌, subst}
use mathlib.Core.Bool.{not}
use Prim.Native.Nat.{◌*◌, ◌/◌, ◌^◌, ◌≤◌}
use native.Mathlib.Omega.{arith}
use lib.Bits.{and_mask}
use lib.Dec.{T}
use lib.Ieee.{Float, nan, inf, fin, binary32, binary64, fits, is_nan, of_bits, to_bits}
use lib.Ieee.Positive.{positive}
use Rattle.number_floats.proofs.narrow.Meets.{there_and_back}
use Rattle.number_exp_lanes.proofs.straight.Narrows.{place, above_zero, from-least, to-most, r-le, over, cut-is, cut-number}
use Rattle.number_exp_lanes.proofs.straight.narrow_normal.Goals as goal

number : (v : Float) → T (positive v) → T (not (is_nan v))
unfolding is_nan
number nan p = absurd p
number (inf s) p = tt
number (fin s m e) p = tt

pub float_to_bits-b : goal.float_to_bits-b
float_to_bits-b c =
    let held : T (fits binary64 c.args.v) = subst T (sym c.well_formed.0.1) tt in
    number c.args.v (above_zero c.args.v (held) c.requires)

pub overflow_add-result : goal.overflow_add-result
overflow_add-result c =
    let held : T (fits binary64 c.args.v) = subst T (sym c.well_formed.0.1) tt in
    let hi : to_bits binary64 c.args.v ≤ 1151 * 2 ^ 52 = to-most c.args.v (held) c.requires in
    omega (arith, hi)

pub overflow_add-result-2 : goal.overflow_add-result-2
overflow_add-result-2 c =
    let held : T (fits binary64 c.args.v) = subst T (sym c.well_formed.0.1) tt in
    let hi : to_bits binary64 c.args.v ≤ 1151 * 2 ^ 52 = to-most c.args.v (held) c.requires in
    omega (arith, hi, and_mask (to_bits binary64 c.args.v / 2 ^ place) 1)

pub overflow_sub-result : goal.overflow_sub-result
overflow_sub-result c =
    let held : T (fits binary64 c.args.v) = subst T (sym c.well_formed.0.1) tt in
    let lo : 897 * 2 ^ 52 ≤ to_bits binary64 c.args.v = from-least c.args.v (held) c.requires in
    let hi : to_bits binary64 c.args.v ≤ 1151 * 2 ^ 52 = to-most c.args.v (held) c.requires in
    over (to_bits binary64 c.args.v) (lo) (hi)

pub overflow_cast-result : goal.overflow_cast-result
overflow_cast-result c =
    let held : T (fits binary64 c.args.v) = subst T (sym c.well_formed.0.1) tt in
    let lo : 897 * 2 ^ 52 ≤ to_bits binary64 c.args.v = from-least c.args.v (held) c.requires in
    let hi : to_bits binary64 c.args.v ≤ 1151 * 2 ^ 52 = to-most c.args.v (held) c.requires in
    omega (arith, r-le (to_bits binary64 c.args.v) (lo) (hi))

pub float_from_bits-result : goal.float_from_bits-result
float_from_bits-result c =
    let held : T (fits binary64 c.args.v) = subst T (sym c.well_formed.0.1) tt in
    let lo : 897 * 2 ^ 52 ≤ to_bits binary64 c.args.v = from-least c.args.v (held) c.requires in
    let hi : to_bits binary64 c.args.v ≤ 1151 * 2 ^ 52 = to-most c.args.v (held) c.requires in
    cut-number (to_bits binary64 c.args.v) (lo) (hi)

pub returns : goal.returns
returns c =
    let held : T (fits binary64 c.args.v) = subst T (sym c.well_formed.0.1) tt in
    let lo : 897 * 2 ^ 52 ≤ to_bits binary64 c.args.v = from-least c.args.v (held) c.requires in
    let hi : to_bits binary64 c.args.v ≤ 1151 * 2 ^ 52 = to-most c.args.v (held) c.requires in
    ap (of_bits binary32) (cut-is (to_bits binary64 c.args.v) (lo) (hi)) ∙ there_and_back c.args.v (held)
