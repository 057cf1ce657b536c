-- `picture::patch::patch` meets its contract: no index is formed before the division showed that the patch lies inside. Assumes nothing.
use Prim.Native.Nat.{◌+◌, ◌*◌, ◌/◌, ◌≤◌, ◌<◌}
use native.Mathlib.Nat.{le-div_iff_mul-le, div-lt_iff_lt-mul, add-sub_cancel_left}
use native.Mathlib.Omega.{arith}
use borrow.Author.Tests.{le-leb, lt-leb}
use lib.ListN.{length}
use Rattle.picture_limits.specs.Places.{patch_floats}
use Rattle.picture.specs.Part.{patch_part}
use Rattle.picture_limits.proofs.Places.{square, times, turn}
use Rattle.picture.proofs.patch.patch.Goals as goal

pub returns-then-patch_size-lt1 : goal.returns-then-patch_size-lt1
unfolding patch_part
returns-then-patch_size-lt1 c = simp (lt-leb _ _ c.if-patch_size-lt1.true)

pub returns-then-patch_size-gt32 : goal.returns-then-patch_size-gt32
unfolding patch_part
returns-then-patch_size-gt32 c = simp (le-leb _ _ c.if-patch_size-lt1.false, lt-leb _ _ c.if-patch_size-gt32.true)

pub overflow_mul-n : goal.overflow_mul-n
overflow_mul-n c = omega (arith, square c.args.patch_size c.if-patch_size-gt32.false)

pub overflow_mul-n-2 : goal.overflow_mul-n-2
overflow_mul-n-2 c = omega (arith, square c.args.patch_size c.if-patch_size-gt32.false)

pub nonzero_div-patches : goal.nonzero_div-patches
nonzero_div-patches c =
    let some : 0 < patch_floats c.args.patch_size = omega (arith, times 1 1 c.args.patch_size c.args.patch_size (omega (arith, c.if-patch_size-lt1.false)) (omega (arith, c.if-patch_size-lt1.false))) in
    omega (arith, some)

pub returns-then-patches-n : goal.returns-then-patches-n
unfolding patch_part
returns-then-patches-n c =
    let some : 0 < patch_floats c.args.patch_size = omega (arith, times 1 1 c.args.patch_size c.args.patch_size (omega (arith, c.if-patch_size-lt1.false)) (omega (arith, c.if-patch_size-lt1.false))) in
    let outside : length c.args.patches.now < c.args.i * patch_floats c.args.patch_size + patch_floats c.args.patch_size = let h : length c.args.patches.now / patch_floats c.args.patch_size < c.args.i + 1 = omega (arith, c.if-patches-n.true) in
    omega (arith, turn c.args.i (patch_floats c.args.patch_size), (div-lt_iff_lt-mul (some)).0 h) in
    simp (le-leb _ _ c.if-patch_size-lt1.false, le-leb _ _ c.if-patch_size-gt32.false, lt-leb _ _ (outside))

pub overflow_mul-a : goal.overflow_mul-a
overflow_mul-a c =
    let some : 0 < patch_floats c.args.patch_size = omega (arith, times 1 1 c.args.patch_size c.args.patch_size (omega (arith, c.if-patch_size-lt1.false)) (omega (arith, c.if-patch_size-lt1.false))) in
    let inside : c.args.i * patch_floats c.args.patch_size + patch_floats c.args.patch_size ≤ length c.args.patches.now = let h : c.args.i + 1 ≤ length c.args.patches.now / patch_floats c.args.patch_size = omega (arith, c.if-patches-n.false) in
    omega (arith, turn c.args.i (patch_floats c.args.patch_size), (le-div_iff_mul-le (some)).0 h) in
    omega (arith, inside)

pub overflow_add-e : goal.overflow_add-e
overflow_add-e c =
    let some : 0 < patch_floats c.args.patch_size = omega (arith, times 1 1 c.args.patch_size c.args.patch_size (omega (arith, c.if-patch_size-lt1.false)) (omega (arith, c.if-patch_size-lt1.false))) in
    let inside : c.args.i * patch_floats c.args.patch_size + patch_floats c.args.patch_size ≤ length c.args.patches.now = let h : c.args.i + 1 ≤ length c.args.patches.now / patch_floats c.args.patch_size = omega (arith, c.if-patches-n.false) in
    omega (arith, turn c.args.i (patch_floats c.args.patch_size), (le-div_iff_mul-le (some)).0 h) in
    omega (arith, inside)

pub offset_bounds-patches-a : goal.offset_bounds-patches-a
offset_bounds-patches-a c =
    let some : 0 < patch_floats c.args.patch_size = omega (arith, times 1 1 c.args.patch_size c.args.patch_size (omega (arith, c.if-patch_size-lt1.false)) (omega (arith, c.if-patch_size-lt1.false))) in
    let inside : c.args.i * patch_floats c.args.patch_size + patch_floats c.args.patch_size ≤ length c.args.patches.now = let h : c.args.i + 1 ≤ length c.args.patches.now / patch_floats c.args.patch_size = omega (arith, c.if-patches-n.false) in
    omega (arith, turn c.args.i (patch_floats c.args.patch_size), (le-div_iff_mul-le (some)).0 h) in
    omega (arith, inside)

pub returns : goal.returns
unfolding patch_part
returns c =
    let some : 0 < patch_floats c.args.patch_size = omega (arith, times 1 1 c.args.patch_size c.args.patch_size (omega (arith, c.if-patch_size-lt1.false)) (omega (arith, c.if-patch_size-lt1.false))) in
    let inside : c.args.i * patch_floats c.args.patch_size + patch_floats c.args.patch_size ≤ length c.args.patches.now = let h : c.args.i + 1 ≤ length c.args.patches.now / patch_floats c.args.patch_size = omega (arith, c.if-patches-n.false) in
    omega (arith, turn c.args.i (patch_floats c.args.patch_size), (le-div_iff_mul-le (some)).0 h) in
    simp (le-leb _ _ c.if-patch_size-lt1.false, le-leb _ _ c.if-patch_size-gt32.false, le-leb _ _ (inside), add-sub_cancel_left)
