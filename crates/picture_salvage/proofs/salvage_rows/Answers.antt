-- `picture_salvage::salvage_rows` meets its contract. The invariant: the rows passed are written. Assumes nothing.
use mathlib.Core.Path.{◌≡◌, refl, ap, ◌∙◌}
use mathlib.Core.List.{List}
use Prim.Native.Nat.{ℕ, ◌+◌, ◌*◌, ◌/◌, ◌%◌, ◌≤◌, ◌<◌}
use native.Mathlib.Nat.{mul_assoc, mod-lt, div-lt_iff_lt-mul}
use native.Mathlib.Omega.{arith}
use lib.ListN.{length}
use Rattle.buffers.specs.Rows.{rows}
use Rattle.buffers.specs.Region.{put}
use Rattle.buffers.proofs.Lists.{fit, rows_step}
use Rattle.picture_limits.specs.Places.{patch_floats}
use Rattle.picture_limits.proofs.Places.{turn, times, square}
use Rattle.picture_samples.specs.Samples.{entry}
use Rattle.picture_salvage.specs.inner.Loops.{saved_line, saved_rows}
use Rattle.picture_salvage.proofs.Salvages.{length-saved_line}
use Rattle.picture_salvage.proofs.salvage_rows.Goals as goal

record Sizes (p gh gw : ℕ) : Type 0 where
  area : p * p ≤ 1024
  line : gw * patch_floats p ≤ 6291456
  bytes : gw * (p * 3) ≤ 196608
  tall : gh * p ≤ 65536

pub overflow_mul-m : goal.overflow_mul-m
overflow_mul-m c =
    let sizes : let a = c.args in Sizes c.args.p c.args.gh c.args.gw = let a = c.args in
    let q = square c.args.p c.requires.1 in
    let f : patch_floats c.args.p ≤ 3072 = omega arith in
    let t : c.args.p * 3 ≤ 96 = omega (arith, c.requires.1) in
    record {
      area = q;
      line = times c.args.gw (patch_floats c.args.p) 2048 3072 c.requires.3 f;
      bytes = times c.args.gw (c.args.p * 3) 2048 96 c.requires.3 t;
      tall = times c.args.gh c.args.p 2048 32 c.requires.2 c.requires.1;
    } in
    let z = sizes in omega (arith, z.area)

pub overflow_mul-m-2 : goal.overflow_mul-m-2
overflow_mul-m-2 c =
    let sizes : let a = c.args in Sizes c.args.p c.args.gh c.args.gw = let a = c.args in
    let q = square c.args.p c.requires.1 in
    let f : patch_floats c.args.p ≤ 3072 = omega arith in
    let t : c.args.p * 3 ≤ 96 = omega (arith, c.requires.1) in
    record {
      area = q;
      line = times c.args.gw (patch_floats c.args.p) 2048 3072 c.requires.3 f;
      bytes = times c.args.gw (c.args.p * 3) 2048 96 c.requires.3 t;
      tall = times c.args.gh c.args.p 2048 32 c.requires.2 c.requires.1;
    } in
    let z = sizes in omega (arith, z.area)

pub overflow_mul-m-3 : goal.overflow_mul-m-3
overflow_mul-m-3 c =
    let sizes : let a = c.args in Sizes c.args.p c.args.gh c.args.gw = let a = c.args in
    let q = square c.args.p c.requires.1 in
    let f : patch_floats c.args.p ≤ 3072 = omega arith in
    let t : c.args.p * 3 ≤ 96 = omega (arith, c.requires.1) in
    record {
      area = q;
      line = times c.args.gw (patch_floats c.args.p) 2048 3072 c.requires.3 f;
      bytes = times c.args.gw (c.args.p * 3) 2048 96 c.requires.3 t;
      tall = times c.args.gh c.args.p 2048 32 c.requires.2 c.requires.1;
    } in
    let z = sizes in omega (arith, z.line)

pub overflow_mul-n-2 : goal.overflow_mul-n-2
overflow_mul-n-2 c =
    let sizes : let a = c.args in Sizes c.args.p c.args.gh c.args.gw = let a = c.args in
    let q = square c.args.p c.requires.1 in
    let f : patch_floats c.args.p ≤ 3072 = omega arith in
    let t : c.args.p * 3 ≤ 96 = omega (arith, c.requires.1) in
    record {
      area = q;
      line = times c.args.gw (patch_floats c.args.p) 2048 3072 c.requires.3 f;
      bytes = times c.args.gw (c.args.p * 3) 2048 96 c.requires.3 t;
      tall = times c.args.gh c.args.p 2048 32 c.requires.2 c.requires.1;
    } in
    let z = sizes in omega (arith, z.bytes)

pub overflow_mul-tall : goal.overflow_mul-tall
overflow_mul-tall c =
    let sizes : let a = c.args in Sizes c.args.p c.args.gh c.args.gw = let a = c.args in
    let q = square c.args.p c.requires.1 in
    let f : patch_floats c.args.p ≤ 3072 = omega arith in
    let t : c.args.p * 3 ≤ 96 = omega (arith, c.requires.1) in
    record {
      area = q;
      line = times c.args.gw (patch_floats c.args.p) 2048 3072 c.requires.3 f;
      bytes = times c.args.gw (c.args.p * 3) 2048 96 c.requires.3 t;
      tall = times c.args.gh c.args.p 2048 32 c.requires.2 c.requires.1;
    } in
    let z = sizes in omega (arith, z.tall)

pub loop-y-init : goal.loop-y-init
unfolding put rows
loop-y-init c = (omega arith, omega arith, refl, refl)

pub nonzero_rem-y : goal.nonzero_rem-y
nonzero_rem-y c = omega (arith, c.requires.0)

pub nonzero_div-y : goal.nonzero_div-y
nonzero_div-y c = omega (arith, c.requires.0)

pub overflow_mul-y : goal.overflow_mul-y
overflow_mul-y c =
    let inside : let a = c.args in let y = c.loop-y.y in
    (y / c.args.p * (c.args.gw * patch_floats c.args.p) + c.args.gw * patch_floats c.args.p ≤ length c.args.bits.now) × (y * (c.args.gw * (c.args.p * 3)) + c.args.gw * (c.args.p * 3) ≤ length c.args.out.now) = let a = c.args in
    let m = c.args.gw * patch_floats c.args.p in
    let h : c.loop-y.y / c.args.p < c.args.gh = (div-lt_iff_lt-mul c.requires.0).1 c.loop-y-test.true in
    (omega (arith, fit m h, c.requires.4, mul_assoc c.args.gh c.args.gw (patch_floats c.args.p)), omega (arith, fit (c.args.gw * (c.args.p * 3)) c.loop-y-test.true, c.requires.5)) in
    omega (arith, inside.0, c.well_formed)

pub salvage_line-requires : goal.salvage_line-requires
salvage_line-requires c =
    let inside : let a = c.args in let y = c.loop-y.y in
    (y / c.args.p * (c.args.gw * patch_floats c.args.p) + c.args.gw * patch_floats c.args.p ≤ length c.args.bits.now) × (y * (c.args.gw * (c.args.p * 3)) + c.args.gw * (c.args.p * 3) ≤ length c.args.out.now) = let s = c.before.before.before.before.before in
    let a = c.args in
    let m = c.args.gw * patch_floats c.args.p in
    let h : c.loop-y.y / c.args.p < c.args.gh = (div-lt_iff_lt-mul c.requires.0).1 c.loop-y-test.true in
    (omega (arith, fit m h, c.requires.4, mul_assoc c.args.gh c.args.gw (patch_floats c.args.p)), omega (arith, fit (c.args.gw * (c.args.p * 3)) c.loop-y-test.true, c.requires.5)) in
    let s = c.before.before.before.before.before in
    let z = inside in
    (c.requires.1, mod-lt c.loop-y.y c.requires.0, z.0, omega (arith, z.1, c.loop-y.invariant.1, c.loop-y.invariant.2), c.requires.6)

pub overflow_add-o : goal.overflow_add-o
overflow_add-o c =
    let inside : let a = c.args in let y = c.loop-y.y in
    (y / c.args.p * (c.args.gw * patch_floats c.args.p) + c.args.gw * patch_floats c.args.p ≤ length c.args.bits.now) × (y * (c.args.gw * (c.args.p * 3)) + c.args.gw * (c.args.p * 3) ≤ length c.args.out.now) = let s = c.before.before.before.before.before.before.before.before in
    let a = c.args in
    let m = c.args.gw * patch_floats c.args.p in
    let h : c.loop-y.y / c.args.p < c.args.gh = (div-lt_iff_lt-mul c.requires.0).1 c.loop-y-test.true in
    (omega (arith, fit m h, c.requires.4, mul_assoc c.args.gh c.args.gw (patch_floats c.args.p)), omega (arith, fit (c.args.gw * (c.args.p * 3)) c.loop-y-test.true, c.requires.5)) in
    let s = c.before.before.before.before.before.before.before.before in
    omega (arith, c.well_formed, inside.1, c.loop-y.invariant.1)

pub loop-y-preserved : goal.loop-y-preserved
loop-y-preserved c =
    let k = entry c.args.t.now in
    let n = c.args.gw * (c.args.p * 3) in
    let f : ℕ → List ℕ = λ y. saved_line k c.args.p c.args.gw c.args.bits.now (y / c.args.p * (c.args.gw * patch_floats c.args.p)) (y % c.args.p) in (
      omega arith,
      omega (arith, turn c.loop-y.y n, c.loop-y.invariant.1),
      c.salvage_line.auto.out ∙ c.loop-y.invariant.2,
      rows_step f n (λ y. length-saved_line k c.args.p c.args.gw c.args.bits.now _ _) c.args.out.now c.loop-y.out _ 0 c.loop-y.o c.loop-y.y c.loop-y.invariant.3 c.loop-y.invariant.1 c.salvage_line.ensures,
    )

pub shape_of-out : goal.shape_of-out
shape_of-out c = c.loop-y.invariant.2

pub returns : goal.returns
returns c =
    let e : c.loop-y.y ≡ c.args.gh * c.args.p = omega arith in
    c.loop-y.invariant.3 ∙ ap (λ (n : ℕ). put c.args.out.now 0 (saved_rows (entry c.args.t.now) c.args.p c.args.gw c.args.bits.now n)) e
