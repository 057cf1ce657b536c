-- `picture_patches::pixel::bilinear_resize_rgb` meets its contract. Assumes nothing.
use mathlib.Core.Path.{◌≡◌, sym, ap, ◌∙◌}
use mathlib.Core.Bool.{true}
use Prim.Native.Nat.{◌*◌, ◌≤◌, ◌<◌}
use native.Mathlib.Omega.{arith}
use borrow.Author.Tests.{not-true, not-false, eq-eqb, ne_eqb, lt-ltb, le-ltb}
use Rattle.picture_resize.specs.declared.Near.{Near}
use Rattle.picture_limits.specs.Settings.{sided}
use Rattle.picture_resize.specs.Resize.{near, mix, resized_byte}
use Rattle.picture_limits.proofs.Places.{times}
use Rattle.picture_limits.proofs.Sides.{sided-says}
use Rattle.picture_resize.proofs.Nears.{near-held, row_in}
use Rattle.picture_patches.proofs.pixel.bilinear_resize_rgb.Goals as goal

pub returns-then-not-sides_allowed : goal.returns-then-not-sides_allowed
unfolding resized_byte
returns-then-not-sides_allowed c = simp (sym c.sides_allowed.ensures ∙ not-true _ c.if-not-sides_allowed.true-raw)

pub overflow_mul-h : goal.overflow_mul-h
overflow_mul-h c =
    let sided-is : sided c.args.h c.args.w ≡ true = sym c.sides_allowed.ensures ∙ not-false _ c.if-not-sides_allowed.false-raw in
    let area : c.args.h * c.args.w ≤ 67108864 = let d = sided-says c.args.h c.args.w (sided-is) in
    times c.args.h c.args.w 8192 8192 d.1 d.3 in
    omega (arith, area)

pub overflow_mul-h-2 : goal.overflow_mul-h-2
overflow_mul-h-2 c =
    let sided-is : sided c.args.h c.args.w ≡ true = sym c.sides_allowed.ensures ∙ not-false _ c.if-not-sides_allowed.false-raw in
    let area : c.args.h * c.args.w ≤ 67108864 = let d = sided-says c.args.h c.args.w (sided-is) in
    times c.args.h c.args.w 8192 8192 d.1 d.3 in
    omega (arith, area)

pub returns-then-src-h : goal.returns-then-src-h
unfolding resized_byte
returns-then-src-h c =
    let sided-is : sided c.args.h c.args.w ≡ true = sym c.sides_allowed.ensures ∙ not-false _ c.if-not-sides_allowed.false-raw in
    simp (sided-is, ne_eqb _ _ c.if-src-h.true)

pub returns-then-c-ge3 : goal.returns-then-c-ge3
unfolding resized_byte
returns-then-c-ge3 c =
    let sided-is : sided c.args.h c.args.w ≡ true = sym c.sides_allowed.ensures ∙ not-false _ c.if-not-sides_allowed.false-raw in
    simp (sided-is, eq-eqb _ _ c.if-src-h.false, le-ltb _ _ c.if-c-ge3.true)

pub mix_of-requires : goal.mix_of-requires
mix_of-requires c =
    let sided-is : sided c.args.h c.args.w ≡ true = sym c.sides_allowed.ensures ∙ not-false _ c.if-not-sides_allowed.false-raw in
    let pos : (0 < c.args.h) × (0 < c.args.w) = let d = sided-says _ _ (sided-is) in (d.0, d.2) in
    let y = near-held c.near_of.result c.args.h c.args.th c.args.dy c.near_of.ensures pos.0 in
    let x = near-held c.near_of-2.result c.args.w c.args.tw c.args.dx c.near_of-2.ensures pos.1 in
    let g = c.if-src-h.false in
    (row_in _ c.args.h c.args.w _ g y.0, row_in _ c.args.h c.args.w _ g y.1, x.0, x.1, c.if-c-ge3.false)

pub returns : goal.returns
unfolding resized_byte
returns c =
    let sided-is : sided c.args.h c.args.w ≡ true = sym c.sides_allowed.ensures ∙ not-false _ c.if-not-sides_allowed.false-raw in
    simp (sided-is, eq-eqb _ _ c.if-src-h.false, lt-ltb _ _ c.if-c-ge3.false)
    (c.mix_of.ensures
    ∙ ap (λ (n : Near). mix c.args.src.now c.args.w n c.near_of-2.result c.args.c) c.near_of.ensures
    ∙ ap (λ (n : Near). mix c.args.src.now c.args.w (near c.args.h c.args.th c.args.dy) n c.args.c) c.near_of-2.ensures)
