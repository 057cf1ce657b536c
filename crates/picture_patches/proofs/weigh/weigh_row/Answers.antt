-- `picture_patches::weigh::weigh_row` meets its contract. The invariant: the columns passed are weighed. Assumes nothing.
use mathlib.Core.Path.{◌≡◌, refl, ap, ◌∙◌}
use Prim.Native.Nat.{ℕ, ◌+◌, ◌*◌, ◌≤◌, ◌<◌}
use native.Mathlib.Omega.{arith}
use lib.ListN.{length}
use Rattle.buffers.specs.Rows.{tab, rows}
use Rattle.buffers.specs.Region.{put}
use Rattle.buffers.proofs.Lists.{length-tab, rows_step}
use Rattle.picture_resize.specs.declared.Near.{Near}
use Rattle.picture_resize.specs.Resize.{near}
use Rattle.picture_resize.proofs.Nears.{near-held, row_in}
use Rattle.picture_patches.specs.inner.Strip.{left_of, right_of, left_row, right_row}
use Rattle.picture_patches.proofs.weigh.weigh_row.Goals as goal

pub loop-j-init : goal.loop-j-init
unfolding put rows
loop-j-init c = (refl, refl, refl, refl)

pub near_at-s-requires : goal.near_at-s-requires
near_at-s-requires c = (c.requires.0.wide, omega arith, c.requires.1)

pub overflow_mul-y : goal.overflow_mul-y
overflow_mul-y c =
    let row : (c.args.y * c.args.f.w + c.args.f.w) * 3 ≤ length c.args.rgb.now = row_in c.args.y c.args.f.h c.args.f.w (length c.args.rgb.now) c.requires.0.bytes c.requires.2 in
    omega (arith, row, c.well_formed)

pub overflow_add-y : goal.overflow_add-y
overflow_add-y c =
    let inside : (c.near_at-s.result.low < c.args.f.w) × (c.near_at-s.result.high < c.args.f.w) = near-held c.near_at-s.result c.args.f.w c.args.f.tw (c.args.x + c.loop-j.j) c.near_at-s.ensures c.requires.0.wide in
    let row : (c.args.y * c.args.f.w + c.args.f.w) * 3 ≤ length c.args.rgb.now = row_in c.args.y c.args.f.h c.args.f.w (length c.args.rgb.now) c.requires.0.bytes c.requires.2 in
    omega (arith, row, inside, c.well_formed)

pub overflow_mul-y-in-loop-j : goal.overflow_mul-y-in-loop-j
overflow_mul-y-in-loop-j c =
    let inside : (c.near_at-s.result.low < c.args.f.w) × (c.near_at-s.result.high < c.args.f.w) = near-held c.near_at-s.result c.args.f.w c.args.f.tw (c.args.x + c.loop-j.j) c.near_at-s.ensures c.requires.0.wide in
    let row : (c.args.y * c.args.f.w + c.args.f.w) * 3 ≤ length c.args.rgb.now = row_in c.args.y c.args.f.h c.args.f.w (length c.args.rgb.now) c.requires.0.bytes c.requires.2 in
    omega (arith, row, inside, c.well_formed)

pub weigh_pixel-requires : goal.weigh_pixel-requires
weigh_pixel-requires c =
    let inside : (c.near_at-s.result.low < c.args.f.w) × (c.near_at-s.result.high < c.args.f.w) = near-held c.near_at-s.result c.args.f.w c.args.f.tw (c.args.x + c.loop-j.j) c.near_at-s.ensures c.requires.0.wide in
    let row : (c.args.y * c.args.f.w + c.args.f.w) * 3 ≤ length c.args.rgb.now = row_in c.args.y c.args.f.h c.args.f.w (length c.args.rgb.now) c.requires.0.bytes c.requires.2 in
    (omega (arith, row, inside), omega (arith, c.requires.4, c.loop-j.invariant.0, c.loop-j-test.true))

pub overflow_mul-y-in-loop-j-2 : goal.overflow_mul-y-in-loop-j-2
overflow_mul-y-in-loop-j-2 c =
    let row : (c.args.y * c.args.f.w + c.args.f.w) * 3 ≤ length c.args.rgb.now = row_in c.args.y c.args.f.h c.args.f.w (length c.args.rgb.now) c.requires.0.bytes c.requires.2 in
    omega (arith, row, c.well_formed)

pub overflow_add-y-in-loop-j : goal.overflow_add-y-in-loop-j
overflow_add-y-in-loop-j c =
    let inside : (c.near_at-s.result.low < c.args.f.w) × (c.near_at-s.result.high < c.args.f.w) = near-held c.near_at-s.result c.args.f.w c.args.f.tw (c.args.x + c.loop-j.j) c.near_at-s.ensures c.requires.0.wide in
    let row : (c.args.y * c.args.f.w + c.args.f.w) * 3 ≤ length c.args.rgb.now = row_in c.args.y c.args.f.h c.args.f.w (length c.args.rgb.now) c.requires.0.bytes c.requires.2 in
    omega (arith, row, inside, c.well_formed)

pub overflow_mul-y-in-loop-j-3 : goal.overflow_mul-y-in-loop-j-3
overflow_mul-y-in-loop-j-3 c =
    let inside : (c.near_at-s.result.low < c.args.f.w) × (c.near_at-s.result.high < c.args.f.w) = near-held c.near_at-s.result c.args.f.w c.args.f.tw (c.args.x + c.loop-j.j) c.near_at-s.ensures c.requires.0.wide in
    let row : (c.args.y * c.args.f.w + c.args.f.w) * 3 ≤ length c.args.rgb.now = row_in c.args.y c.args.f.h c.args.f.w (length c.args.rgb.now) c.requires.0.bytes c.requires.2 in
    omega (arith, row, inside, c.well_formed)

pub weigh_pixel-requires-in-loop-j : goal.weigh_pixel-requires-in-loop-j
weigh_pixel-requires-in-loop-j c =
    let inside : (c.near_at-s.result.low < c.args.f.w) × (c.near_at-s.result.high < c.args.f.w) = near-held c.near_at-s.result c.args.f.w c.args.f.tw (c.args.x + c.loop-j.j) c.near_at-s.ensures c.requires.0.wide in
    let row : (c.args.y * c.args.f.w + c.args.f.w) * 3 ≤ length c.args.rgb.now = row_in c.args.y c.args.f.h c.args.f.w (length c.args.rgb.now) c.requires.0.bytes c.requires.2 in
    (omega (arith, row, inside), omega (arith, c.requires.5, c.loop-j.invariant.1, c.loop-j-test.true))

pub overflow_mul-o : goal.overflow_mul-o
overflow_mul-o c = omega (arith, c.requires.4, c.loop-j-test.true, c.well_formed)

pub overflow_add-o : goal.overflow_add-o
overflow_add-o c = omega (arith, c.requires.4, c.loop-j-test.true, c.well_formed)

pub loop-j-preserved : goal.loop-j-preserved
loop-j-preserved c =
    let s = c.args.rgb.now in (
      c.weigh_pixel.auto.out ∙ c.loop-j.invariant.0,
      c.weigh_pixel-in-loop-j.auto.out ∙ c.loop-j.invariant.1,
      rows_step (λ j. tab 3 (λ i. left_of s c.args.f.w c.args.y (near c.args.f.w c.args.f.tw (c.args.x + j)) i)) 3 (λ j. length-tab 3 _) c.args.left.now c.loop-j.left _ c.args.at (c.args.at + c.loop-j.j * 3) c.loop-j.j c.loop-j.invariant.2 refl
          (c.weigh_pixel.ensures ∙ ap (λ (k : Near). put c.loop-j.left (c.args.at + c.loop-j.j * 3) (tab 3 (λ i. left_of s c.args.f.w c.args.y k i))) c.near_at-s.ensures),
      rows_step (λ j. tab 3 (λ i. right_of s c.args.f.w c.args.y (near c.args.f.w c.args.f.tw (c.args.x + j)) i)) 3 (λ j. length-tab 3 _) c.args.right.now c.loop-j.right _ c.args.at (c.args.at + c.loop-j.j * 3) c.loop-j.j c.loop-j.invariant.3 refl
          (c.weigh_pixel-in-loop-j.ensures ∙ ap (λ (k : Near). put c.loop-j.right (c.args.at + c.loop-j.j * 3) (tab 3 (λ i. right_of s c.args.f.w c.args.y k i))) c.near_at-s.ensures),
    )

pub shape_of-left : goal.shape_of-left
shape_of-left c = c.loop-j.invariant.0

pub shape_of-right : goal.shape_of-right
shape_of-right c = c.loop-j.invariant.1

pub returns : goal.returns
returns c =
    let e : c.loop-j.j ≡ c.args.n = omega arith in record {
      left_after = c.loop-j.invariant.2 ∙ ap (λ (n : ℕ). put c.args.left.now c.args.at (left_row c.args.rgb.now c.args.f.w c.args.f.tw c.args.y c.args.x n)) e;
      right_after = c.loop-j.invariant.3 ∙ ap (λ (n : ℕ). put c.args.right.now c.args.at (right_row c.args.rgb.now c.args.f.w c.args.f.tw c.args.y c.args.x n)) e;
    }
