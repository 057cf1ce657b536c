-- `picture_patches::strip::strip_row` meets its contract. Assumes nothing.
use mathlib.Core.Path.{◌≡◌, ap, ◌∙◌}
use mathlib.Core.List.{List}
use Prim.Native.Nat.{ℕ, ◌+◌, ◌*◌, ◌%◌}
use native.Mathlib.Omega.{arith}
use lib.ListN.{length, get_or, set}
use lib.Ieee.{binary64, sub}
use Rattle.number_floats.specs.Constants.{one64}
use Rattle.buffers.specs.inner.Apart.{before}
use Rattle.buffers.specs.Region.{put}
use Rattle.buffers.proofs.Regions.{get_or-put}
use Rattle.picture_resize.specs.declared.Near.{Near}
use Rattle.picture_resize.specs.Resize.{near}
use Rattle.picture_resize.proofs.Nears.{near-held}
use Rattle.picture_patches.specs.inner.Strip.{span, mixed_row}
use Rattle.picture_patches.proofs.Strips.{neighbours, first-stays, second_is, row-mixed}
use Rattle.picture_patches.proofs.strip.strip_row.Goals as goal

pub near_at-y-requires : goal.near_at-y-requires
near_at-y-requires c = (c.requires.0.frame.tall, c.requires.1, c.requires.0.down)

pub hold-requires : goal.hold-requires
hold-requires c =
    (c.requires.0.frame, c.requires.0.across, (near-held _ _ _ _ c.near_at-y.ensures c.requires.0.frame.tall).0, c.requires.2, c.requires.3, c.requires.4)

pub hold-requires-2 : goal.hold-requires-2
hold-requires-2 c =
    (c.requires.0.frame, c.requires.0.across, (near-held _ _ _ _ c.near_at-y.ensures c.requires.0.frame.tall).1, c.requires.2, record { columns = c.requires.3.columns; left-long = c.hold.auto.left ∙ c.requires.3.left-long; right-long = c.hold.auto.right ∙ c.requires.3.right-long }, c.hold.ensures.held)

pub overflow_mul-n : goal.overflow_mul-n
overflow_mul-n c = omega (arith, c.requires.3.columns)

pub mix_row-requires : goal.mix_row-requires
mix_row-requires c =
    let l : length c.hold-2.new.left ≡ 2 * span = c.hold-2.auto.left ∙ c.hold.auto.left ∙ c.requires.3.left-long in
    let r : length c.hold-2.new.right ≡ 2 * span = c.hold-2.auto.right ∙ c.hold.auto.right ∙ c.requires.3.right-long in
    record { left-upper = omega arith; left-lower = omega arith; right-upper = omega arith; right-lower = omega arith; space = omega (arith, c.requires.5) }

pub shape_of-held : goal.shape_of-held
shape_of-held c = c.hold-2.auto.held ∙ c.hold.auto.held

pub shape_of-left : goal.shape_of-left
shape_of-left c = c.hold-2.auto.left ∙ c.hold.auto.left

pub shape_of-right : goal.shape_of-right
shape_of-right c = c.hold-2.auto.right ∙ c.hold.auto.right

pub returns : goal.returns
returns c =
    let both : let y = near c.args.f.h c.args.f.th c.args.r in c.hold-2.new.held ≡ set (set c.args.held.now (y.low % 2) (y.low + 1)) (y.high % 2) (y.high + 1) = let s = c.args.held.now in
    c.hold-2.ensures.held_after
    ∙ ap (λ (l : List ℕ). set l (c.near_at-y.result.high % 2) (c.near_at-y.result.high + 1)) c.hold.ensures.held_after
    ∙ ap (λ (m : Near). set (set s (m.low % 2) (m.low + 1)) (m.high % 2) (m.high + 1)) c.near_at-y.ensures in
    let y = near c.args.f.h c.args.f.th c.args.r in
    let k = c.args.n * 3 in
    let l = c.hold-2.new.left in
    let r = c.hold-2.new.right in
    let N = neighbours c.args.f.h c.args.f.th c.args.r c.requires.0.frame.tall in
    let e = c.mix_row.ensures ∙ ap (λ (m : Near). put c.args.band.now c.args.at (mixed_row l r (m.low % 2 * span) (m.high % 2 * span) (sub binary64 one64 m.part) m.part k)) c.near_at-y.ensures in record {
      held = c.hold-2.ensures.held;
      row_at = row-mixed c.args.rgb.now c.args.f c.args.r c.args.x c.args.n c.hold-2.new.held l r c.requires.0.frame.tall c.hold-2.ensures.held
          (ap (λ (s : List ℕ). get_or s (y.low % 2) 0) (both) ∙ first-stays c.args.held.now y.low y.high c.requires.4.two N.0 N.1)
          (ap (λ (s : List ℕ). get_or s (y.high % 2) 0) (both) ∙ second_is c.args.held.now y.low y.high c.requires.4.two)
          c.args.band.now _ c.args.at (omega (arith, c.requires.5)) e;
      by_index = (λ i h. ap (λ (s : List ℕ). get_or s i 0) e ∙ get_or-put c.args.band.now c.args.at (mixed_row l r (y.low % 2 * span) (y.high % 2 * span) (sub binary64 one64 y.part) y.part k) i 0 (before (omega arith)));
    }
