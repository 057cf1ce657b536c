-- `picture_salvage::save_run` meets its contract. The invariant: the pixels passed are written. Assumes nothing.
use mathlib.Core.Path.{◌≡◌, refl, ap, ◌∙◌}
use Prim.Native.Nat.{ℕ}
use native.Mathlib.Omega.{arith}
use lib.ListN.{get_or}
use Rattle.buffers.specs.Rows.{rows}
use Rattle.buffers.specs.Region.{put}
use Rattle.buffers.proofs.Lists.{rows_step}
use Rattle.picture_salvage.specs.inner.Loops.{saved_pixel, saved_pixels}
use Rattle.picture_salvage.proofs.save_run.Goals as goal

pub loop-j-init : goal.loop-j-init
unfolding put rows
loop-j-init c = (omega arith, omega arith, refl, refl)

pub loop-j-preserved : goal.loop-j-preserved
loop-j-preserved c = (
  omega arith,
  omega arith,
  c.save_pixel.auto.out ∙ c.loop-j.invariant.2,
  rows_step (λ j. saved_pixel (get_or c.args.red.now j 0) (get_or c.args.green.now j 0) (get_or c.args.blue.now j 0)) 3 (λ j. refl) c.args.out.now c.loop-j.out _ c.args.at c.loop-j.o c.loop-j.j c.loop-j.invariant.3 c.loop-j.invariant.1 c.save_pixel.ensures,
)

pub shape_of-out : goal.shape_of-out
shape_of-out c = c.loop-j.invariant.2

pub returns : goal.returns
returns c =
    let e : c.loop-j.j ≡ c.args.n = omega arith in
    c.loop-j.invariant.3 ∙ ap (λ (n : ℕ). put c.args.out.now c.args.at (saved_pixels c.args.red.now c.args.green.now c.args.blue.now n)) e
