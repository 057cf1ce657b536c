-- `picture_patches::weigh::mix_row` meets its contract. Assumes nothing.
use mathlib.Core.Path.{◌≡◌, refl, ap, ◌∙◌}
use Prim.Native.Nat.{ℕ, ◌+◌}
use native.Mathlib.Omega.{arith}
use lib.ListN.{length-set}
use Rattle.buffers.specs.Rows.{tab}
use Rattle.buffers.specs.Region.{put}
use Rattle.buffers.proofs.Lists.{tab-step}
use Rattle.picture_patches.specs.inner.Strip.{mixed_at, mixed_row}
use Rattle.picture_patches.proofs.weigh.mix_row.Goals as goal

pub loop-e-init : goal.loop-e-init
unfolding put tab
loop-e-init c = (omega arith, refl, refl)

pub loop-e-preserved : goal.loop-e-preserved
loop-e-preserved c =
    (omega (arith, c.loop-e-test.true), simp length-set c.loop-e.invariant.1, tab-step c.args.out.now c.loop-e.out c.args.at c.loop-e.e (λ i. mixed_at c.args.left.now c.args.right.now (c.args.u + i) (c.args.v + i) c.args.g c.args.f) _ c.loop-e.invariant.2 c.weighed_byte.ensures)

pub shape_of-out : goal.shape_of-out
shape_of-out c = c.loop-e.invariant.1

pub returns : goal.returns
returns c =
    let e : c.loop-e.e ≡ c.args.k = omega (arith, c.loop-e.invariant.0, c.loop-e-test.false) in
    c.loop-e.invariant.2 ∙ ap (λ (n : ℕ). put c.args.out.now c.args.at (mixed_row c.args.left.now c.args.right.now c.args.u c.args.v c.args.g c.args.f n)) e
