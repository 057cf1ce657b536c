-- `picture_salvage::count_none` meets its contract. Assumes nothing.
use mathlib.Core.Path.{◌≡◌, refl, ap, ◌∙◌}
use Prim.Native.Nat.{ℕ}
use native.Mathlib.Omega.{arith}
use lib.Dec.{leb}
use lib.ListN.{get_or}
use Rattle.buffers.specs.Rows.{count}
use Rattle.buffers.proofs.Counts.{count-le}
use Rattle.picture_salvage.specs.inner.Loops.{none_at}
use Rattle.picture_salvage.proofs.Salvages.{flag-le, flag-step}
use Rattle.picture_salvage.proofs.count_none.Goals as goal

pub loop-k-init : goal.loop-k-init
unfolding count
loop-k-init c = (omega arith, refl)

pub overflow_cast-bad : goal.overflow_cast-bad
overflow_cast-bad c = omega (arith, flag-le (leb 256 (get_or c.args.found.now c.loop-k.k 0)))

pub overflow_add-bad : goal.overflow_add-bad
overflow_add-bad c =
    omega (arith, c.well_formed, c.requires, c.loop-k-test.true, c.loop-k.invariant.1, count-le c.loop-k.k (none_at c.args.found.now), flag-le (leb 256 (get_or c.args.found.now c.loop-k.k 0)))

pub loop-k-preserved : goal.loop-k-preserved
loop-k-preserved c =
    (omega arith, flag-step c.loop-k.k (none_at c.args.found.now) c.loop-k.bad _ c.loop-k.invariant.1 refl)

pub returns : goal.returns
returns c =
    let e : c.loop-k.k ≡ c.args.n = omega arith in
    c.loop-k.invariant.1 ∙ ap (λ (n : ℕ). count n (none_at c.args.found.now)) e
