-- `run::fill` meets its contract: the first i places are written. Assumes nothing.
use borrow.Author.Rules.{rules}
use native.Mathlib.Omega.{arith}
use mathlib.Core.Path.{◌≡◌, sym, ◌∙◌}
use lib.ListN.{length-set}
use Rattle.buffers.specs.Rows.{tab}
use Rattle.buffers.specs.Region.{put}
use Rattle.buffers.proofs.Lists.{length-tab, tab-step-0}
use Rattle.buffers.proofs.Regions.{put_all}
use Rattle.salvage_replay.specs.Run.{room, patches_in}
use Rattle.salvage_replay.proofs.run.fill.Invariants.{placed}
use Rattle.salvage_replay.proofs.run.fill.Goals as goal

pub loop-i-init : goal.loop-i-init
unfolding tab put
loop-i-init c = search rules

pub overflow_mul-i : goal.overflow_mul-i
overflow_mul-i c = omega arith

pub overflow_cast-bytes : goal.overflow_cast-bytes
overflow_cast-bytes c = omega (arith, c.shared_slice_known-in-loop-i-1.given c.loop-i.i)

pub overflow_add-i : goal.overflow_add-i
overflow_add-i c = omega (arith, c.shared_slice_known-in-loop-i-1.given c.loop-i.i)

pub offset_bounds-t-i : goal.offset_bounds-t-i
offset_bounds-t-i c = omega (arith, c.shared_slice_known-in-loop-i-1.given c.loop-i.i)

pub bounds-t-i : goal.bounds-t-i
bounds-t-i c = omega (arith, c.shared_slice_known-in-loop-i-1.given c.loop-i.i)

pub loop-i-preserved : goal.loop-i-preserved
loop-i-preserved c = (
  omega arith,
  simp length-set c.loop-i.invariant.1,
  tab-step-0 c.args.to.now c.loop-i.to c.loop-i.i (placed c.args.v.now c.args.t.now c.args.bytes.now) c.change.result c.loop-i.invariant.2 c.change.ensures,
)

pub returns : goal.returns
returns c =
    let e : c.loop-i.i ≡ room = omega (arith, c.requires.3) in
    c.loop-i.invariant.2 ∙ rw e (put_all c.args.to.now (patches_in c.args.v.now c.args.t.now c.args.bytes.now room) (length-tab _ _ ∙ sym c.requires.3))
