-- `picture_salvage::list_one` meets its contract: three stores are one write. Assumes nothing.
use native.Mathlib.Omega.{arith}
use lib.ListN.{length-set}
use Rattle.buffers.proofs.Regions.{put_three}
use Rattle.picture_salvage.proofs.list_one.Goals as goal

pub bounds-list-at-2 : goal.bounds-list-at-2
bounds-list-at-2 c = simp length-set (omega arith)

pub bounds-list-at-3 : goal.bounds-list-at-3
bounds-list-at-3 c = simp length-set (omega arith)

pub shape_of-list : goal.shape_of-list
shape_of-list c = simp length-set

pub returns : goal.returns
returns c = put_three c.args.list.now c.args.at c.args.q c.args.d c.args.b
