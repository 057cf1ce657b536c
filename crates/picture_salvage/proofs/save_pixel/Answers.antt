-- `picture_salvage::save_pixel` meets its contract: three stores are one write of three bytes. Assumes nothing.
use native.Mathlib.Omega.{arith}
use lib.ListN.{length-set}
use Rattle.buffers.proofs.Regions.{put_three}
use Rattle.picture_salvage.proofs.save_pixel.Goals as goal

pub bounds-out-at-2 : goal.bounds-out-at-2
bounds-out-at-2 c = simp length-set (omega arith)

pub bounds-out-at-3 : goal.bounds-out-at-3
bounds-out-at-3 c = simp length-set (omega arith)

pub shape_of-out : goal.shape_of-out
shape_of-out c = simp length-set

pub returns : goal.returns
returns c =
    rw (c.saved_byte.ensures, c.saved_byte-2.ensures, c.saved_byte-3.ensures) (put_three c.args.out.now c.args.at _ _ _)
