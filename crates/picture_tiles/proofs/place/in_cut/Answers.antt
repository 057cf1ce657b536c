-- `picture_tiles::place::in_cut` meets its contract. Assumes nothing.
use native.Mathlib.Omega.{arith}
use Rattle.picture_limits.proofs.Places.{times}
use Rattle.picture_tiles.specs.Cut.{down, across}
use Rattle.picture_tiles.proofs.Bounds.{Bounds, bounds}
use Rattle.picture_tiles.proofs.place.in_cut.Goals as goal

pub pieces_of-requires : goal.pieces_of-requires
pieces_of-requires c =
    let at-start : Bounds c.args.s c.args.height c.args.width = bounds c.args.s c.args.height c.args.width c.requires.0 c.requires.1 in
    let z = at-start in rw c.tile_side-t.ensures (z.side-low, z.side-high, z.tall)

pub pieces_of-requires-2 : goal.pieces_of-requires-2
pieces_of-requires-2 c =
    let at-start : Bounds c.args.s c.args.height c.args.width = bounds c.args.s c.args.height c.args.width c.requires.0 c.requires.1 in
    let z = at-start in rw c.tile_side-t.ensures (z.side-low, z.side-high, z.wide)

pub overflow_mul-result : goal.overflow_mul-result
overflow_mul-result c =
    let at-start : Bounds c.args.s c.args.height c.args.width = bounds c.args.s c.args.height c.args.width c.requires.0 c.requires.1 in
    let z = at-start in
    rw (c.pieces_of.ensures, c.pieces_of-2.ensures, c.tile_side-t.ensures) (omega (arith, times (down c.args.s c.args.height) (across c.args.s c.args.width) 8192 8192 z.few-down z.few-across))

pub returns : goal.returns
returns c = rw (c.pieces_of.ensures, c.pieces_of-2.ensures, c.tile_side-t.ensures)
