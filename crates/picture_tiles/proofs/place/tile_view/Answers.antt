-- `picture_tiles::place::tile_view` meets its contract. Assumes nothing.
use Prim.Native.Nat.{◌<◌}
use native.Mathlib.Omega.{arith}
use Rattle.picture_tiles.specs.Cut.{across}
use Rattle.picture_tiles.proofs.Cuts.{factor}
use Rattle.picture_tiles.proofs.Bounds.{Bounds, bounds, Inside, inside_of}
use Rattle.picture_tiles.proofs.place.tile_view.Goals as goal

pub pieces_of-across-requires : goal.pieces_of-across-requires
pieces_of-across-requires c =
    let at-start : Bounds c.args.s c.args.height c.args.width = bounds c.args.s c.args.height c.args.width c.requires.0 c.requires.1 in
    let z = at-start in rw c.tile_side-t.ensures (z.side-low, z.side-high, z.wide)

pub nonzero_div-top : goal.nonzero_div-top
nonzero_div-top c =
    let some : 0 < across c.args.s c.args.width = factor c.args.index _ (across c.args.s c.args.width) c.requires.2 in
    rw (c.pieces_of-across.ensures, c.tile_side-t.ensures) (omega (arith, some))

pub overflow_mul-top : goal.overflow_mul-top
overflow_mul-top c =
    let at-start : Bounds c.args.s c.args.height c.args.width = bounds c.args.s c.args.height c.args.width c.requires.0 c.requires.1 in
    let within : Inside c.args.s c.args.height c.args.width c.args.index = inside_of c.args.s c.args.height c.args.width c.args.index c.requires.0 c.requires.2 in
    let z = within in let b = at-start in rw (c.pieces_of-across.ensures, c.tile_side-t.ensures) (omega (arith, z.ends, b.tall))

pub nonzero_rem-left : goal.nonzero_rem-left
nonzero_rem-left c =
    let some : 0 < across c.args.s c.args.width = factor c.args.index _ (across c.args.s c.args.width) c.requires.2 in
    rw (c.pieces_of-across.ensures, c.tile_side-t.ensures) (omega (arith, some))

pub overflow_mul-left : goal.overflow_mul-left
overflow_mul-left c =
    let at-start : Bounds c.args.s c.args.height c.args.width = bounds c.args.s c.args.height c.args.width c.requires.0 c.requires.1 in
    let within : Inside c.args.s c.args.height c.args.width c.args.index = inside_of c.args.s c.args.height c.args.width c.args.index c.requires.0 c.requires.2 in
    let z = within in let b = at-start in rw (c.pieces_of-across.ensures, c.tile_side-t.ensures) (omega (arith, z.stops, b.wide))

pub overflow_sub-height : goal.overflow_sub-height
overflow_sub-height c =
    let within : Inside c.args.s c.args.height c.args.width c.args.index = inside_of c.args.s c.args.height c.args.width c.args.index c.requires.0 c.requires.2 in
    let z = within in rw (c.pieces_of-across.ensures, c.tile_side-t.ensures) (omega (arith, z.ends))

pub overflow_sub-width : goal.overflow_sub-width
overflow_sub-width c =
    let within : Inside c.args.s c.args.height c.args.width c.args.index = inside_of c.args.s c.args.height c.args.width c.args.index c.requires.0 c.requires.2 in
    let z = within in rw (c.pieces_of-across.ensures, c.tile_side-t.ensures) (omega (arith, z.stops))

pub returns : goal.returns
returns c = rw (c.min.ensures, c.min-2.ensures, c.pieces_of-across.ensures, c.tile_side-t.ensures)
