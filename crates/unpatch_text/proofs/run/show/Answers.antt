-- `run::show` meets its contract. Assumes nothing.
use Prim.Native.Nat.{◌*◌, ◌/◌}
use native.Mathlib.Omega.{arith}
use lib.ListN.{length-append}
use Rattle.picture_limits.proofs.Places.{times}
use Rattle.unpatch_text.specs.Print.{grid_line, row_lines}
use Rattle.unpatch_text.proofs.Writes.{wrote_then}
use Rattle.unpatch_text.proofs.Short.{shown-short}
use Rattle.unpatch_text.proofs.run.show.Goals as goal

-- src/run.rt:25:18
pub overflow_mul-tokens : goal.overflow_mul-tokens
overflow_mul-tokens c =
    omega (arith, times c.args.grid_h c.args.grid_w 64 64 c.requires.tall c.requires.wide)

-- src/run.rt:25:37
pub overflow_mul-tokens-2 : goal.overflow_mul-tokens-2
overflow_mul-tokens-2 c =
    omega (arith, times c.args.m c.args.m 4 4 c.requires.merge-high c.requires.merge-high)

-- src/run.rt:25:18
pub nonzero_div-tokens : goal.nonzero_div-tokens
nonzero_div-tokens c =
    omega (arith, times 1 1 c.args.m c.args.m c.requires.merge_low c.requires.merge_low)

-- src/run.rt:26:9
pub put_grid-e-requires : goal.put_grid-e-requires
put_grid-e-requires c =
    let t = c.args.grid_h * c.args.grid_w / (c.args.m * c.args.m) in
    let k = shown-short c.args.grid_h c.args.grid_w c.args.m c.args.h c.args.n c.args.s.now c.requires.tall c.requires.wide c.requires.rows-high c.requires.row-long in
    let l = length-append (grid_line c.args.grid_h c.args.grid_w t) (row_lines c.args.h c.args.n c.args.s.now) in
    omega (arith, k, l, c.requires.room)

-- src/run.rt:27:5
pub put_rows-requires : goal.put_rows-requires
put_rows-requires c =
    let t = c.args.grid_h * c.args.grid_w / (c.args.m * c.args.m) in
    let k = shown-short c.args.grid_h c.args.grid_w c.args.m c.args.h c.args.n c.args.s.now c.requires.tall c.requires.wide c.requires.rows-high c.requires.row-long in
    let l = length-append (grid_line c.args.grid_h c.args.grid_w t) (row_lines c.args.h c.args.n c.args.s.now) in
    (c.requires.inside, omega (arith, k, l, c.requires.room, c.put_grid-e.ensures.next-is, c.put_grid-e.auto.out))

-- src/run.rt:21:1
pub shape_of-out : goal.shape_of-out
shape_of-out c = omega (arith, c.put_grid-e.auto.out, c.put_rows.auto)

-- src/run.rt:21:1
pub returns : goal.returns
returns c = wrote_then c.put_grid-e.ensures c.put_rows.ensures
