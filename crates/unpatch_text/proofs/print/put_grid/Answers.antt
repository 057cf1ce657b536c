-- `print::put_grid` meets its contract. Assumes nothing.
use native.Mathlib.Omega.{arith}
use Rattle.unpatch_text.proofs.Writes.{wrote_then, wrote_as, grid-parts, length-grid}
use Rattle.unpatch_text.proofs.print.put_grid.Goals as goal

-- src/print.rt:81:9
pub put_bytes-a-requires : goal.put_bytes-a-requires
put_bytes-a-requires c = omega (arith, length-grid c.args.grid_h c.args.grid_w c.args.tokens)

-- src/print.rt:82:9
pub put_field-b-requires : goal.put_field-b-requires
put_field-b-requires c = omega (arith, length-grid c.args.grid_h c.args.grid_w c.args.tokens, c.put_bytes-a.ensures.next-is, c.put_bytes-a.auto)

-- src/print.rt:83:9
pub put_field-c-requires : goal.put_field-c-requires
put_field-c-requires c = omega (arith, length-grid c.args.grid_h c.args.grid_w c.args.tokens, c.put_bytes-a.ensures.next-is, c.put_bytes-a.auto, c.put_field-b.ensures.next-is, c.put_field-b.auto)

-- src/print.rt:84:9
pub put_field-d-requires : goal.put_field-d-requires
put_field-d-requires c = omega (arith, length-grid c.args.grid_h c.args.grid_w c.args.tokens, c.put_bytes-a.ensures.next-is, c.put_bytes-a.auto, c.put_field-b.ensures.next-is, c.put_field-b.auto, c.put_field-c.ensures.next-is, c.put_field-c.auto)

-- src/print.rt:85:5
pub put_bytes-requires : goal.put_bytes-requires
put_bytes-requires c = omega (arith, length-grid c.args.grid_h c.args.grid_w c.args.tokens, c.put_bytes-a.ensures.next-is, c.put_bytes-a.auto, c.put_field-b.ensures.next-is, c.put_field-b.auto, c.put_field-c.ensures.next-is, c.put_field-c.auto, c.put_field-d.ensures.next-is, c.put_field-d.auto)

-- src/print.rt:77:1
pub shape_of-out : goal.shape_of-out
shape_of-out c = omega (arith, c.put_bytes-a.ensures.next-is, c.put_bytes-a.auto, c.put_field-b.ensures.next-is, c.put_field-b.auto, c.put_field-c.ensures.next-is, c.put_field-c.auto, c.put_field-d.ensures.next-is, c.put_field-d.auto, c.put_bytes.ensures.next-is, c.put_bytes.auto)

-- src/print.rt:77:1
pub returns : goal.returns
returns c =
    wrote_as (grid-parts c.args.grid_h c.args.grid_w c.args.tokens) (wrote_then (wrote_then (wrote_then (wrote_then c.put_bytes-a.ensures c.put_field-b.ensures) c.put_field-c.ensures) c.put_field-d.ensures) c.put_bytes.ensures)
