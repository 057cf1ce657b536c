-- `print::put_row` meets its contract. Assumes nothing.
use native.Mathlib.Omega.{arith}
use Rattle.unpatch_text.proofs.Writes.{wrote_then, wrote_as, row-parts, length-row, length-hex}
use Rattle.unpatch_text.proofs.print.put_row.Goals as goal

-- src/print.rt:92:9
pub put_bytes-a-requires : goal.put_bytes-a-requires
put_bytes-a-requires c = omega (arith, length-row c.args.y c.args.s.now)

-- src/print.rt:93:9
pub put_field-b-requires : goal.put_field-b-requires
put_field-b-requires c = omega (arith, length-row c.args.y c.args.s.now, c.put_bytes-a.ensures.next-is, c.put_bytes-a.auto)

-- src/print.rt:94:9
pub put_bytes-c-requires : goal.put_bytes-c-requires
put_bytes-c-requires c = omega (arith, length-row c.args.y c.args.s.now, c.put_bytes-a.ensures.next-is, c.put_bytes-a.auto, c.put_field-b.ensures.next-is, c.put_field-b.auto)

-- src/print.rt:95:9
pub put_hex-d-requires : goal.put_hex-d-requires
put_hex-d-requires c = omega (arith, length-row c.args.y c.args.s.now, c.put_bytes-a.ensures.next-is, c.put_bytes-a.auto, c.put_field-b.ensures.next-is, c.put_field-b.auto, c.put_bytes-c.ensures.next-is, c.put_bytes-c.auto)

-- src/print.rt:96:5
pub put_bytes-requires : goal.put_bytes-requires
put_bytes-requires c = omega (arith, length-row c.args.y c.args.s.now, c.put_bytes-a.ensures.next-is, c.put_bytes-a.auto, c.put_field-b.ensures.next-is, c.put_field-b.auto, c.put_bytes-c.ensures.next-is, c.put_bytes-c.auto, c.put_hex-d.ensures.next-is, c.put_hex-d.auto, length-hex c.args.s.now)

-- src/print.rt:88:1
pub shape_of-out : goal.shape_of-out
shape_of-out c = omega (arith, c.put_bytes-a.ensures.next-is, c.put_bytes-a.auto, c.put_field-b.ensures.next-is, c.put_field-b.auto, c.put_bytes-c.ensures.next-is, c.put_bytes-c.auto, c.put_hex-d.ensures.next-is, c.put_hex-d.auto, c.put_bytes.ensures.next-is, c.put_bytes.auto)

-- src/print.rt:88:1
pub returns : goal.returns
returns c =
    wrote_as (row-parts c.args.y c.args.s.now) (wrote_then (wrote_then (wrote_then (wrote_then c.put_bytes-a.ensures c.put_field-b.ensures) c.put_bytes-c.ensures) c.put_hex-d.ensures) c.put_bytes.ensures)
