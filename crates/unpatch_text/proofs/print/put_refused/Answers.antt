-- `print::put_refused` meets its contract. Assumes nothing.
use native.Mathlib.Omega.{arith}
use Rattle.unpatch_text.proofs.Writes.{wrote_then, wrote_as, refused-parts, length-refused}
use Rattle.unpatch_text.proofs.print.put_refused.Goals as goal

-- src/print.rt:72:9
pub put_bytes-a-requires : goal.put_bytes-a-requires
put_bytes-a-requires c = omega (arith, length-refused c.args.n)

-- src/print.rt:73:9
pub put_field-b-requires : goal.put_field-b-requires
put_field-b-requires c = omega (arith, length-refused c.args.n, c.put_bytes-a.ensures.next-is, c.put_bytes-a.auto)

-- src/print.rt:74:5
pub put_bytes-requires : goal.put_bytes-requires
put_bytes-requires c = omega (arith, length-refused c.args.n, c.put_bytes-a.ensures.next-is, c.put_bytes-a.auto, c.put_field-b.ensures.next-is, c.put_field-b.auto)

-- src/print.rt:68:1
pub shape_of-out : goal.shape_of-out
shape_of-out c = omega (arith, c.put_bytes-a.auto, c.put_field-b.auto, c.put_bytes.auto)

-- src/print.rt:68:1
pub returns : goal.returns
returns c = wrote_as (refused-parts c.args.n) (wrote_then (wrote_then c.put_bytes-a.ensures c.put_field-b.ensures) c.put_bytes.ensures)
