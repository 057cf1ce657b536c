-- `print::put_field` meets its contract. Assumes nothing.
use Rattle.unpatch_text.proofs.Writes.{wrote_then}
use Rattle.unpatch_text.proofs.print.put_field.Goals as goal

-- src/print.rt:60:1
pub returns : goal.returns
returns c = wrote_then c.put_bytes-e.ensures c.put_decimal.ensures
