-- `picture_samples::samples` meets its contract: its constant is the table of the Rust's own numbers. Assumes nothing.
use mathlib.Core.Path.{sym, ◌∙◌}
use Rattle.picture_samples.proofs.Table.{table, table_is}
use Rattle.picture_samples.proofs.samples.Goals as goal

pub returns-then-own : goal.returns-then-own
unfolding table
returns-then-own c = table_is ∙ sym (c.own.ensures c.if-own.true)
