-- `times` meets its contract. Assumes nothing.
use Rattle.std.proofs.Common.{◌∙◌}
use Rattle.json_lists.proofs.Counted.{held-checked}
use Rattle.json_lists.proofs.times.Goals as goal

pub returns : goal.returns
returns c = c.unwrap_or.ensures ∙ held-checked c.args.a c.args.b c.checked_mul.result c.checked_mul.ensures
