-- `record::place` meets its contract, by the variant. Assumes nothing.
use borrow.Author.Rules.{rules}
use mathlib.Core.Path.{ap, sym, ◌∙◌}
use Rattle.number_replay.specs.Records.{place_of}
use Rattle.number_replay.proofs.record.place.Goals as goal

pub returns-in-Same : goal.returns-in-Same
returns-in-Same c = (c.rule_place.ensures.0 ∙ ap place_of (sym c.in-Same.is), c.rule_place.ensures.1)

pub returns-in-Differs : goal.returns-in-Differs
unfolding place_of
returns-in-Differs c = search rules

pub returns-in-Bad : goal.returns-in-Bad
unfolding place_of
returns-in-Bad c = search rules
