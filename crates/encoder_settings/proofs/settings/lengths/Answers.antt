-- `encoder_settings::settings::lengths` meets its contract. Assumes nothing.
use borrow.Author.Tests.{le-leb, lt-leb, eq-eqb, ne_eqb}
use Rattle.encoder_settings.specs.Settings.{lengths}
use Rattle.encoder_settings.proofs.settings.lengths.Goals as goal

pub returns-then-weights-weights_needed : goal.returns-then-weights-weights_needed
unfolding lengths
returns-then-weights-weights_needed c = rw (← c.weights_needed.ensures, ne_eqb _ _ c.if-weights-weights_needed.true)

pub returns-then-not-tables : goal.returns-then-not-tables
unfolding lengths
returns-then-not-tables c = rw (← c.weights_needed.ensures, eq-eqb _ _ c.if-weights-weights_needed.false, c.if-not-tables.true)

pub returns-then-out-o : goal.returns-then-out-o
unfolding lengths
returns-then-out-o c = rw (← c.weights_needed.ensures, eq-eqb _ _ c.if-weights-weights_needed.false, c.if-not-tables.false, lt-leb _ _ c.if-out-o.true)

pub returns-then-scratch-needed : goal.returns-then-scratch-needed
unfolding lengths
returns-then-scratch-needed c = rw (← c.weights_needed.ensures, eq-eqb _ _ c.if-weights-weights_needed.false, c.if-not-tables.false, le-leb _ _ c.if-out-o.false, lt-leb _ _ c.if-scratch-needed.true)

pub returns : goal.returns
unfolding lengths
returns c = rw (← c.weights_needed.ensures, eq-eqb _ _ c.if-weights-weights_needed.false, c.if-not-tables.false, le-leb _ _ c.if-out-o.false, le-leb _ _ c.if-scratch-needed.false)
