-- `names::part_is` meets its contract. Assumes nothing.
use mathlib.Core.Path.{refl, sym}
use native.Mathlib.Omega.{arith}
use lib.ListN.{drop}
use Rattle.tensor_header.proofs.Listed.{above, named_past}
use Rattle.tensor_header.specs.inner.Named.{part_names}
use Rattle.tensor_header.proofs.names.part_is.Goals as goal

pub returns-then-i-eq0 : goal.returns-then-i-eq0
returns-then-i-eq0 c = rw (c.name_is.ensures, c.if-i-eq0.true) refl

pub returns-then-i-eq1 : goal.returns-then-i-eq1
returns-then-i-eq1 c = rw (c.name_is-then-i-eq1.ensures, c.if-i-eq1.true) refl

pub returns-then-i-eq2 : goal.returns-then-i-eq2
returns-then-i-eq2 c = rw (c.name_is-then-i-eq2.ensures, c.if-i-eq2.true) refl

pub returns-then-i-eq3 : goal.returns-then-i-eq3
returns-then-i-eq3 c = rw (c.name_is-then-i-eq3.ensures, c.if-i-eq3.true) refl

pub returns-then-i-eq4 : goal.returns-then-i-eq4
returns-then-i-eq4 c = rw (c.name_is-then-i-eq4.ensures, c.if-i-eq4.true) refl

pub returns-then-i-eq5 : goal.returns-then-i-eq5
returns-then-i-eq5 c = rw (c.name_is-then-i-eq5.ensures, c.if-i-eq5.true) refl

pub returns-then-i-eq6 : goal.returns-then-i-eq6
returns-then-i-eq6 c = rw (c.name_is-then-i-eq6.ensures, c.if-i-eq6.true) refl

pub returns-then-i-eq7 : goal.returns-then-i-eq7
returns-then-i-eq7 c = rw (c.name_is-then-i-eq7.ensures, c.if-i-eq7.true) refl

pub returns-then-i-eq8 : goal.returns-then-i-eq8
returns-then-i-eq8 c = rw (c.name_is-then-i-eq8.ensures, c.if-i-eq8.true) refl

pub returns : goal.returns
returns c = sym (named_past part_names c.args.i (drop c.args.at c.args.h.now) (above 8 (above 7 (above 6 (above 5 (above 4 (above 3 (above 2 (above 1 (above 0 (omega arith) c.if-i-eq0.false) c.if-i-eq1.false) c.if-i-eq2.false) c.if-i-eq3.false) c.if-i-eq4.false) c.if-i-eq5.false) c.if-i-eq6.false) c.if-i-eq7.false) c.if-i-eq8.false))
