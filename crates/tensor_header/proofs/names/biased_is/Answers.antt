-- `names::biased_is` meets its contract. Assumes nothing.
use mathlib.Core.Path.{refl, sym}
use mathlib.Core.Bool.{true}
use native.Mathlib.Omega.{arith}
use lib.ListN.{drop}
use Rattle.tensor_header.proofs.Listed.{named_past}
use Rattle.tensor_header.specs.inner.Named.{projector_names}
use Rattle.tensor_header.proofs.names.biased_is.Goals as goal

pub returns-then-i-eq0 : goal.returns-then-i-eq0
returns-then-i-eq0 c = rw (c.name_is.ensures, c.if-i-eq0.true) refl

pub returns-then-i-eq1 : goal.returns-then-i-eq1
returns-then-i-eq1 c = rw (c.name_is-then-i-eq1.ensures, c.if-i-eq1.true) refl

pub returns-then-i-eq2 : goal.returns-then-i-eq2
returns-then-i-eq2 c = rw (c.name_is-then-i-eq2.ensures, c.if-i-eq2.true) refl

pub returns-then-i-eq3 : goal.returns-then-i-eq3
returns-then-i-eq3 c = rw (c.name_is-then-i-eq3.ensures, c.if-i-eq3.true) refl

pub returns-then-i-eq4 : goal.returns-then-i-eq4
returns-then-i-eq4 c = rw (c.name_is-then-i-eq4.ensures, c.if-i-eq4.true) refl

pub returns-then-i-eq5 : goal.returns-then-i-eq5
returns-then-i-eq5 c = rw (c.name_is-then-i-eq5.ensures, c.if-i-eq5.true) refl

pub returns : goal.returns
returns c = sym (named_past (projector_names true) c.args.i (drop c.args.at c.args.h.now) (omega arith))
