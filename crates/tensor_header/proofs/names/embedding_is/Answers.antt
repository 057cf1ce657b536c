-- `names::embedding_is` meets its contract. Assumes nothing.
use mathlib.Core.Path.{refl, sym}
use native.Mathlib.Omega.{arith}
use lib.ListN.{drop}
use Rattle.tensor_header.proofs.Listed.{named_past}
use Rattle.tensor_header.specs.inner.Named.{embedding_names}
use Rattle.tensor_header.proofs.names.embedding_is.Goals as goal

pub returns-then-i-eq0 : goal.returns-then-i-eq0
returns-then-i-eq0 c = rw (c.name_is.ensures, c.if-i-eq0.true) refl

pub returns-then-i-eq1 : goal.returns-then-i-eq1
returns-then-i-eq1 c = rw (c.name_is-then-i-eq1.ensures, c.if-i-eq1.true) refl

pub returns : goal.returns
returns c = sym (named_past embedding_names c.args.i (drop c.args.at c.args.h.now) (omega arith))
