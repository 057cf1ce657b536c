-- `test::misplaced` meets its contract. Assumes nothing.
use mathlib.Core.Path.{refl}
use native.Mathlib.Omega.{arith}
use borrow.Author.Tests.{lt-leb, le-leb}
use Rattle.weights.proofs.Filling.{few}
use Rattle.weights.proofs.test.misplaced.Goals as goal

pub returns-then-d : goal.returns-then-d
returns-then-d c = rw (lt-leb _ _ c.if-d.true) refl

pub returns-then-bytes-d : goal.returns-then-bytes-d
returns-then-bytes-d c = rw (le-leb _ _ c.if-d.false, lt-leb _ _ c.if-bytes-d.true) refl

pub overflow_mul-result : goal.overflow_mul-result
overflow_mul-result c = omega (arith, few c.args.count c.size_of.result c.args.d.kind c.size_of.ensures c.requires)

pub returns : goal.returns
returns c = rw (le-leb _ _ c.if-d.false, le-leb _ _ c.if-bytes-d.false, c.size_of.ensures) refl
