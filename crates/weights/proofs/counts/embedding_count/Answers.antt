-- `counts::embedding_count` meets its contract. Assumes nothing.
use mathlib.Core.Path.{refl, sym}
use native.Mathlib.Omega.{arith}
use Rattle.tensor_header.specs.Tensors.{embedding_tensors, count_at}
use Rattle.tensor_header.proofs.Listed.{above}
use Rattle.weights.proofs.Sums.{count_past}
use Rattle.weights.proofs.counts.embedding_count.Goals as goal

pub returns-then-i-eq0 : goal.returns-then-i-eq0
unfolding count_at
returns-then-i-eq0 c = rw c.if-i-eq0.true refl

pub returns-then-i-eq1 : goal.returns-then-i-eq1
unfolding count_at
returns-then-i-eq1 c = rw c.if-i-eq1.true refl

pub returns : goal.returns
returns c = sym (count_past (embedding_tensors c.args.s) c.args.i (above 1 (above 0 (omega arith) c.if-i-eq0.false) c.if-i-eq1.false))
