-- `counts::part_count` meets its contract. Assumes nothing.
use mathlib.Core.Path.{refl, sym}
use native.Mathlib.Omega.{arith}
use Rattle.tensor_header.specs.Tensors.{layer_tensors, count_at}
use Rattle.tensor_header.proofs.Listed.{above}
use Rattle.weights.proofs.Sums.{count_past, part-square, part-wide}
use Rattle.weights.proofs.counts.part_count.Goals as goal

pub returns-then-i-eq0 : goal.returns-then-i-eq0
unfolding count_at
returns-then-i-eq0 c = rw c.if-i-eq0.true refl

pub returns-then-i-lt5 : goal.returns-then-i-lt5
returns-then-i-lt5 c = sym (part-square c.args.s c.args.i (above 0 (omega arith) c.if-i-eq0.false) c.if-i-lt5.true)

pub returns-then-i-eq5 : goal.returns-then-i-eq5
unfolding count_at
returns-then-i-eq5 c = rw c.if-i-eq5.true refl

pub returns-then-i-lt8 : goal.returns-then-i-lt8
returns-then-i-lt8 c = sym (part-wide c.args.s c.args.i (above 5 (omega arith) c.if-i-eq5.false) c.if-i-lt8.true)

pub returns-then-i-eq8 : goal.returns-then-i-eq8
unfolding count_at
returns-then-i-eq8 c = rw c.if-i-eq8.true refl

pub returns : goal.returns
returns c = sym (count_past (layer_tensors c.args.s 0) c.args.i (above 8 (omega arith) c.if-i-eq8.false))
