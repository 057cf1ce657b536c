-- `counts::ending_count` meets its contract. Assumes nothing.
use mathlib.Core.Path.{refl, sym}
use mathlib.Core.Bool.{true, false}
use Prim.Native.Nat.{◌+◌}
use native.Mathlib.Omega.{arith}
use Rattle.tensor_header.specs.Tensors.{count_at}
use Rattle.tensor_header.proofs.Listed.{above}
use Rattle.weights.proofs.Sums.{count_past, by-bias}
use Rattle.weights.proofs.counts.ending_count.Goals as goal

pub returns-then-i-eq0 : goal.returns-then-i-eq0
unfolding count_at
returns-then-i-eq0 c = by-bias c.args.s true (3 + c.args.i) _ c.if-bias.true-raw (rw c.if-i-eq0.true refl)

pub returns-then-i-eq1 : goal.returns-then-i-eq1
unfolding count_at
returns-then-i-eq1 c = by-bias c.args.s true (3 + c.args.i) _ c.if-bias.true-raw (rw c.if-i-eq1.true refl)

pub returns-then-i-eq2 : goal.returns-then-i-eq2
unfolding count_at
returns-then-i-eq2 c = by-bias c.args.s true (3 + c.args.i) _ c.if-bias.true-raw (rw c.if-i-eq2.true refl)

pub returns-then-bias : goal.returns-then-bias
returns-then-bias c = by-bias c.args.s true (3 + c.args.i) _ c.if-bias.true-raw (sym (count_past _ (3 + c.args.i) (let h = above 2 (above 1 (above 0 (omega arith) c.if-i-eq0.false) c.if-i-eq1.false) c.if-i-eq2.false in omega arith)))

pub returns-then-i-eq0-2 : goal.returns-then-i-eq0-2
unfolding count_at
returns-then-i-eq0-2 c = by-bias c.args.s false (3 + c.args.i) _ c.if-bias.false-raw (rw c.if-i-eq0-2.true refl)

pub returns : goal.returns
returns c = by-bias c.args.s false (3 + c.args.i) _ c.if-bias.false-raw (sym (count_past _ (3 + c.args.i) (let h = above 0 (omega arith) c.if-i-eq0-2.false in omega arith)))
