-- `counts::total` meets its contract: the sum is that of the tensors passed. Assumes nothing.
use mathlib.Core.Path.{◌≡◌, refl, sym, ap, ◌∙◌}
use Prim.Native.Nat.{ℕ, ◌<◌}
use native.Mathlib.Omega.{arith}
use lib.ListN.{length}
use Rattle.tensor_header.specs.Tensors.{tensors}
use Rattle.weights.specs.inner.Sums.{sum_to}
use Rattle.weights.proofs.Sums.{sum_step, sum_is, sum-high, sum_room}
use Rattle.weights.proofs.counts.total.Goals as goal

pub tensor_count-n-requires : goal.tensor_count-n-requires
tensor_count-n-requires c = c.requires

pub loop-i-init : goal.loop-i-init
unfolding sum_to
loop-i-init c = (omega arith, refl)

pub count_at-sum-requires : goal.count_at-sum-requires
count_at-sum-requires c = c.requires

pub overflow_add-sum : goal.overflow_add-sum
overflow_add-sum c = let s = c.args.s in let i = c.loop-i.i in let h : i < length (tensors s) = omega (arith, c.tensor_count-n.ensures.value) in omega (arith, sum_room s c.requires i h, sum-high s c.requires, c.count_at-sum.ensures, c.loop-i.invariant.1)

pub loop-i-preserved : goal.loop-i-preserved
loop-i-preserved c = let s = c.args.s in let i = c.loop-i.i in (omega arith, rw (c.loop-i.invariant.1, c.count_at-sum.ensures) (sym (sum_step (tensors s) i)))

pub returns : goal.returns
returns c = let s = c.args.s in let i = c.loop-i.i in let e : i ≡ length (tensors s) = omega (arith, c.tensor_count-n.ensures.value) in c.loop-i.invariant.1 ∙ ap (λ (k : ℕ). sum_to (tensors s) k) e ∙ sum_is s c.requires
