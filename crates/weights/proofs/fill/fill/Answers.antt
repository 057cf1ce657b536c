-- `fill::fill` meets its contract. Assumes nothing.
use mathlib.Core.Path.{◌≡◌, refl, sym, ap, ◌∙◌}
use Prim.Native.Nat.{ℕ}
use native.Mathlib.Omega.{arith}
use lib.ListN.{length}
use Rattle.buffers.specs.Rows.{rows}
use Rattle.buffers.specs.Region.{put}
use Rattle.tensor_header.specs.Tensors.{tensors, entry_at}
use Rattle.weights.specs.File.{found_in, weights_in}
use Rattle.weights.specs.inner.Sums.{sum_to}
use Rattle.weights.proofs.Filling.{floats_at, one_more}
use Rattle.weights.proofs.Sums.{counts-positive, sum_step, sum_room, sum-high}
use Rattle.weights.proofs.Tried.{kept-is}
use Rattle.weights.proofs.fill.fill.Goals as goal

pub loop-i-init : goal.loop-i-init
unfolding put rows sum_to
loop-i-init c = (omega arith, refl, refl, λ es o g w. refl)

pub put_tensor-requires : goal.put_tensor-requires
put_tensor-requires c = rw c.count_at-count.ensures (counts-positive c.args.s c.requires.s_value c.loop-i.i (rw (← c.tensor_count-n.ensures.value) c.loop-i-test.true)).1

pub overflow_add-at : goal.overflow_add-at
overflow_add-at c = omega (arith, sum_room c.args.s c.requires.s_value c.loop-i.i (rw (← c.tensor_count-n.ensures.value) c.loop-i-test.true), sum-high c.args.s c.requires.s_value, c.count_at-count.ensures, c.loop-i.invariant.1)

pub loop-i-preserved : goal.loop-i-preserved
loop-i-preserved c = (omega arith, (rw (c.count_at-count.ensures, c.loop-i.invariant.1) (sym (sum_step (tensors c.args.s) c.loop-i.i))), (c.put_tensor.auto.out ∙ c.loop-i.invariant.2), λ es o g w. one_more c.args.s es c.args.bytes.now g c.args.out.now c.loop-i.out _ c.loop-i.i c.loop-i.at (rw (← c.tensor_count-n.ensures.value) c.loop-i-test.true) c.loop-i.invariant.1 (c.loop-i.invariant.3 es o g w) (c.put_tensor.ensures.is (found_in (entry_at (tensors c.args.s) es c.loop-i.i)) (kept-is c.args.s c.args.h.now c.args.places.now es c.requires.s_value o c.loop-i.i (rw (← c.tensor_count-n.ensures.value) c.loop-i-test.true) _ c.describe-d.ensures) (rw c.count_at-count.ensures (g c.loop-i.i (rw (← c.tensor_count-n.ensures.value) c.loop-i-test.true))) (omega (arith, sum_room c.args.s c.requires.s_value c.loop-i.i (rw (← c.tensor_count-n.ensures.value) c.loop-i-test.true), c.count_at-count.ensures, c.loop-i.invariant.1, c.loop-i.invariant.2, w))))

pub shape_of-out : goal.shape_of-out
shape_of-out c = c.loop-i.invariant.2

pub returns : goal.returns
unfolding weights_in
returns c = let e : c.loop-i.i ≡ length (tensors c.args.s) = omega (arith, c.tensor_count-n.ensures.value, c.loop-i.invariant.0) in record { is = λ es o g w. c.loop-i.invariant.3 es o g w ∙ ap (λ (k : ℕ). put c.args.out.now 0 (rows k (floats_at c.args.s es c.args.bytes.now g))) e }
