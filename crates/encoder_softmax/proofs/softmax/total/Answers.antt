-- `encoder_softmax::softmax::total` meets its contract. Assumes nothing.
use mathlib.Core.Path.{refl, ap, ◌∙◌}
use native.Mathlib.Omega.{arith}
use native.Mathlib.Numerals.{add-one}
use lib.ListN.{get_or}
use lib.Ieee.{nan}
use Rattle.encoder_linear.specs.Linear.{sum_of}
use Rattle.encoder_softmax.proofs.softmax.total.Goals as goal

pub loop-v-init : goal.loop-v-init
unfolding sum_of
loop-v-init c = (omega arith, refl)

pub loop-v-preserved : goal.loop-v-preserved
unfolding sum_of
loop-v-preserved c = (omega arith, rw (add-one, ← c.loop-v.invariant.1))

pub returns : goal.returns
returns c = c.loop-v.invariant.1 ∙ ap (λ n. sum_of n (λ k. get_or c.args.x.now k nan)) (omega arith)
