-- `encoder_softmax::softmax::row_max` meets its contract. Assumes nothing.
use mathlib.Core.Path.{refl, ap, ◌∙◌}
use native.Mathlib.Omega.{arith}
use native.Mathlib.Numerals.{add-one}
use lib.ListN.{get_or}
use lib.Ieee.{nan, div, neg, of_bits}
use Rattle.encoder_softmax.specs.Softmax.{largest}
use Rattle.encoder_softmax.proofs.softmax.row_max.Goals as goal

pub loop-v-init : goal.loop-v-init
unfolding largest div neg of_bits
loop-v-init c = (omega arith, refl)

pub loop-v-preserved : goal.loop-v-preserved
unfolding largest
loop-v-preserved c = (omega arith, rw add-one (cc))

pub returns : goal.returns
returns c = c.loop-v.invariant.1 ∙ ap (λ n. largest n (λ k. get_or c.args.x.now k nan)) (omega arith)
