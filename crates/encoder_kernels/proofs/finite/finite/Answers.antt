-- `encoder_kernels::finite::finite` meets its contract. Assumes nothing.
use mathlib.Core.Path.{refl, ap, ◌∙◌}
use native.Mathlib.Omega.{arith}
use native.Mathlib.Numerals.{add-one}
use lib.ListN.{get_or}
use lib.Seq.{take_all}
use lib.Ieee.{nan, div, neg, of_bits}
use Rattle.number_floats.proofs.Order.{finite-tests}
use Rattle.encoder_kernels.specs.Kernels.{all_finite}
use Rattle.encoder_kernels.proofs.Finites.{all-finite-take}
use Rattle.encoder_kernels.proofs.finite.finite.Goals as goal

pub loop-v-init : goal.loop-v-init
unfolding all_finite
loop-v-init c = (omega arith, refl)

pub loop-v-preserved : goal.loop-v-preserved
unfolding div neg of_bits
loop-v-preserved c =
    (omega arith, rw (add-one, all-finite-take c.args.x.now c.loop-v.v-index (omega arith), ← finite-tests (get_or c.args.x.now c.loop-v.v-index nan), ← c.loop-v.invariant.1) refl)

pub returns : goal.returns
returns c =
    c.loop-v.invariant.1 ∙ ap all_finite (take_all c.loop-v.v-index c.args.x.now (omega arith))
