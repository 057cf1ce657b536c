-- `encoder_kernels::norm::dot` meets its contract. Assumes nothing.
use mathlib.Core.Path.{refl, ap, ◌∙◌}
use native.Mathlib.Omega.{arith}
use native.Mathlib.Numerals.{add-one}
use borrow.Author.Rules.{rules}
use lib.ListN.{get_or}
use lib.Ieee.{nan, binary32, mul}
use Rattle.encoder_linear.specs.Linear.{sum_of}
use Rattle.encoder_kernels.proofs.norm.dot.Goals as goal

pub loop-k-init : goal.loop-k-init
unfolding sum_of
loop-k-init c = (search rules, refl)

pub loop-k-preserved : goal.loop-k-preserved
unfolding sum_of
loop-k-preserved c = (omega arith, rw (add-one, ← c.loop-k.invariant.1))

pub returns : goal.returns
returns c = c.loop-k.invariant.1 ∙ ap (λ n. sum_of n (λ i. mul binary32 (get_or c.args.x.now i nan) (get_or c.args.w.now i nan))) (omega arith)
