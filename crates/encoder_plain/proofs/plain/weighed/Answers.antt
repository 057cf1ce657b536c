-- `encoder_plain::plain::weighed` meets its contract. Assumes nothing.
use mathlib.Core.Path.{refl, ap, ◌∙◌}
use Prim.Native.Nat.{◌+◌, ◌*◌}
use native.Mathlib.Omega.{arith}
use native.Mathlib.Numerals.{add-one}
use lib.ListN.{get_or}
use lib.Ieee.{nan, binary32, mul}
use Rattle.encoder_linear.specs.Linear.{sum_of}
use Rattle.encoder_plain.proofs.plain.weighed.Goals as goal

pub loop-vi-init : goal.loop-vi-init
unfolding sum_of
loop-vi-init c = (omega arith, refl)

pub loop-vi-preserved : goal.loop-vi-preserved
unfolding sum_of
loop-vi-preserved c = (omega arith, rw (add-one, ← c.loop-vi.invariant.1))

pub returns : goal.returns
returns c = c.loop-vi.invariant.1 ∙ ap (λ n. sum_of n (λ j. mul binary32 (get_or c.args.s.now (c.args.p + j) nan) (get_or c.args.s.now (c.args.v + (j * c.args.dim + c.args.e)) nan))) (omega arith)
