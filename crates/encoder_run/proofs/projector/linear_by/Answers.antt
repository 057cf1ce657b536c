-- `encoder_run::projector::linear_by` meets its contract. Assumes nothing.
use mathlib.Core.Path.{ap}
use Prim.Native.Nat.{◌+◌, ◌*◌, ◌≤◌}
use native.Mathlib.Nat.{one-mul}
use native.Mathlib.Omega.{arith}
use borrow.Author.Tests.{eq-eqb, ne_eqb}
use lib.ListN.{length}
use Rattle.encoder_linear.specs.Linear.{linear_by}
use Rattle.encoder_steps.proofs.Writes.{linear-wrote, linear-bias-wrote}
use Rattle.encoder_run.proofs.projector.linear_by.Goals as goal

pub overflow_mul-nout : goal.overflow_mul-nout
overflow_mul-nout c = omega (arith, c.requires.nout_in_bounds)

pub overflow_add-at : goal.overflow_add-at
overflow_add-at c = omega (arith, c.requires.nout_in_bounds)

pub returns-then-bias-eq1 : goal.returns-then-bias-eq1
returns-then-bias-eq1 c =
    let o = c.if-bias-eq1.true in
    let h : c.args.at + c.args.nout * c.args.nin + c.args.nout ≤ length c.args.w.now = omega (arith, c.requires.nout_in_bounds, ap (λ k. k * c.args.nout) o, one-mul c.args.nout) in
    rw (eq-eqb c.args.bias 1 o) (linear-bias-wrote c.args.w.now c.args.x c.args.y c.args.n c.args.nin c.args.nout c.args.at (c.args.at + c.args.nout * c.args.nin) c.requires.linear_at h c.linear_bias_finite.ensures)

pub returns : goal.returns
unfolding linear_by
returns c = rw (ne_eqb c.args.bias 1 c.if-bias-eq1.false) (linear-wrote c.args.w.now c.args.x c.args.y c.args.n c.args.nin c.args.nout c.args.at c.requires.linear_at c.linear_finite.ensures)
