-- `encoder_steps::linear_finite` meets its contract. Assumes nothing.
use mathlib.Core.Bool.{◌&&◌}
use mathlib.Core.Path.{◌≡◌, refl, sym, ap, ◌∙◌}
use Prim.Native.Nat.{◌+◌, ◌*◌}
use native.Mathlib.Omega.{arith}
use borrow.Author.Tests.{leb-true}
use lib.ListN.{length}
use Rattle.buffers.proofs.Regions.{length-region}
use Rattle.encoder_steps.specs.inner.Step.{linear_at_fits}
use Rattle.encoder_steps.proofs.linear_finite.Goals as goal

pub overflow_mul-nout : goal.overflow_mul-nout
overflow_mul-nout c =
    omega (arith, leb-true (c.args.at + c.args.nout * c.args.nin) (length c.args.w.now) (sym c.rows_inside.ensures ∙ c.if-rows_inside.true))

pub shape_of-s-then-rows_inside : goal.shape_of-s-then-rows_inside
shape_of-s-then-rows_inside c = c.linear_no_bias_forward.auto.s

pub returns-then-rows_inside : goal.returns-then-rows_inside
unfolding linear_at_fits
returns-then-rows_inside c =
    let t = sym c.rows_inside.ensures ∙ c.if-rows_inside.true in
    let k : length c.part.result.now ≡ c.args.nout * c.args.nin =
    ap length c.part.ensures ∙ length-region c.args.w.now c.args.at (c.args.nout * c.args.nin) (leb-true (c.args.at + c.args.nout * c.args.nin) (length c.args.w.now) t) in
    record { all = rw t (rw (k, c.part.ensures) at c.linear_no_bias_forward.ensures); finite-is = ap (λ b. c.args.ok && b) c.finite_rows.ensures }

pub returns : goal.returns
unfolding linear_at_fits
returns c =
    let f = sym c.rows_inside.ensures ∙ c.if-rows_inside.false in
    record { all = rw f refl; finite-is = ap (λ b. c.args.ok && b) c.finite_rows-2.ensures }
