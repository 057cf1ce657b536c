-- `encoder_steps::finite_rows` meets its contract. Assumes nothing.
use mathlib.Core.Path.{sym, ap, ◌∙◌}
use Prim.Native.Nat.{◌+◌, ◌*◌}
use native.Mathlib.Omega.{arith}
use borrow.Author.Tests.{leb-true}
use lib.ListN.{length}
use Rattle.encoder_kernels.specs.Kernels.{all_finite}
use Rattle.encoder_steps.specs.inner.Step.{finite_at}
use Rattle.encoder_steps.proofs.finite_rows.Goals as goal

pub overflow_mul-n : goal.overflow_mul-n
overflow_mul-n c =
    omega (arith, leb-true (c.args.y + c.args.n * c.args.d) (length c.args.s.now) (sym c.rows_inside.ensures ∙ c.if-rows_inside.true))

pub returns-then-rows_inside : goal.returns-then-rows_inside
unfolding finite_at
returns-then-rows_inside c = rw (← c.rows_inside.ensures, c.if-rows_inside.true) (c.finite.ensures ∙ ap all_finite c.part.ensures)

pub returns : goal.returns
unfolding finite_at
returns c = rw (← c.rows_inside.ensures, c.if-rows_inside.false)
