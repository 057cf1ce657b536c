-- `encoder_steps::linear_bias_finite` meets its contract. Assumes nothing.
use mathlib.Core.Bool.{◌&&◌}
use mathlib.Core.Path.{◌≡◌, refl, sym, ap, ◌∙◌}
use Prim.Native.Nat.{◌+◌, ◌*◌}
use native.Mathlib.Omega.{arith}
use borrow.Author.Tests.{leb-true}
use lib.ListN.{length}
use Rattle.buffers.specs.inner.Room.{inside}
use Rattle.buffers.proofs.Regions.{length-region}
use Rattle.buffers.proofs.Rooms.{and_parts}
use Rattle.encoder_linear.proofs.Rooms.{bias-same}
use Rattle.encoder_steps.specs.inner.Step.{bias_at_fits}
use Rattle.encoder_steps.proofs.linear_bias_finite.Goals as goal

pub overflow_mul-nout : goal.overflow_mul-nout
overflow_mul-nout c =
    let p = and_parts c.rows_inside.result c.inside.result c.if-rows_inside-inside.true in
    omega (arith, leb-true (c.args.at + c.args.nout * c.args.nin) (length c.args.w.now) (sym c.rows_inside.ensures ∙ p.0))

pub shape_of-s-then-rows_inside-inside : goal.shape_of-s-then-rows_inside-inside
shape_of-s-then-rows_inside-inside c = c.linear_forward.auto.s

pub returns-then-rows_inside-inside : goal.returns-then-rows_inside-inside
unfolding bias_at_fits
returns-then-rows_inside-inside c =
    let b = c.part in
    let q = and_parts c.rows_inside.result c.inside.result c.if-rows_inside-inside.true in
    let t = sym c.rows_inside.ensures ∙ q.0 in
    let u = sym c.inside.ensures ∙ q.1 in
    let k : length c.part-m.result.now ≡ c.args.nout * c.args.nin = ap length c.part-m.ensures ∙ length-region c.args.w.now c.args.at (c.args.nout * c.args.nin) (leb-true (c.args.at + c.args.nout * c.args.nin) (length c.args.w.now) t) in
    let l : length c.part.result.now ≡ c.args.nout = ap length c.part.ensures ∙ length-region c.args.w.now c.args.b c.args.nout (leb-true (c.args.b + c.args.nout) (length c.args.w.now) u) in
    record {
      all = rw (t, u) (rw (k, l, bias-same (length c.args.s.now) (c.args.nout * c.args.nin) c.args.x c.args.y c.args.n c.args.nin c.args.nout, c.part-m.ensures, c.part.ensures) at c.linear_forward.ensures);
      finite-is = ap (λ b. c.args.ok && b) c.finite_rows.ensures;
    }

pub returns : goal.returns
unfolding bias_at_fits
returns c =
    let f = ap (λ b. b && inside (length c.args.w.now) c.args.b c.args.nout) (sym c.rows_inside.ensures) ∙ ap (λ b. c.rows_inside.result && b) (sym c.inside.ensures) ∙ c.if-rows_inside-inside.false in
    record { all = rw f refl; finite-is = ap (λ b. c.args.ok && b) c.finite_rows-2.ensures }
