-- `encoder_steps::finite_heads` meets its contract. Assumes nothing.
use mathlib.Core.Bool.{◌&&◌}
use mathlib.Core.Logic.{inl, inr}
use mathlib.Core.Path.{◌≡◌, sym, ap, ◌∙◌}
use Prim.Native.Nat.{ℕ, ◌+◌, ◌*◌, ◌<◌}
use native.Mathlib.Omega.{arith}
use borrow.Author.Tests.{leb-true, leb-false}
use lib.Dec.{eqb}
use lib.ListN.{length}
use Rattle.encoder_steps.specs.inner.Step.{finite_at}
use Rattle.encoder_steps.proofs.Writes.{no_row}
use Rattle.encoder_steps.proofs.finite_heads.Goals as goal

twice : (a b : ℕ) → 2 * (a * b) ≡ a * (b + b)
twice a b = omega arith

pub overflow_mul-d : goal.overflow_mul-d
overflow_mul-d c =
    omega (arith, leb-true (c.args.y + c.args.heads * c.args.half) (length c.args.s.now) (sym c.rows_inside.ensures ∙ c.if-rows_inside.true))

pub overflow_mul-d-then-rows_inside-2 : goal.overflow_mul-d-then-rows_inside-2
overflow_mul-d-then-rows_inside-2 c =
    omega (arith, leb-true (c.args.y + 2 * (c.args.heads * c.args.half)) (length c.args.s.now) (sym c.rows_inside-then-rows_inside.ensures ∙ c.if-rows_inside-2.true))

pub returns-then-rows_inside-2 : goal.returns-then-rows_inside-2
returns-then-rows_inside-2 c =
    c.finite_rows.ensures ∙ ap (λ (d : ℕ). finite_at c.args.s.now c.args.y (c.args.n * d)) (twice c.args.heads c.args.half)

pub returns : goal.returns
returns c =
    let past : let a = c.args in length c.args.s.now < c.args.y + c.args.heads * (c.args.half + c.args.half) = let a = c.args in
    let e = twice c.args.heads c.args.half in
    elim c.if-rows_inside.branch-raw [
      | inl p ↦ let h = leb-false (c.args.y + 2 * (c.args.heads * c.args.half)) (length c.args.s.now) (sym p.rows_inside-then-rows_inside.ensures ∙ p.if-rows_inside-2.false) in omega arith
      | inr p ↦ let h = leb-false (c.args.y + c.args.heads * c.args.half) (length c.args.s.now) (sym c.rows_inside.ensures ∙ p.if-rows_inside.false) in omega arith
    ] in
    let a = c.args in
    ap (λ b. eqb c.args.n 0 && b) c.finite_at.ensures ∙ no_row c.args.s.now c.args.y c.args.n (c.args.heads * (c.args.half + c.args.half)) (past)
