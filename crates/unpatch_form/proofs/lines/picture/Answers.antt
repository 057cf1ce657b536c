-- `lines::picture` meets its contract. Assumes nothing.
use native.Mathlib.Omega.{arith}
use mathlib.Core.Path.{◌≡◌, refl, sym, ap, ◌∙◌}
use Rattle.std.specs.Prelude.{None, Some}
use Rattle.unpatch_form.specs.Words.{word, behind}
use Rattle.unpatch_form.specs.Form as Form
use Rattle.unpatch_form.specs.Form.{fields}
use Rattle.unpatch_form.specs.inner.Steps.{value_of, fields_from}
use Rattle.unpatch_form.proofs.Fields.{rest}
use Rattle.unpatch_form.proofs.lines.picture.Goals as goal

pub returns-in_err-at : goal.returns-in_err-at
unfolding Form.read_picture
returns-in_err-at c =
    let l = c.args.line.now in
    let b : behind (word "picture") (fields l) ≡ None = sym c.behind.ensures.0 ∙ ap (λ r. fields_from r l) c.in_err-at.was in
    rw b c.from_residual.ensures

pub slice_bounds-two-count : goal.slice_bounds-two-count
slice_bounds-two-count c =
    let h = ap value_of c.in_ok-at.was in
    omega (arith, h, c.behind.ensures.1)

pub returns : goal.returns
unfolding Form.read_picture
returns c =
    let l = c.args.line.now in
    let b : behind (word "picture") (fields l) ≡ Some _ = sym c.behind.ensures.0 ∙ ap (λ r. fields_from r l) c.in_ok-at.was in
    rw b (rw rest at c.two.ensures)
