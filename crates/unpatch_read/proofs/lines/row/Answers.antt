-- `lines::row` meets its contract. Assumes nothing.
use native.Mathlib.Omega.{arith}
use mathlib.Core.Path.{◌≡◌, refl, sym, ap, ◌∙◌}
use Rattle.std.specs.Prelude.{None, Some}
use lib.ListN.{drop, length-drop}
use Rattle.unpatch_form.specs.Words.{word, behind}
use Rattle.unpatch_form.specs.Form as Form
use Rattle.unpatch_form.specs.Form.{fields}
use Rattle.unpatch_form.specs.inner.Steps.{value_of, fields_from}
use Rattle.unpatch_read.proofs.Answers.{nothing_of, written_of}
use Rattle.unpatch_form.proofs.Fields.{rest}
use Rattle.unpatch_read.proofs.lines.row.Goals as goal

pub returns-in_err-k : goal.returns-in_err-k
unfolding Form.read_row
returns-in_err-k c =
    let l = c.args.line.now in
    let b : behind (word "row") (fields l) ≡ None = sym c.behind.ensures.0 ∙ ap (λ r. fields_from r l) c.in_err-k.was in
    nothing_of _ c.from_residual.ensures (rw b refl) refl

pub slice_bounds-row_fields-count : goal.slice_bounds-row_fields-count
slice_bounds-row_fields-count c =
    let h = ap value_of c.in_ok-k.was in
    omega (arith, h, c.behind.ensures.1)

pub row_fields-requires : goal.row_fields-requires
row_fields-requires c =
    let l = c.args.line.now in
    rw (rest l c.in_ok-k.k, length-drop) (omega arith)

pub returns : goal.returns
unfolding Form.read_row
returns c =
    let l = c.args.line.now in
    let k = c.in_ok-k.k in
    let b : behind (word "row") (fields l) ≡ Some (fields (drop k l)) = sym c.behind.ensures.0 ∙ ap (λ r. fields_from r l) c.in_ok-k.was in
    let w = rw (rest l k) at c.row_fields.ensures in
    written_of (rw b refl) (rw length-drop (omega arith)) w
