-- `lines::vision` meets its contract. Assumes nothing.
use borrow.Author.Tests.{le-leb, lt-leb}
use native.Mathlib.Omega.{arith}
use mathlib.Core.Path.{◌≡◌, refl, sym, ap, ◌∙◌}
use Rattle.std.specs.Prelude.{None, Some}
use lib.ListN.{drop}
use Rattle.unpatch_form.specs.Words.{word, behind}
use Rattle.unpatch_form.specs.Form as Form
use Rattle.unpatch_form.specs.Form.{fields}
use Rattle.unpatch_form.specs.inner.Steps.{value_of, fields_from}
use Rattle.unpatch_form.proofs.Fields.{rest}
use Rattle.unpatch_form.proofs.Limits.{three-small, product_small}
use Rattle.unpatch_form.proofs.lines.vision.Goals as goal

pub returns-in_err-at : goal.returns-in_err-at
unfolding Form.read_vision
returns-in_err-at c =
    let l = c.args.line.now in
    let b : behind (word "vision") (fields l) ≡ None = sym c.behind.ensures.0 ∙ ap (λ r. fields_from r l) c.in_err-at.was in
    rw b c.from_residual.ensures

pub slice_bounds-three-count : goal.slice_bounds-three-count
slice_bounds-three-count c =
    let h = ap value_of c.in_ok-at.was in
    omega (arith, h, c.behind.ensures.1)

pub returns-in_err-p : goal.returns-in_err-p
unfolding Form.read_vision
returns-in_err-p c =
    let l = c.args.line.now in
    let at = c.in_ok-at.at in
    let b : behind (word "vision") (fields l) ≡ Some (fields (drop at l)) = sym c.behind.ensures.0 ∙ ap (λ r. fields_from r l) c.in_ok-at.was in
    let t : Form.three (fields (drop at l)) ≡ None = rw rest at (sym c.three.ensures ∙ c.in_err-p.was) in
    rw (b, t) c.from_residual-in_err-p.ensures

pub overflow_mul-p : goal.overflow_mul-p
overflow_mul-p c =
    let l = c.args.line.now in
    let at = c.in_ok-at.at in
    let t : Form.three (fields (drop at l)) ≡ Some _ = rw rest at (sym c.three.ensures ∙ c.in_ok-p.was) in
    let s = three-small (fields (drop at l)) _ t in
    omega (arith, product_small _ _ s.0 s.1)

pub returns-then-p-m-gt64 : goal.returns-then-p-m-gt64
unfolding Form.read_vision
returns-then-p-m-gt64 c =
    let l = c.args.line.now in
    let at = c.in_ok-at.at in
    let b : behind (word "vision") (fields l) ≡ Some (fields (drop at l)) = sym c.behind.ensures.0 ∙ ap (λ r. fields_from r l) c.in_ok-at.was in
    let t : Form.three (fields (drop at l)) ≡ Some _ = rw rest at (sym c.three.ensures ∙ c.in_ok-p.was) in
    rw (b, t, lt-leb _ _ c.if-p-m-gt64.true) refl

pub returns : goal.returns
unfolding Form.read_vision
returns c =
    let l = c.args.line.now in
    let at = c.in_ok-at.at in
    let b : behind (word "vision") (fields l) ≡ Some (fields (drop at l)) = sym c.behind.ensures.0 ∙ ap (λ r. fields_from r l) c.in_ok-at.was in
    let t : Form.three (fields (drop at l)) ≡ Some _ = rw rest at (sym c.three.ensures ∙ c.in_ok-p.was) in
    rw (b, t, le-leb _ _ c.if-p-m-gt64.false) refl
