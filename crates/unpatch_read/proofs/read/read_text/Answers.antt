-- `read::read_text` meets its contract. Assumes nothing.
use borrow.Author.Tests.{le-leb, lt-leb}
use Prim.Native.Nat.{◌+◌, ◌<◌}
use native.Mathlib.Omega.{arith}
use mathlib.Core.Path.{◌≡◌, refl, sym, ap, ◌∙◌}
use Rattle.std.specs.Prelude.{None, Some}
use lib.ListN.{length, take, length-drop}
use lib.Seq.{length-take-le}
use Rattle.unpatch_form.specs.Form.{read_vision, pictured, form}
use Rattle.unpatch_form.proofs.Fields.{rest, first_alone, first-cut}
use Rattle.unpatch_read.proofs.Answers.{outside_of}
use Rattle.unpatch_read.proofs.read.read_text.Goals as goal

pub returns-then-text-gt49152 : goal.returns-then-text-gt49152
unfolding form
returns-then-text-gt49152 c = (rw (lt-leb _ _ c.if-text-gt49152.true) refl, omega arith)

pub returns-then-e-text : goal.returns-then-e-text
unfolding form
returns-then-e-text c =
    let text = c.args.text.now in
    (sym (rw (le-leb _ _ c.if-text-gt49152.false) (first_alone read_vision (λ s. pictured s) (λ s. refl) 10 text (sym c.find-e.ensures.0 ∙ c.if-e-text.true))), omega arith)

pub slice_bounds-vision-end : goal.slice_bounds-vision-end
slice_bounds-vision-end c = sym (length-take-le _ _ c.find-e.ensures.1)

pub returns-in_err-patch : goal.returns-in_err-patch
unfolding form
returns-in_err-patch c =
    let text = c.args.text.now in
    let h : c.find-e.result < length text = omega arith in
    let e : read_vision (take c.find-e.result text) ≡ None = sym c.vision.ensures ∙ c.in_err-patch.was in
    outside_of _ _ c.from_residual.ensures (rw (le-leb _ _ c.if-text-gt49152.false) (first-cut read_vision (λ s. pictured s) 10 text c.find-e.result c.find-e.ensures.0 h ∙ rw e refl))

pub read_picture-requires : goal.read_picture-requires
read_picture-requires c =
    let text = c.args.text.now in
    rw (rest text (c.find-e.result + 1), length-drop) (omega arith)

pub returns : goal.returns
unfolding form
returns c =
    let text = c.args.text.now in
    let h : c.find-e.result < length text = omega arith in
    let e : read_vision (take c.find-e.result text) ≡ Some _ = sym c.vision.ensures ∙ c.in_ok-patch.was in
    (rw rest at c.read_picture.ensures.0 ∙ sym (rw (le-leb _ _ c.if-text-gt49152.false) (first-cut read_vision (λ s. pictured s) 10 text c.find-e.result c.find-e.ensures.0 h ∙ rw e refl)), c.read_picture.ensures.1)
