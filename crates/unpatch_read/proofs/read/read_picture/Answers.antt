-- `read::read_picture` meets its contract. Assumes nothing.
use Prim.Native.Nat.{◌+◌, ◌<◌}
use native.Mathlib.Omega.{arith}
use mathlib.Core.Path.{◌≡◌, refl, sym, ap, ◌∙◌}
use Rattle.std.specs.Prelude.{None, Some}
use lib.ListN.{length, take, drop, length-drop}
use lib.Seq.{length-take-le}
use Rattle.buffers.specs.Region.{region}
use Rattle.unpatch_form.specs.Words.{◌>>=◌}
use Rattle.unpatch_form.specs.Form.{lines, read_picture, read_rows, request_of}
use Rattle.unpatch_form.specs.inner.Steps.{value_of}
use Rattle.unpatch_read.specs.inner.Steps.{bytes_at}
use Rattle.unpatch_form.proofs.Fields.{rest, first_alone, first-cut}
use Rattle.unpatch_read.proofs.Answers.{outside_of}
use Rattle.unpatch_read.proofs.Rows.{rows_none}
use Rattle.unpatch_read.proofs.read.read_picture.Goals as goal

pub returns-then-e-text : goal.returns-then-e-text
returns-then-e-text c =
    (sym (first_alone read_picture (λ p ls. read_rows 0 ls >>= request_of (c.args.patch, c.args.merge, c.args.image) p) (λ p. rw (rows_none 0) refl) 10 c.args.text.now (sym c.find-e.ensures.0 ∙ c.if-e-text.true)), omega arith)

pub slice_bounds-picture-end : goal.slice_bounds-picture-end
slice_bounds-picture-end c = sym (length-take-le _ _ c.find-e.ensures.1)

pub returns-in_err-height : goal.returns-in_err-height
returns-in_err-height c =
    let text = c.args.text.now in
    let h : c.find-e.result < length text = omega arith in
    let e : read_picture (take c.find-e.result text) ≡ None = sym c.picture.ensures ∙ c.in_err-height.was in
    outside_of _ _ c.from_residual.ensures (first-cut read_picture (λ p ls. read_rows 0 ls >>= request_of (c.args.patch, c.args.merge, c.args.image) p) 10 text c.find-e.result c.find-e.ensures.0 h ∙ rw e refl)

pub rows-requires : goal.rows-requires
rows-requires c =
    rw (rest c.args.text.now (c.find-e.result + 1), length-drop) (omega arith)

pub shape_of-rgb-in_err-bytes : goal.shape_of-rgb-in_err-bytes
shape_of-rgb-in_err-bytes c = omega arith

pub returns-in_err-bytes : goal.returns-in_err-bytes
returns-in_err-bytes c =
    let text = c.args.text.now in
    let h : c.find-e.result < length text = omega arith in
    let e : read_picture (take c.find-e.result text) ≡ Some _ = sym c.picture.ensures ∙ c.in_ok-height.was in
    let w = rw (rest text (c.find-e.result + 1)) at c.rows.ensures in
    let r : read_rows 0 (lines (drop (c.find-e.result + 1) text)) ≡ None = sym w.answer ∙ ap (λ r. bytes_at r 0 c.rows.new.rgb) c.in_err-bytes.was in
    outside_of _ _ c.from_residual-in_err-bytes.ensures (first-cut read_picture (λ p ls. read_rows 0 ls >>= request_of (c.args.patch, c.args.merge, c.args.image) p) 10 text c.find-e.result c.find-e.ensures.0 h ∙ rw (e, r) refl)

pub shape_of-rgb : goal.shape_of-rgb
shape_of-rgb c = omega arith

pub returns : goal.returns
returns c =
    let text = c.args.text.now in
    let h : c.find-e.result < length text = omega arith in
    let k = c.in_ok-bytes.bytes in
    let new = c.rows.new.rgb in
    let e : read_picture (take c.find-e.result text) ≡ Some _ = sym c.picture.ensures ∙ c.in_ok-height.was in
    let w = rw (rest text (c.find-e.result + 1)) at c.rows.ensures in
    let r : read_rows 0 (lines (drop (c.find-e.result + 1) text)) ≡ Some (region new 0 k) = sym w.answer ∙ ap (λ r. bytes_at r 0 new) c.in_ok-bytes.was in
    let q = ap value_of c.in_ok-bytes.was in
    (sym (first-cut read_picture (λ p ls. read_rows 0 ls >>= request_of (c.args.patch, c.args.merge, c.args.image) p) 10 text c.find-e.result c.find-e.ensures.0 h ∙ rw (e, r) refl), omega (arith, w.few, length-drop (c.find-e.result + 1) text, c.rows.auto.rgb))
