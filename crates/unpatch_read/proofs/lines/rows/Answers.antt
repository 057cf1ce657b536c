-- `lines::rows` meets its contract: the bytes of the rows read so far, and those of the lines that are left, are the whole. Assumes nothing.
use Prim.Native.Nat.{ℕ, ◌+◌, ◌-◌, ◌<◌}
use native.Mathlib.Nat.{add-sub_cancel_left}
use native.Mathlib.Omega.{arith}
use mathlib.Core.Path.{◌≡◌, refl, sym, ap, ◌∙◌}
use mathlib.Core.List.{append-nil}
use Rattle.std.specs.Prelude.{None, Some}
use lib.ListN.{length, take, drop, length-drop, drop_of_length-le}
use lib.Seq.{length-take-le}
use Rattle.buffers.specs.Region.{region}
use Rattle.unpatch_form.specs.Form.{read_row}
use Rattle.unpatch_form.specs.inner.Steps.{value_of}
use Rattle.unpatch_read.specs.inner.Steps.{bytes_at}
use Rattle.unpatch_form.proofs.Pieces.{joined-nil}
use Rattle.unpatch_form.proofs.Fields.{rest}
use Rattle.unpatch_read.proofs.Answers.{nothing_of}
use Rattle.unpatch_read.proofs.Rows.{rows-open, rows-bad, rows-turn, rows_end}
use Rattle.unpatch_read.proofs.lines.rows.Goals as goal

pub loop-from-init : goal.loop-from-init
loop-from-init c = (omega arith, omega arith, omega arith, refl, sym (joined-nil _))

pub overflow_add-to : goal.overflow_add-to
overflow_add-to c =
    let text = c.args.text.now in
    let f = rw rest at c.find.ensures in
    let d = length-drop c.loop-from.from text in
    omega (arith, f.1)

pub shape_of-rgb-then-to-text : goal.shape_of-rgb-then-to-text
shape_of-rgb-then-to-text c = omega arith

pub returns-then-to-text : goal.returns-then-to-text
returns-then-to-text c =
    let text = c.args.text.now in
    let f = rw rest at c.find.ensures in
    let d = length-drop c.loop-from.from text in
    let h : 0 < length (drop c.loop-from.from text) = omega (arith, c.loop-from-test.true) in
    record { answer = sym (c.loop-from.invariant.4 ∙ rw (rows-open c.loop-from.i (drop c.loop-from.from text) h (omega (arith, f.0, c.if-to-text.true))) refl); front = refl; few = omega arith }

pub slice_bounds-row-count : goal.slice_bounds-row-count
slice_bounds-row-count c = omega arith

pub row-requires : goal.row-requires
row-requires c =
    let text = c.args.text.now in
    let f = rw rest at c.find.ensures in
    let d = length-drop c.loop-from.from text in
    let u = c.find.result in
    let e : length (take (c.loop-from.from + u - c.loop-from.from) (drop c.loop-from.from text)) ≡ u = ap (λ (k : ℕ). length (take k (drop c.loop-from.from text))) (add-sub_cancel_left c.loop-from.from u) ∙ length-take-le u (drop c.loop-from.from text) f.1 in
    (rw e (omega (arith, f.1)), omega arith)

pub shape_of-rgb-in_err-k : goal.shape_of-rgb-in_err-k
shape_of-rgb-in_err-k c = omega arith

pub returns-in_err-k : goal.returns-in_err-k
returns-in_err-k c =
    let text = c.args.text.now in
    let f = rw rest at c.find.ensures in
    let d = length-drop c.loop-from.from text in
    let u = c.find.result in
    let w = rw (add-sub_cancel_left c.loop-from.from u) at c.row.ensures in
    let e : read_row c.loop-from.i (take u (drop c.loop-from.from text)) ≡ None = sym w.answer ∙ ap (λ r. bytes_at r c.loop-from.n c.row.new.rgb) c.in_err-k.was in
    nothing_of _ c.from_residual.ensures (c.loop-from.invariant.4 ∙ rw (rows-bad text c.loop-from.from c.loop-from.i u f.0 (omega (arith, f.1)) e) refl) refl

pub overflow_add-n : goal.overflow_add-n
overflow_add-n c =
    let text = c.args.text.now in
    let f = rw rest at c.find.ensures in
    let d = length-drop c.loop-from.from text in
    let u = c.find.result in
    let w = rw (add-sub_cancel_left c.loop-from.from u) at c.row.ensures in
    let t = length-take-le u (drop c.loop-from.from text) f.1 in
    let q = ap value_of c.in_ok-k.was in
    omega (arith, f.1, w.few)

pub overflow_add-i : goal.overflow_add-i
overflow_add-i c = omega arith

pub overflow_add-from : goal.overflow_add-from
overflow_add-from c =
    let text = c.args.text.now in
    let f = rw rest at c.find.ensures in
    let d = length-drop c.loop-from.from text in
    let u = c.find.result in
    let w = rw (add-sub_cancel_left c.loop-from.from u) at c.row.ensures in
    let t = length-take-le u (drop c.loop-from.from text) f.1 in
    let q = ap value_of c.in_ok-k.was in
    omega (arith, f.1)

pub loop-from-smaller : goal.loop-from-smaller
loop-from-smaller c =
    let text = c.args.text.now in
    let f = rw rest at c.find.ensures in
    let d = length-drop c.loop-from.from text in
    let u = c.find.result in
    let w = rw (add-sub_cancel_left c.loop-from.from u) at c.row.ensures in
    let t = length-take-le u (drop c.loop-from.from text) f.1 in
    let q = ap value_of c.in_ok-k.was in
    omega (arith, f.1)

pub loop-from-preserved : goal.loop-from-preserved
loop-from-preserved c =
    let text = c.args.text.now in
    let f = rw rest at c.find.ensures in
    let d = length-drop c.loop-from.from text in
    let u = c.find.result in
    let new = c.row.new.rgb in
    let w = rw (add-sub_cancel_left c.loop-from.from u) at c.row.ensures in
    let t = length-take-le u (drop c.loop-from.from text) f.1 in
    let q = ap value_of c.in_ok-k.was in
    let k = c.in_ok-k.k in
    let e : read_row c.loop-from.i (take u (drop c.loop-from.from text)) ≡ Some (region new c.loop-from.n k) = sym w.answer ∙ ap (λ r. bytes_at r c.loop-from.n new) c.in_ok-k.was in
    (omega (arith, f.1), omega (arith, f.1, w.few), omega arith, c.row.auto.rgb ∙ c.loop-from.invariant.3, c.loop-from.invariant.4 ∙ rows-turn text c.loop-from.rgb new c.loop-from.from c.loop-from.i c.loop-from.n u k f.0 (omega (arith, f.1)) e w.front)

pub shape_of-rgb : goal.shape_of-rgb
shape_of-rgb c = omega arith

pub returns : goal.returns
returns c =
    let text = c.args.text.now in
    record { answer = sym (c.loop-from.invariant.4 ∙ rw (drop_of_length-le text {i = c.loop-from.from} (omega arith), rows_end, append-nil) refl); front = refl; few = omega arith }
