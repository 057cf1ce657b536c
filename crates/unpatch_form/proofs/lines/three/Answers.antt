-- `lines::three` meets its contract. Assumes nothing.
use Prim.Native.Nat.{◌+◌, ◌<◌}
use native.Mathlib.Omega.{arith}
use mathlib.Core.Path.{◌≡◌, refl, sym, ap, ◌∙◌}
use Rattle.std.specs.Prelude.{None, Some}
use lib.ListN.{length, take, drop}
use lib.Seq.{length-take-le}
use Rattle.unpatch_form.specs.Form as Form
use Rattle.unpatch_form.specs.Form.{fields, small}
use Rattle.unpatch_form.proofs.Fields.{rest, three-alone, three-cut}
use Rattle.unpatch_form.proofs.lines.three.Goals as goal

pub returns-then-e-s : goal.returns-then-e-s
returns-then-e-s c = sym (three-alone c.args.s.now _ c.find-e.ensures.0 c.if-e-s.true)

pub slice_bounds-decimal-end : goal.slice_bounds-decimal-end
slice_bounds-decimal-end c = sym (length-take-le _ _ c.find-e.ensures.1)

pub returns-in_err-a : goal.returns-in_err-a
returns-in_err-a c =
    let s = c.args.s.now in
    let h : c.find-e.result < length s = omega arith in
    let a : small (take c.find-e.result s) ≡ None = sym c.decimal.ensures ∙ c.in_err-a.was in
    c.from_residual.ensures ∙ sym (three-cut s _ c.find-e.ensures.0 h ∙ rw a refl)

pub returns-in_err-b : goal.returns-in_err-b
returns-in_err-b c =
    let s = c.args.s.now in
    let h : c.find-e.result < length s = omega arith in
    let a : small (take c.find-e.result s) ≡ Some _ = sym c.decimal.ensures ∙ c.in_ok-a.was in
    let b : Form.two (fields (drop (c.find-e.result + 1) s)) ≡ None = rw rest at (sym c.two.ensures ∙ c.in_err-b.was) in
    c.from_residual-in_err-b.ensures ∙ sym (three-cut s _ c.find-e.ensures.0 h ∙ rw (a, b) refl)

pub returns : goal.returns
returns c =
    let s = c.args.s.now in
    let h : c.find-e.result < length s = omega arith in
    let a : small (take c.find-e.result s) ≡ Some _ = sym c.decimal.ensures ∙ c.in_ok-a.was in
    let b : Form.two (fields (drop (c.find-e.result + 1) s)) ≡ Some _ = rw rest at (sym c.two.ensures ∙ c.in_ok-b.was) in
    sym (three-cut s _ c.find-e.ensures.0 h ∙ rw (a, b) refl)
