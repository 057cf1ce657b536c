-- `lines::behind` meets its contract. Assumes nothing.
use Prim.Native.Nat.{◌<◌}
use native.Mathlib.Numerals.{add-one}
use native.Mathlib.Omega.{arith}
use borrow.Author.Tests.{not-true, not-false}
use mathlib.Core.Path.{◌≡◌, refl, sym, ◌∙◌}
use mathlib.Core.Bool.{true, false}
use lib.ListN.{length, take}
use lib.Seq.{length-take-le}
use Rattle.unpatch_form.specs.Words.{same}
use Rattle.unpatch_form.specs.inner.Steps.{until}
use Rattle.unpatch_form.proofs.Fields.{behind-cut, behind-alone}
use Rattle.unpatch_form.proofs.lines.behind.Goals as goal

pub returns-then-e-line : goal.returns-then-e-line
returns-then-e-line c =
    let l = c.args.line.now in
    (sym (behind-alone _ l (omega arith)), omega arith)

pub slice_bounds-is_word-end : goal.slice_bounds-is_word-end
slice_bounds-is_word-end c = sym (length-take-le _ _ c.find-e.ensures.1)

pub returns-then-not-is_word : goal.returns-then-not-is_word
returns-then-not-is_word c =
    let l = c.args.line.now in
    let h : until 9 l < length l = omega arith in
    let t : same (take (until 9 l) l) _ ≡ false = rw c.find-e.ensures.0 at (sym c.is_word.ensures ∙ not-true _ c.if-not-is_word.true-raw) in
    (sym (behind-cut _ l h ∙ rw t refl), omega arith)

pub returns : goal.returns
returns c =
    let l = c.args.line.now in
    let h : until 9 l < length l = omega arith in
    let t : same (take (until 9 l) l) _ ≡ true = rw c.find-e.ensures.0 at (sym c.is_word.ensures ∙ not-false _ c.if-not-is_word.false-raw) in
    (sym (behind-cut _ l h ∙ rw (t, c.find-e.ensures.0, add-one) refl), omega arith)
