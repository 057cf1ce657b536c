-- `lines::row_fields` meets its contract. Assumes nothing.
use borrow.Author.Tests.{eq-eqb, ne_eqb}
use Prim.Native.Nat.{ℕ, ◌+◌, ◌<◌}
use native.Mathlib.Omega.{arith}
use mathlib.Core.Path.{◌≡◌, refl, sym, ap, ◌∙◌}
use mathlib.Core.List.{List}
use Rattle.std.specs.Prelude.{Option, None, Some}
use lib.ListN.{length, take, drop, length-drop}
use lib.Seq.{length-take-le}
use Rattle.unpatch_form.specs.Words.{◌>>=◌}
use Rattle.unpatch_form.specs.Decimal.{decimal}
use Rattle.unpatch_form.specs.Hex.{hex_bytes}
use Rattle.unpatch_read.proofs.Answers.{nothing_of, written_of}
use Rattle.unpatch_form.proofs.Fields.{rest, row-alone, row_cut, limit-none, limit-some}
use Rattle.unpatch_read.proofs.lines.row_fields.Goals as goal

-- no bytes, whichever they are
neither : (o : Option (List ℕ)) → ◌>>=◌ {B = List ℕ} o (λ bs. None) ≡ None
neither None = refl
neither (Some l) = refl

-- the index is right
right : (o : Option (List ℕ)) → (o >>= λ bs. Some bs) ≡ o
right None = refl
right (Some l) = refl

pub returns-then-e-s : goal.returns-then-e-s
returns-then-e-s c =
    record { answer = sym (row-alone c.args.s.now _ c.find-e.ensures.0 c.args.i c.if-e-s.true); front = refl; few = omega arith }

pub slice_bounds-decimal-end : goal.slice_bounds-decimal-end
slice_bounds-decimal-end c = sym (length-take-le _ _ c.find-e.ensures.1)

pub returns-in_err-k : goal.returns-in_err-k
returns-in_err-k c =
    let s = c.args.s.now in
    let h : c.find-e.result < length s = omega arith in
    let e = sym c.decimal.ensures ∙ c.in_err-k.was in
    nothing_of _ c.from_residual.ensures (row_cut s _ c.find-e.ensures.0 c.args.i h ∙ limit-none c.args.i (decimal (take c.find-e.result s)) e (hex_bytes (drop (c.find-e.result + 1) s))) refl

pub returns-then-k-i : goal.returns-then-k-i
returns-then-k-i c =
    let s = c.args.s.now in
    let h : c.find-e.result < length s = omega arith in
    let e = limit-some c.args.i _ (decimal (take c.find-e.result s)) (sym c.decimal.ensures ∙ c.in_ok-k.was) in
    record { answer = sym (row_cut s _ c.find-e.ensures.0 c.args.i h ∙ rw (e.0, ne_eqb _ _ c.if-k-i.true) (neither (hex_bytes (drop (c.find-e.result + 1) s)))); front = refl; few = omega arith }

pub slice_bounds-hex_bytes-count : goal.slice_bounds-hex_bytes-count
slice_bounds-hex_bytes-count c = omega arith

pub hex_bytes-requires : goal.hex_bytes-requires
hex_bytes-requires c =
    rw (rest c.args.s.now (c.find-e.result + 1), length-drop) (omega arith)

pub returns : goal.returns
returns c =
    let s = c.args.s.now in
    let h : c.find-e.result < length s = omega arith in
    let e = limit-some c.args.i _ (decimal (take c.find-e.result s)) (sym c.decimal.ensures ∙ c.in_ok-k.was) in
    let w = rw (rest s (c.find-e.result + 1)) at c.hex_bytes.ensures in
    written_of (sym (row_cut s _ c.find-e.ensures.0 c.args.i h ∙ rw (e.0, eq-eqb _ _ c.if-k-i.false) (right (hex_bytes (drop (c.find-e.result + 1) s))))) (rw length-drop (omega arith)) w
