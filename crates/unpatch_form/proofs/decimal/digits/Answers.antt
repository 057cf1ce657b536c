-- `decimal::digits` meets its contract: the digits that are left from there on follow ones for n. Assumes nothing.
use Prim.Native.Nat.{ℕ, ◌+◌, ◌*◌, ◌-◌, ◌/◌, ◌≤◌, ◌<◌}
use native.Mathlib.Omega.{arith}
use borrow.Author.Tests.{le-leb}
use mathlib.Core.Path.{◌≡◌, refl, sym, ◌∙◌}
use lib.ListN.{length, get_or, drop_of_length-le}
use Rattle.unpatch_form.specs.Decimal.{digits_from}
use Rattle.unpatch_form.proofs.Decimals.{digit-next, digit_low, digit-high, past}
use Rattle.unpatch_form.proofs.decimal.digits.Goals as goal

-- one digit more, and the limit
larger : (n d : ℕ) {most : ℕ} → most < d → most < n * 10 + d
larger n d h = omega arith

pub loop-b-init : goal.loop-b-init
loop-b-init c = (omega arith, refl)

pub returns-in_err-digit : goal.returns-in_err-digit
returns-in_err-digit c =
    let s = c.args.s.now in
    let h : c.loop-b.b-index < length s = omega arith in
    let l : get_or s c.loop-b.b-index 0 < 48 = omega (arith, c.in_err-digit.ensures) in
    rw (c.loop-b.invariant.1, digit_low s c.loop-b.n c.loop-b.b-index h l) c.from_residual.ensures

pub returns-then-digit-gt9 : goal.returns-then-digit-gt9
returns-then-digit-gt9 c =
    let s = c.args.s.now in
    let h : c.loop-b.b-index < length s = omega arith in
    let e = c.in_ok-digit.ensures in
    let k : 57 < get_or s c.loop-b.b-index 0 = omega (arith, e.1, c.if-digit-gt9.true) in
    rw (c.loop-b.invariant.1, digit-high s c.loop-b.n c.loop-b.b-index h e.0 k) refl

pub returns-in_err-room : goal.returns-in_err-room
returns-in_err-room c =
    let s = c.args.s.now in
    let h : c.loop-b.b-index < length s = omega arith in
    let e = c.in_ok-digit.ensures in
    let k : get_or s c.loop-b.b-index 0 ≤ 57 = omega (arith, e.1, c.if-digit-gt9.false) in
    let m : c.args.most < get_or s c.loop-b.b-index 0 - 48 = omega (arith, c.in_err-room.ensures, c.from-d.ensures, e.1) in
    rw (c.loop-b.invariant.1, digit-next s c.loop-b.n c.loop-b.b-index h e.0 k) (c.from_residual-in_err-room.ensures ∙ sym (past _ _ _ (larger c.loop-b.n (get_or s c.loop-b.b-index 0 - 48) m)))

pub returns-then-room-n : goal.returns-then-room-n
returns-then-room-n c =
    let s = c.args.s.now in
    let h : c.loop-b.b-index < length s = omega arith in
    let e = c.in_ok-digit.ensures in
    let k : get_or s c.loop-b.b-index 0 ≤ 57 = omega (arith, e.1, c.if-digit-gt9.false) in
    let m : c.args.most < c.loop-b.n * 10 + (get_or s c.loop-b.b-index 0 - 48) = omega (arith, c.in_ok-room.ensures, c.from-d.ensures, e.1, c.if-room-n.true) in
    rw (c.loop-b.invariant.1, digit-next s c.loop-b.n c.loop-b.b-index h e.0 k) (sym (past _ _ _ m))

pub overflow_mul-n : goal.overflow_mul-n
overflow_mul-n c = omega (arith, c.in_ok-room.ensures, c.if-room-n.false)

pub overflow_add-n : goal.overflow_add-n
overflow_add-n c = omega (arith, c.in_ok-room.ensures, c.if-room-n.false)

pub loop-b-preserved : goal.loop-b-preserved
loop-b-preserved c =
    let s = c.args.s.now in
    let h : c.loop-b.b-index < length s = omega arith in
    let e = c.in_ok-digit.ensures in
    let k : get_or s c.loop-b.b-index 0 ≤ 57 = omega (arith, e.1, c.if-digit-gt9.false) in
    let d : c.from-d.result ≡ get_or s c.loop-b.b-index 0 - 48 = omega (arith, c.from-d.ensures, e.1) in
    (omega (arith, c.in_ok-room.ensures, c.if-room-n.false), rw d (c.loop-b.invariant.1 ∙ digit-next s c.loop-b.n c.loop-b.b-index h e.0 k))

pub returns : goal.returns
unfolding digits_from
returns c =
    let s = c.args.s.now in
    rw (c.loop-b.invariant.1, drop_of_length-le s {i = c.loop-b.b-index} (omega arith)) (simp (le-leb _ _ c.loop-b.invariant.0))
