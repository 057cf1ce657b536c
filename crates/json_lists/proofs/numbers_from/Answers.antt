-- `numbers_from` meets its contract. Assumes nothing.
use Rattle.std.proofs.Common.{Ok, refl, ap, sym, ◌∙◌, arith}
use Rattle.json_read.proofs.Values.{parts-told}
use Rattle.json_lists.proofs.Turns.{begin, turn, turn-none, turn_end, count-few, goes_on, closes, stops}
use Rattle.json_lists.proofs.numbers_from.Goals as goal

pub loop-i-init : goal.loop-i-init
loop-i-init c = begin _ _

pub returns-in_err-n : goal.returns-in_err-n
returns-in_err-n c = rw c.from_residual.ensures (stops c.loop-i.invariant (turn-none c.blank-v.ensures (sym c.in_err-n.was ∙ c.read_size.ensures)))

pub with_number-t-requires : goal.with_number-t-requires
with_number-t-requires c = omega (arith, count-few c.loop-i.invariant, c.loop-i-test.true)

pub loop-i-smaller : goal.loop-i-smaller
loop-i-smaller c =
    let p = (parts-told (ap Ok c.in-Ok-More.field-0-is) c.in-Ok-More.ensures).falls _ refl in
    omega (arith, p.0, p.1, c.blank-v.ensures.low, c.digits.ensures.low)

pub loop-i-preserved : goal.loop-i-preserved
loop-i-preserved c =
    let m = parts-told (ap Ok c.in-Ok-More.field-0-is) c.in-Ok-More.ensures in
    let p = m.falls _ refl in
    goes_on c.loop-i.invariant c.in_ok-n.n c.with_number-t.ensures (turn c.blank-v.ensures (sym c.in_ok-n.was ∙ c.read_size.ensures) c.digits.ensures m) (omega (arith, p.0, c.blank-v.ensures.low, c.digits.ensures.low))

pub returns-in-Ok-Closed : goal.returns-in-Ok-Closed
returns-in-Ok-Closed c = closes c.loop-i.invariant c.in_ok-n.n c.with_number-t.ensures (turn c.blank-v.ensures (sym c.in_ok-n.was ∙ c.read_size.ensures) c.digits.ensures (parts-told (ap Ok c.in-Ok-Closed.field-0-is) c.in-Ok-Closed.ensures))

pub returns-in-Err : goal.returns-in-Err
returns-in-Err c = stops c.loop-i.invariant (turn c.blank-v.ensures (sym c.in_ok-n.was ∙ c.read_size.ensures) c.digits.ensures c.in-Err.ensures)

pub returns : goal.returns
returns c = stops c.loop-i.invariant (turn_end _ _ c.loop-i-test.false)
