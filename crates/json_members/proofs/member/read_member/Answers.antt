-- `member::read_member` meets its contract. Assumes nothing.
use Rattle.std.proofs.Common.{Ok, ap}
use native.Mathlib.Omega.{arith}
use Rattle.json_grammar.proofs.Steps.{told}
use Rattle.json_read.proofs.Values.{reads-told, parts-told}
use Rattle.json_members.specs.inner.Turns.{Turn, nameless, valueless, unparted, last, more}
use Rattle.json_members.proofs.Finding.{named-inside}
use Rattle.json_members.proofs.member.read_member.Goals as goal

pub returns-in_default : goal.returns-in_default
returns-in_default c = nameless c.name.ensures (λ e. c.in_default.not-Ok _ e)

pub returns-in_default-read_value : goal.returns-in_default-read_value
returns-in_default-read_value c = valueless (told c.in-Ok.is c.name.ensures) c.blank-v.ensures c.read_value.ensures (λ e. c.in_default-read_value.not-Ok _ e)

pub overflow_add-q : goal.overflow_add-q
overflow_add-q c =
    let turn-of : Turn c.args.s.now c.args.at c.args.d c.blank-q.result c.blank-v.result c.in-Ok-read_value.m = record {
      behind = c.in-Ok.n;
      name-is = told c.in-Ok.is c.name.ensures;
      skipped = c.blank-v.ensures;
      value-is = reads-told c.in-Ok-read_value.is c.read_value.ensures;
      quote-is = c.blank-q.ensures;
    } in
    let z = turn-of in omega (arith, named-inside z.name-is, z.quote-is.high)

pub returns-in-Ok-More : goal.returns-in-Ok-More
returns-in-Ok-More c =
    let turn-of : Turn c.args.s.now c.args.at c.args.d c.blank-q.result c.blank-v.result c.in-Ok-read_value.m = record {
      behind = c.in-Ok.n;
      name-is = told c.in-Ok.is c.name.ensures;
      skipped = c.blank-v.ensures;
      value-is = reads-told c.in-Ok-read_value.is c.read_value.ensures;
      quote-is = c.blank-q.ensures;
    } in
    more (turn-of) (parts-told (ap Ok c.in-Ok-More.field-0-is) c.in-Ok-More.ensures)

pub returns-in-Ok-Closed : goal.returns-in-Ok-Closed
returns-in-Ok-Closed c =
    let turn-of : Turn c.args.s.now c.args.at c.args.d c.blank-q.result c.blank-v.result c.in-Ok-read_value.m = record {
      behind = c.in-Ok.n;
      name-is = told c.in-Ok.is c.name.ensures;
      skipped = c.blank-v.ensures;
      value-is = reads-told c.in-Ok-read_value.is c.read_value.ensures;
      quote-is = c.blank-q.ensures;
    } in
    last (turn-of) (parts-told (ap Ok c.in-Ok-Closed.field-0-is) c.in-Ok-Closed.ensures)

pub returns-in-Err : goal.returns-in-Err
returns-in-Err c =
    let turn-of : Turn c.args.s.now c.args.at c.args.d c.blank-q.result c.blank-v.result c.in-Ok-read_value.m = record {
      behind = c.in-Ok.n;
      name-is = told c.in-Ok.is c.name.ensures;
      skipped = c.blank-v.ensures;
      value-is = reads-told c.in-Ok-read_value.is c.read_value.ensures;
      quote-is = c.blank-q.ensures;
    } in
    unparted (turn-of) (parts-told c.in-Err.is c.part.ensures)
