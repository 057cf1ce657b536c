-- `name::name_is` meets its contract. Assumes nothing.
use Rattle.std.proofs.Common.{sym, ◌∙◌, refl}
use Rattle.json_members.proofs.Named.{name-whole, name-end, name-quote}
use Rattle.json_members.proofs.name.name_is.Goals as goal

pub returns-then-s-i : goal.returns-then-s-i
returns-then-s-i c = sym (name-whole c.args.s.now c.args.at c.args.w.now ∙ rw (← c.behind.ensures, c.in-Some.is) (name-end c.args.s.now _ c.if-s-i.true))

pub returns : goal.returns
returns c = sym (name-whole c.args.s.now c.args.at c.args.w.now ∙ rw (← c.behind.ensures, c.in-Some.is) (name-quote c.args.s.now _ c.if-s-i.false))

pub returns-in_default : goal.returns-in_default
returns-in_default c = sym (name-whole c.args.s.now c.args.at c.args.w.now ∙ rw (← c.behind.ensures, c.in_default.is) refl)
