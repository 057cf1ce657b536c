-- `name::behind` meets its contract. Assumes nothing.
use mathlib.Core.Path.{refl, sym, ◌∙◌}
use native.Mathlib.Omega.{arith}
use lib.ListN.{get_or}
use borrow.Author.Tests.{eq-eqb, ne_eqb}
use Rattle.json_members.proofs.Named.{behind-out, behind-at, behind-done}
use Rattle.json_members.proofs.name.behind.Goals as goal

pub loop-x-init : goal.loop-x-init
loop-x-init c = refl

pub returns-then-s-i : goal.returns-then-s-i
returns-then-s-i c = let s = c.args.s.now in let w = c.args.w.now in sym (c.loop-x.invariant ∙ behind-out w c.loop-x.x-index s c.loop-x.i c.loop-x-test.true c.if-s-i.true)

pub returns-then-s-i-eq34 : goal.returns-then-s-i-eq34
returns-then-s-i-eq34 c = let s = c.args.s.now in let w = c.args.w.now in sym (c.loop-x.invariant ∙ behind-at w c.loop-x.x-index s c.loop-x.i c.loop-x-test.true c.if-s-i.false ∙ rw (eq-eqb (get_or s c.loop-x.i 0) 0x22 c.if-s-i-eq34.true) refl)

pub returns-then-code-x : goal.returns-then-code-x
returns-then-code-x c = let s = c.args.s.now in let w = c.args.w.now in sym (c.loop-x.invariant ∙ behind-at w c.loop-x.x-index s c.loop-x.i c.loop-x-test.true c.if-s-i.false ∙ rw (ne_eqb (get_or s c.loop-x.i 0) 0x22 c.if-s-i-eq34.false, ← c.code.ensures, ne_eqb c.code.result (get_or w c.loop-x.x-index 0) c.if-code-x.true) refl)

pub width-i-requires : goal.width-i-requires
width-i-requires c = omega arith

pub overflow_add-i : goal.overflow_add-i
overflow_add-i c = omega arith

pub loop-x-preserved : goal.loop-x-preserved
loop-x-preserved c = let s = c.args.s.now in let w = c.args.w.now in c.loop-x.invariant ∙ behind-at w c.loop-x.x-index s c.loop-x.i c.loop-x-test.true c.if-s-i.false ∙ rw (ne_eqb (get_or s c.loop-x.i 0) 0x22 c.if-s-i-eq34.false, ← c.code.ensures, eq-eqb c.code.result (get_or w c.loop-x.x-index 0) c.if-code-x.false, c.width-i.ensures.0) refl

pub returns : goal.returns
returns c = let s = c.args.s.now in let w = c.args.w.now in sym (c.loop-x.invariant ∙ behind-done w c.loop-x.x-index s c.loop-x.i c.loop-x-test.false)
