-- `name::width` meets its contract. Assumes nothing.
use mathlib.Core.Path.{refl, sym, ◌∙◌}
use Prim.Native.Nat.{◌+◌}
use native.Mathlib.Omega.{arith}
use lib.ListN.{get_or}
use borrow.Author.Tests.{eq-eqb, ne_eqb, lt-ltb, le-ltb}
use Rattle.json_members.specs.inner.Bytes.{width_of}
use Rattle.json_members.proofs.Named.{escape-width-end, escape-width-at}
use Rattle.json_members.proofs.name.width.Goals as goal

pub returns-then-s-e : goal.returns-then-s-e
unfolding width_of
returns-then-s-e c = let s = c.args.s.now in let at = c.args.at in let x = get_or s at 0 in (sym (rw (eq-eqb x 0x5C c.if-b-eq92.true) (escape-width-end s (at + 1) c.if-s-e.true)), omega arith, omega arith)

pub returns-then-s-e-eq117 : goal.returns-then-s-e-eq117
unfolding width_of
returns-then-s-e-eq117 c = let s = c.args.s.now in let at = c.args.at in let x = get_or s at 0 in (sym (rw (eq-eqb x 0x5C c.if-b-eq92.true) (escape-width-at s (at + 1) c.if-s-e.false ∙ rw (eq-eqb (get_or s (at + 1) 0) 0x75 c.if-s-e-eq117.true) refl)), omega arith, omega arith)

pub returns-then-b-eq92 : goal.returns-then-b-eq92
unfolding width_of
returns-then-b-eq92 c = let s = c.args.s.now in let at = c.args.at in let x = get_or s at 0 in (sym (rw (eq-eqb x 0x5C c.if-b-eq92.true) (escape-width-at s (at + 1) c.if-s-e.false ∙ rw (ne_eqb (get_or s (at + 1) 0) 0x75 c.if-s-e-eq117.false) refl)), omega arith, omega arith)

pub returns-then-b-lt128 : goal.returns-then-b-lt128
unfolding width_of
returns-then-b-lt128 c = let s = c.args.s.now in let at = c.args.at in let x = get_or s at 0 in (sym (rw (ne_eqb x 0x5C c.if-b-eq92.false, lt-ltb x 0x80 c.if-b-lt128.true) refl), omega arith, omega arith)

pub returns-then-b-lt224 : goal.returns-then-b-lt224
unfolding width_of
returns-then-b-lt224 c = let s = c.args.s.now in let at = c.args.at in let x = get_or s at 0 in (sym (rw (ne_eqb x 0x5C c.if-b-eq92.false, le-ltb x 0x80 c.if-b-lt128.false, lt-ltb x 0xE0 c.if-b-lt224.true) refl), omega arith, omega arith)

pub returns-then-b-lt240 : goal.returns-then-b-lt240
unfolding width_of
returns-then-b-lt240 c = let s = c.args.s.now in let at = c.args.at in let x = get_or s at 0 in (sym (rw (ne_eqb x 0x5C c.if-b-eq92.false, le-ltb x 0x80 c.if-b-lt128.false, le-ltb x 0xE0 c.if-b-lt224.false, lt-ltb x 0xF0 c.if-b-lt240.true) refl), omega arith, omega arith)

pub returns : goal.returns
unfolding width_of
returns c = let s = c.args.s.now in let at = c.args.at in let x = get_or s at 0 in (sym (rw (ne_eqb x 0x5C c.if-b-eq92.false, le-ltb x 0x80 c.if-b-lt128.false, le-ltb x 0xE0 c.if-b-lt224.false, le-ltb x 0xF0 c.if-b-lt240.false) refl), omega arith, omega arith)
