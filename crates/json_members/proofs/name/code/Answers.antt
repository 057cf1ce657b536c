-- `name::code` meets its contract. Assumes nothing.
use mathlib.Core.Path.{refl, sym, ◌∙◌}
use Prim.Native.Nat.{◌+◌}
use native.Mathlib.Omega.{arith}
use lib.ListN.{get_or}
use borrow.Author.Tests.{eq-eqb, ne_eqb}
use Rattle.json_members.proofs.Named.{code-end, code_at, escape_end, escape-at}
use Rattle.json_members.proofs.name.code.Goals as goal

pub returns-then-s-at : goal.returns-then-s-at
returns-then-s-at c = let s = c.args.s.now in let at = c.args.at in sym (code-end s at c.if-s-at.true)

pub overflow_cast-result : goal.overflow_cast-result
overflow_cast-result c = omega (arith, c.shared_slice_known-2-1.given c.args.at)

pub returns-then-b-ne92 : goal.returns-then-b-ne92
returns-then-b-ne92 c = let s = c.args.s.now in let at = c.args.at in sym (code_at s at c.if-s-at.false ∙ rw (ne_eqb (get_or s at 0) 0x5C c.if-b-ne92.true) refl)

pub returns-then-s-e : goal.returns-then-s-e
returns-then-s-e c = let s = c.args.s.now in let at = c.args.at in sym (code_at s at c.if-s-at.false ∙ rw (eq-eqb (get_or s at 0) 0x5C c.if-b-ne92.false) (escape_end s (at + 1) c.if-s-e.true))

pub returns-then-x-eq117 : goal.returns-then-x-eq117
returns-then-x-eq117 c = let s = c.args.s.now in let at = c.args.at in c.four.ensures ∙ sym (code_at s at c.if-s-at.false ∙ rw (eq-eqb (get_or s at 0) 0x5C c.if-b-ne92.false) (escape-at s (at + 1) c.if-s-e.false ∙ rw (eq-eqb (get_or s (at + 1) 0) 0x75 c.if-x-eq117.true) refl))

pub returns : goal.returns
returns c = let s = c.args.s.now in let at = c.args.at in c.simple.ensures ∙ sym (code_at s at c.if-s-at.false ∙ rw (eq-eqb (get_or s at 0) 0x5C c.if-b-ne92.false) (escape-at s (at + 1) c.if-s-e.false ∙ rw (ne_eqb (get_or s (at + 1) 0) 0x75 c.if-x-eq117.false) refl))
