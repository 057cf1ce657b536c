-- `string::one_of` meets its contract. Assumes nothing.
use mathlib.Core.Path.{refl, sym, subst}
use mathlib.Core.List.{[]}
use Prim.Native.Nat.{ℕ, ◌<◌}
use native.Mathlib.Omega.{arith}
use lib.ListN.{get_or}
use Rattle.json_grammar.specs.inner.Machine as M
use Rattle.json_grammar.proofs.Steps.{ends, stops, closes}
use Rattle.json_grammar.proofs.Lexing.{class_low, class-high, class-in}
use Rattle.json_read.proofs.string.one_of.Goals as goal

pub returns-then-s-at : goal.returns-then-s-at
unfolding M.ready M.nullable
returns-then-s-at c = record { of = λ k p q. ends refl c.if-s-at.true }

pub returns-then-b-low : goal.returns-then-b-low
returns-then-b-low c = record { of = λ k p q. stops c.if-s-at.false (class_low k [] _ (subst (λ (x : ℕ). get_or c.args.s.now c.args.at 0 < x) (sym p) c.if-b-low.true)) }

pub returns-then-high-b : goal.returns-then-high-b
returns-then-high-b c = record { of = λ k p q. stops c.if-s-at.false (class-high k [] _ (subst (λ (x : ℕ). x < get_or c.args.s.now c.args.at 0) (sym q) c.if-high-b.true)) }

pub returns : goal.returns
returns c = record { of = λ k p q. closes c.if-s-at.false (class-in k [] (get_or c.args.s.now c.args.at 0) (omega arith) (omega arith)) }
