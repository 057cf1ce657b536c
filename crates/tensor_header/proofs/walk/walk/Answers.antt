-- `walk::walk` meets its contract. Assumes nothing.
use native.Mathlib.Omega.{arith}
use borrow.Author.Rules.{rules}
use Rattle.json_members.proofs.Finding.{begin, finds-none, finds-last, goes-on-with, next-falls, turns-told}
use Rattle.tensor_header.proofs.Walking.{each_map, all_none, all-note}
use Rattle.tensor_header.proofs.walk.walk.Goals as goal

pub loop-member-init : goal.loop-member-init
loop-member-init c = (search rules, all_none c.args.s c.args.places.now _ c.clear.ensures (λ w. begin c.args.h.now c.args.at 31 w))

pub returns-in_default : goal.returns-in_default
returns-in_default c = record { each = λ i h. each_map (λ w n o. finds-none o c.in_default.ensures) (c.loop-member.invariant.1 i h) }

pub returns-in_default-next : goal.returns-in_default-next
returns-in_default-next c = record { each = all-note c.args.s _ _ c.loop-member.places _ c.note.ensures (λ w n m o e. finds-last o (turns-told c.in_default-next.is c.in-Some.ensures) e) c.loop-member.invariant.1 }

pub loop-member-smaller : goal.loop-member-smaller
loop-member-smaller c = omega (arith, next-falls (turns-told c.in-Some-next.is c.in-Some.ensures))

pub loop-member-preserved : goal.loop-member-preserved
loop-member-preserved c = (search rules, all-note c.args.s _ _ c.loop-member.places _ c.note.ensures (λ w n m o e. goes-on-with o (turns-told c.in-Some-next.is c.in-Some.ensures) e) c.loop-member.invariant.1)
