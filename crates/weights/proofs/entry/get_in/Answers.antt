-- `entry::get_in` meets its contract. Assumes nothing.
use native.Mathlib.Omega.{arith}
use Rattle.json_members.proofs.Finding.{begin, finds-none, finds-last, goes-on-with, next-falls, turns-told}
use Rattle.weights.proofs.entry.get_in.Goals as goal

pub loop-member-init : goal.loop-member-init
loop-member-init c = begin c.args.h.now c.args.at c.args.d c.args.w.now

pub returns-in_default : goal.returns-in_default
returns-in_default c = finds-none c.loop-member.invariant c.in_default.ensures

pub returns-in_default-next : goal.returns-in_default-next
returns-in_default-next c = finds-last c.loop-member.invariant (turns-told c.in_default-next.is c.in-Some.ensures) c.noted-found.ensures

pub loop-member-smaller : goal.loop-member-smaller
loop-member-smaller c = omega (arith, next-falls (turns-told c.in-Some-next.is c.in-Some.ensures))

pub loop-member-preserved : goal.loop-member-preserved
loop-member-preserved c = goes-on-with c.loop-member.invariant (turns-told c.in-Some-next.is c.in-Some.ensures) c.noted-found.ensures
