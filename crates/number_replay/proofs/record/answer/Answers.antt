-- `record::answer` meets its contract: each arm has its letter, and the last none of them. Assumes nothing.
use borrow.Author.Tests.{ne_eqb}
use mathlib.Core.Path.{ap}
use Rattle.number_replay.specs.Records.{answer_of}
use Rattle.std.specs.Prelude.{Some}
use Rattle.number_replay.proofs.record.answer.Goals as goal

pub returns-in-98 : goal.returns-in-98
unfolding answer_of
returns-in-98 c = rw c.in-98.is (ap Some c.bf16.ensures)

pub returns-in-104 : goal.returns-in-104
unfolding answer_of
returns-in-104 c = rw c.in-104.is c.half.ensures

pub returns-in-114 : goal.returns-in-114
unfolding answer_of
returns-in-114 c = rw c.in-114.is (ap Some c.root.ensures)

pub returns-in-101 : goal.returns-in-101
unfolding answer_of
returns-in-101 c = rw c.in-101.is (ap Some c.exp.ensures)

pub returns-in-116 : goal.returns-in-116
unfolding answer_of
returns-in-116 c = rw c.in-116.is (ap Some c.tanh.ensures)

pub returns-in-112 : goal.returns-in-112
unfolding answer_of
returns-in-112 c = rw c.in-112.is (ap Some c.pack.ensures)

pub returns-in-119 : goal.returns-in-119
unfolding answer_of
returns-in-119 c = rw c.in-119.is c.widen.ensures

pub returns-in_default : goal.returns-in_default
unfolding answer_of
returns-in_default c =
    simp (ne_eqb _ _ c.in_default.in_default-own.rest.0.0.0.0.0.0.1, ne_eqb _ _ c.in_default.in_default-own.rest.0.0.0.0.0.1, ne_eqb _ _ c.in_default.in_default-own.rest.0.0.0.0.1, ne_eqb _ _ c.in_default.in_default-own.rest.0.0.0.1, ne_eqb _ _ c.in_default.in_default-own.rest.0.0.1, ne_eqb _ _ c.in_default.in_default-own.rest.0.1, ne_eqb _ _ c.in_default.in_default-own.rest.1)
