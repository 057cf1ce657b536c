-- `record::rule_place` meets its contract: each arm has its letter, and the last none of them. Assumes nothing.
use borrow.Author.Tests.{ne_eqb}
use native.Mathlib.Omega.{arith}
use Rattle.number_replay.specs.Records.{place_of}
use Rattle.number_replay.proofs.record.rule_place.Goals as goal

pub returns-in-98 : goal.returns-in-98
unfolding place_of
returns-in-98 c = (rw c.in-98.is, omega arith)

pub returns-in-104 : goal.returns-in-104
unfolding place_of
returns-in-104 c = (rw c.in-104.is, omega arith)

pub returns-in-114 : goal.returns-in-114
unfolding place_of
returns-in-114 c = (rw c.in-114.is, omega arith)

pub returns-in-101 : goal.returns-in-101
unfolding place_of
returns-in-101 c = (rw c.in-101.is, omega arith)

pub returns-in-116 : goal.returns-in-116
unfolding place_of
returns-in-116 c = (rw c.in-116.is, omega arith)

pub returns-in-112 : goal.returns-in-112
unfolding place_of
returns-in-112 c = (rw c.in-112.is, omega arith)

pub returns-in-119 : goal.returns-in-119
unfolding place_of
returns-in-119 c = (rw c.in-119.is, omega arith)

pub returns-in_default : goal.returns-in_default
unfolding place_of
returns-in_default c =
    (simp (ne_eqb _ _ c.in_default.in_default-own.rest.0.0.0.0.0.0.1, ne_eqb _ _ c.in_default.in_default-own.rest.0.0.0.0.0.1, ne_eqb _ _ c.in_default.in_default-own.rest.0.0.0.0.1, ne_eqb _ _ c.in_default.in_default-own.rest.0.0.0.1, ne_eqb _ _ c.in_default.in_default-own.rest.0.0.1, ne_eqb _ _ c.in_default.in_default-own.rest.0.1, ne_eqb _ _ c.in_default.in_default-own.rest.1), omega arith)
