-- `run::change` meets its contract: its tests are the definition's. Assumes nothing.
use borrow.Author.Tests.{le-ltb, lt-ltb, lt-leb, le-leb, eq-eqb, ne_eqb}
use Prim.Native.Nat.{ℕ, ◌*◌, ◌≤◌, ◌<◌}
use native.Mathlib.Nat.{mul-le-mul}
use native.Mathlib.Omega.{arith}
use lib.ListN.{get_or}
use Rattle.salvage_replay.specs.Run.{room, word, changed}
use Rattle.salvage_replay.proofs.run.change.Goals as goal

-- what is added for a place
product : (i x : ℕ) → i < room → i * word x ≤ 3136 * 4294967296
product i x h =
    let k : i ≤ 3136 = omega arith in
    let l : word x ≤ 4294967296 = omega arith in
    mul-le-mul k l

pub returns-then-i-v : goal.returns-then-i-v
unfolding changed
returns-then-i-v c = simp (eq-eqb _ _ c.if-i-v.true, c.pattern.ensures)

pub returns-then-i-v-2 : goal.returns-then-i-v-2
unfolding changed
returns-then-i-v-2 c = simp (ne_eqb _ _ c.if-i-v.false, lt-ltb _ _ c.if-i-v-2.true)

pub returns-then-v-i : goal.returns-then-v-i
unfolding changed
returns-then-v-i c =
    simp (ne_eqb _ _ c.if-i-v.false, le-ltb _ _ c.if-i-v-2.false, le-leb _ _ c.if-v-i.true)

pub returns-then-i-v-ne0 : goal.returns-then-i-v-ne0
unfolding changed
returns-then-i-v-ne0 c =
    simp (ne_eqb _ _ c.if-i-v.false, le-ltb _ _ c.if-i-v-2.false, lt-leb _ _ c.if-v-i.false, ne_eqb _ _ c.if-i-v-ne0.true)

pub overflow_mul-i : goal.overflow_mul-i
overflow_mul-i c =
    omega (arith, product c.args.i (get_or c.args.v.now 14 0) c.requires.0)

pub overflow_add-v : goal.overflow_add-v
overflow_add-v c =
    omega (arith, product c.args.i (get_or c.args.v.now 14 0) c.requires.0)

pub returns : goal.returns
unfolding changed
returns c =
    simp (ne_eqb _ _ c.if-i-v.false, le-ltb _ _ c.if-i-v-2.false, lt-leb _ _ c.if-v-i.false, eq-eqb _ _ c.if-i-v-ne0.false, c.pattern-2.ensures)
