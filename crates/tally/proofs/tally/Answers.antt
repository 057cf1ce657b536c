-- `tally` meets its contract: the counts so far and the records that are left give those of the whole. Assumes nothing.
use Rattle.std.proofs.Common.{◌≡◌, ◌+◌, ◌-◌, ◌<◌, ◌≤◌, List, ℕ, length, drop, sym, arith, rules, refl, subst}
use lib.ListN.{length-drop}
use Rattle.tally.proofs.Tallies.{turn, ends, counted-sum, taken-inside, behind}
use Rattle.tally.proofs.tally.Goals as goal

pub slice_bounds-rest-count : goal.slice_bounds-rest-count
slice_bounds-rest-count g c =
    let k = taken-inside c.first-s.result c.loop-rest.rest.now (search rules) c.first-s.ensures.inside in
    rw c.take.ensures k.1

pub slice_bounds-rest-start : goal.slice_bounds-rest-start
slice_bounds-rest-start g c =
    let k = taken-inside c.first-s.result c.loop-rest.rest.now (search rules) c.first-s.ensures.inside in
    let h : c.take.result ≤ length c.loop-rest.rest.now = rw c.take.ensures k.1 in
    omega (arith, h)

pub loop-rest-smaller : goal.loop-rest-smaller
loop-rest-smaller g c =
    let k = taken-inside c.first-s.result c.loop-rest.rest.now (search rules) c.first-s.ensures.inside in
    let h : (0 < c.take.result) × (c.take.result ≤ length c.loop-rest.rest.now) = rw c.take.ensures k in
    rw (behind c.loop-rest.rest.now c.take.result, length-drop) (omega (arith, h.0, h.1))

pub loop-rest-preserved : goal.loop-rest-preserved
loop-rest-preserved g c =
    let k = taken-inside c.first-s.result c.loop-rest.rest.now (search rules) c.first-s.ensures.inside in
    let h : (0 < c.take.result) × (c.take.result ≤ length c.loop-rest.rest.now) = rw c.take.ensures k in
    let n = c.count-c.ensures in
    rw (behind c.loop-rest.rest.now c.take.result, n) (
      rw length-drop (omega (arith, h.0, h.1, counted-sum c.first-s.result c.loop-rest.c, c.loop-rest.invariant.0)),
      rw c.take.ensures (turn c.first-s.result (search rules) c.first-s.ensures.found c.loop-rest.invariant.1),
    )

pub returns : goal.returns
returns g c = ends c.loop-rest.rest.now (search rules) c.loop-rest.invariant.1
