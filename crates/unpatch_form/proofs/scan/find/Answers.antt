-- `scan::find` meets its contract: the first b stands i further than in what is left from i on. Assumes nothing.
use Prim.Native.Nat.{◌<◌}
use native.Mathlib.Nat.{zero-add}
use native.Mathlib.Omega.{arith}
use mathlib.Core.Path.{◌≡◌, sym}
use mathlib.Core.List.{[]}
use lib.ListN.{length, drop, drop_of_length-le}
use Rattle.unpatch_form.specs.inner.Steps.{until}
use Rattle.unpatch_form.proofs.Pieces.{until-here, until-later}
use Rattle.unpatch_form.proofs.scan.find.Goals as goal

pub loop-i-init : goal.loop-i-init
loop-i-init c = sym (zero-add _)

pub returns-then-x-b : goal.returns-then-x-b
returns-then-x-b c =
    let s = c.args.s.now in
    let h : c.loop-i.i < length s = omega arith in
    (omega (arith, c.loop-i.invariant, until-here _ s c.loop-i.i h c.if-x-b.true), omega arith)

pub loop-i-preserved : goal.loop-i-preserved
loop-i-preserved c =
    let s = c.args.s.now in
    let h : c.loop-i.i < length s = omega arith in
    omega (arith, c.loop-i.invariant, until-later _ s c.loop-i.i h c.if-x-b.false)

pub returns : goal.returns
unfolding until
returns c =
    let s = c.args.s.now in
    let h : drop c.loop-i.i s ≡ [] = drop_of_length-le s {i = c.loop-i.i} (omega arith) in
    (omega (arith, rw h at c.loop-i.invariant), omega arith)
