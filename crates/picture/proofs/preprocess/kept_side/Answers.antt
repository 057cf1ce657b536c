-- `picture::preprocess::kept_side` meets its contract: its test is the definition's. Assumes nothing.
use mathlib.Core.Path.{◌≡◌, ◌∙◌}
use Prim.Native.Nat.{◌*◌, ◌/◌, max}
use native.Mathlib.Omega.{arith}
use Rattle.picture_limits.specs.Sides.{kept}
use Rattle.picture_limits.proofs.Places.{times}
use Rattle.picture.proofs.preprocess.kept_side.Goals as goal

pub overflow_mul-x : goal.overflow_mul-x
overflow_mul-x c = omega (arith, times c.args.x c.args.n 8192 2048 c.requires.2 c.requires.1)

pub nonzero_div-x : goal.nonzero_div-x
nonzero_div-x c = omega arith

pub returns-then-rule-n : goal.returns-then-rule-n
unfolding kept
returns-then-rule-n c =
    let k = c.args.x * c.args.n / c.args.m in
    let e = c.if-rule-n.true in
    let q : max k 1 ≡ max 1 k = omega arith in
    rw e (c.max.ensures ∙ q)

pub returns : goal.returns
unfolding kept
returns c = let e = c.if-rule-n.false in rw e
