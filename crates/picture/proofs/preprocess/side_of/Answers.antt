-- `picture::preprocess::side_of` meets its contract. A side is at most 8192 and `a` at most 128, so rounding up stays small. Assumes nothing.
use mathlib.Core.Path.{◌≡◌, ap}
use Prim.Native.Nat.{ℕ, ◌+◌, ◌*◌, ◌-◌, ◌/◌, min}
use native.Mathlib.Nat.{div-mul-le_self}
use native.Mathlib.Omega.{arith}
use Rattle.picture_limits.specs.Sides.{side}
use Rattle.picture.proofs.preprocess.side_of.Goals as goal

pub overflow_mul-up : goal.overflow_mul-up
overflow_mul-up c = omega (arith, div-mul-le_self (c.args.x + (c.args.a - 1)) c.args.a)

pub overflow_mul-result : goal.overflow_mul-result
overflow_mul-result c = let up = (c.args.x + (c.args.a - 1)) / c.args.a * c.args.a in omega (arith, div-mul-le_self up c.args.a, div-mul-le_self (c.args.x + (c.args.a - 1)) c.args.a)

pub returns-then-up-n : goal.returns-then-up-n
unfolding side
returns-then-up-n c =
    let up = (c.args.x + (c.args.a - 1)) / c.args.a * c.args.a in
    let e : up ≡ min up c.args.n = omega (arith, c.if-up-n.true) in
    ap (λ (k : ℕ). k / c.args.a * c.args.a) e

pub overflow_mul-result-2 : goal.overflow_mul-result-2
overflow_mul-result-2 c = omega (arith, div-mul-le_self c.args.n c.args.a, c.ranges.n)

pub returns : goal.returns
unfolding side
returns c =
    let up = (c.args.x + (c.args.a - 1)) / c.args.a * c.args.a in
    let e : c.args.n ≡ min up c.args.n = omega (arith, c.if-up-n.false) in
    ap (λ (k : ℕ). k / c.args.a * c.args.a) e
