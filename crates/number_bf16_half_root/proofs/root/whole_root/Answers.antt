-- `root::whole_root` meets its contract. The invariant: v lies between the squares of lo and hi. The measure is what is left between the two. Assumes nothing.
use Rattle.std.proofs.Common.{◌≡◌, ℕ, ◌+◌, ◌*◌, ◌/◌, ◌^◌, ◌<◌, ◌≤◌, subst, mul-le-mul, arith, lit<, lit≤}
use Rattle.number_bf16_half_root.proofs.root.whole_root.Goals as goal

square : (x : ℕ) → x ≤ 2 ^ 24 → x * x ≤ 2 ^ 48
square x h = mul-le-mul h h

pub loop-lo-init : goal.loop-lo-init
loop-lo-init c = (lit≤ tt, lit< tt, lit≤ tt, c.requires.0, c.requires.1)

pub overflow_add-lo : goal.overflow_add-lo
overflow_add-lo c = omega arith

pub overflow_add-mid : goal.overflow_add-mid
overflow_add-mid c = omega arith

pub overflow_mul-mid : goal.overflow_mul-mid
overflow_mul-mid c = omega (arith, square ((c.loop-lo.lo + c.loop-lo.hi) / 2) (omega arith))

pub loop-lo-smaller-then-mid-v : goal.loop-lo-smaller-then-mid-v
loop-lo-smaller-then-mid-v c = omega arith

pub loop-lo-preserved-then-mid-v : goal.loop-lo-preserved-then-mid-v
loop-lo-preserved-then-mid-v c = omega arith

pub loop-lo-smaller : goal.loop-lo-smaller
loop-lo-smaller c = omega arith

pub loop-lo-preserved : goal.loop-lo-preserved
loop-lo-preserved c = omega arith

pub returns : goal.returns
returns c =
    let e : c.loop-lo.hi ≡ c.loop-lo.lo + 1 = omega arith in
    (omega arith, omega arith, omega arith, subst (λ (n : ℕ). c.args.v < n * n) e c.loop-lo.invariant.4)
