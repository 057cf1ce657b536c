-- `counts::projector_count` meets its contract. Assumes nothing.
use mathlib.Core.Path.{◌≡◌, refl, ap, ◌∙◌}
use Prim.Native.Nat.{ℕ, ◌+◌, ◌-◌}
use native.Mathlib.Omega.{arith}
use Rattle.tensor_header.specs.Tensors.{projector_tensors, count_at}
use Rattle.tensor_header.proofs.Listed.{above}
use Rattle.weights.proofs.counts.projector_count.Goals as goal

pub returns-then-i-eq0 : goal.returns-then-i-eq0
unfolding count_at
returns-then-i-eq0 c = rw c.if-i-eq0.true refl

pub returns-then-i-eq1 : goal.returns-then-i-eq1
unfolding count_at
returns-then-i-eq1 c = rw c.if-i-eq1.true refl

pub returns-then-i-eq2 : goal.returns-then-i-eq2
unfolding count_at
returns-then-i-eq2 c = rw c.if-i-eq2.true refl

pub returns : goal.returns
returns c = let h = above 2 (above 1 (above 0 (omega arith) c.if-i-eq0.false) c.if-i-eq1.false) c.if-i-eq2.false in let e : 3 + (c.args.i - 3) ≡ c.args.i = omega arith in c.ending_count.ensures ∙ ap (λ (i : ℕ). count_at (projector_tensors c.args.s) i) e
