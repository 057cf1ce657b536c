-- `judge::first_at` meets its contract. Assumes nothing.
use mathlib.Core.Path.{◌≡◌, subst, sym, ◌∙◌}
use mathlib.Core.Bool.{Bool, false}
use Prim.Native.Nat.{ℕ, ◌+◌, ◌<◌}
use native.Mathlib.Decide.{dec_lt}
use native.Mathlib.Omega.{arith}
use lib.ListN.{length}
use Rattle.buffers.proofs.Lists.{first-at, first-none}
use Rattle.tensor_header.specs.Tensors.{tensors, entry_at, count_at}
use Rattle.weights.specs.File.{found_in}
use Rattle.weights.proofs.Sums.{counts-positive}
use Rattle.weights.proofs.Tried.{tried}
use Rattle.weights.proofs.judge.first_at.Goals as goal

one_more : (f : ℕ → Bool) (i : ℕ) → ((j : ℕ) → j < i → f j ≡ false) → f i ≡ false → (j : ℕ) → j < i + 1 → f j ≡ false
one_more f i g e j h = of (dec_lt j i)
  where
    of : Dec (j < i) → f j ≡ false
    of (yes x) = g j x
    of (no x) = let q : i ≡ j = omega arith in subst (λ (k : ℕ). f k ≡ false) q e

pub loop-i-init : goal.loop-i-init
loop-i-init g c = (omega arith, λ f told es o j h. absurd (omega arith))

pub passes-requires : goal.passes-requires
passes-requires g c = c.requires.callable _ _ (rw c.count_at.ensures (counts-positive c.args.s c.requires.s_value c.loop-i.i (rw (← c.tensor_count-n.ensures.value) c.loop-i-test.true)).1)

pub returns-then-passes : goal.returns-then-passes
returns-then-passes g c = record { is = λ f told es o. sym (first-at (length (tensors c.args.s)) _ c.loop-i.i (rw (← c.tensor_count-n.ensures.value) c.loop-i-test.true) (sym (tried c.args.s c.args.h.now c.args.places.now es c.requires.s_value o (goal.F-post g c.args.passes) f told c.loop-i.i (rw (← c.tensor_count-n.ensures.value) c.loop-i-test.true) _ _ _ c.count_at.ensures c.describe.ensures c.passes.ensures) ∙ c.if-passes.true) (c.loop-i.invariant.1 f told es o)) }

pub loop-i-preserved : goal.loop-i-preserved
loop-i-preserved g c = (omega arith, λ f told es o. one_more (λ (j : ℕ). f (count_at (tensors c.args.s) j) (found_in (entry_at (tensors c.args.s) es j))) c.loop-i.i (c.loop-i.invariant.1 f told es o) (sym (tried c.args.s c.args.h.now c.args.places.now es c.requires.s_value o (goal.F-post g c.args.passes) f told c.loop-i.i (rw (← c.tensor_count-n.ensures.value) c.loop-i-test.true) _ _ _ c.count_at.ensures c.describe.ensures c.passes.ensures) ∙ c.if-passes.false))

pub returns : goal.returns
returns g c = let e : c.loop-i.i ≡ length (tensors c.args.s) = omega (arith, c.tensor_count-n.ensures.value, c.loop-i.invariant.0) in record { is = λ f told es o. c.tensor_count-n.ensures.value ∙ sym (first-none (length (tensors c.args.s)) _ (λ j h. c.loop-i.invariant.1 f told es o j (rw e h))) }
