-- `replay::replay` meets its contract: the counts so far and the lines that are left give the tally of the whole. Assumes nothing.
use borrow.Author.Rules.{rules}
use Prim.Native.Nat.{ℕ, zero, suc, ◌+◌, ◌-◌, ◌≤◌}
use native.Mathlib.Nat.{add-sub_cancel_left, le_refl, le_trans}
use native.Mathlib.Omega.{arith}
use mathlib.Core.Path.{◌≡◌, sym, ◌∙◌}
use mathlib.Core.List.{List, [], ◌∷◌}
use lib.ListN.{length, get_or, take, drop, replicate, set, length-drop, drop_of_length-le}
use lib.Seq.{drop-drop, take_all}
use Rattle.number_replay.specs.Lines.{lines}
use Rattle.number_replay.specs.Records.{place_of, tally, verdict_of}
use Rattle.number_replay.specs.declared.record.Verdict.{Verdict}
use Rattle.number_replay.proofs.replay.replay.Goals as goal

zeros : (n k : ℕ) → get_or (replicate n 0) k 0 ≤ 0
zeros zero k = le_refl 0
zeros (suc n) zero = le_refl 0
zeros (suc n) (suc k) = zeros n k

-- a count more is at most one more
bumped : (c : List ℕ) (k m : ℕ) → ((j : ℕ) → get_or c j 0 ≤ m) → (j : ℕ) → get_or (set c k (get_or c k 0 + 1)) j 0 ≤ m + 1
bumped [] k m h j = omega arith
bumped (x ∷ xs) zero m h zero = omega (arith, h 0)
bumped (x ∷ xs) zero m h (suc j) = omega (arith, h (suc j))
bumped (x ∷ xs) (suc k) m h zero = omega (arith, h 0)
bumped (x ∷ xs) (suc k) m h (suc j) = bumped xs k m (λ i. h (suc i)) j

-- the line of r bytes from `at` on is counted
turn : (s c : List ℕ) (at r k : ℕ) (v : Verdict)
    → lines (drop at s) ≡ take r (drop at s) ∷ lines (drop r (drop at s))
    → v ≡ verdict_of (take r (drop at s))
    → k ≡ place_of v
    → tally c (lines (drop at s)) ≡ tally (set c k (get_or c k 0 + 1)) (lines (drop (at + r) s))
unfolding tally
turn s c at r k v first judged placed = rw (first, drop-drop r at s, placed, judged)

-- the whole of what is left from `at` on, as `&text[at..]` has it
rest : (s : List ℕ) (at : ℕ) → take (length s - at) (drop at s) ≡ drop at s
rest s at = take_all (length s - at) (drop at s) (simp length-drop (le_refl (length s - at)))

pub loop-at-init : goal.loop-at-init
loop-at-init c = (search rules, search rules, search rules, zeros 8)

pub overflow_add-counts : goal.overflow_add-counts
overflow_add-counts c =
    omega (arith, c.loop-at.invariant.3 c.place-k.result)

pub loop-at-preserved : goal.loop-at-preserved
loop-at-preserved c =
    let s = c.args.text.now in
    let r = c.line_len.result in
    let first : lines (drop c.loop-at.at s) ≡ take r (drop c.loop-at.at s) ∷ lines (drop r (drop c.loop-at.at s)) = rw (rest s c.loop-at.at) at c.line_len.ensures.first in
    let judged : c.judge-v.result ≡ verdict_of (take r (drop c.loop-at.at s)) = rw (add-sub_cancel_left c.loop-at.at r) at c.judge-v.ensures in
    let more : c.loop-at.at + 1 ≤ c.loop-at.at + r = omega arith in (
      search rules,
      search rules,
      sym (turn s c.loop-at.counts c.loop-at.at r c.place-k.result c.judge-v.result first judged c.place-k.ensures.0) ∙ c.loop-at.invariant.2,
      λ j. le_trans (bumped c.loop-at.counts c.place-k.result c.loop-at.at c.loop-at.invariant.3 j) more,
    )

pub returns : goal.returns
unfolding lines tally
returns c =
    let s = c.args.text.now in
    let h : length s ≤ c.loop-at.at = omega arith in
    rw (drop_of_length-le s {i = c.loop-at.at} h) at c.loop-at.invariant.2
