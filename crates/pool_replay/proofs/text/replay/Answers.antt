-- `text::replay` meets its contract: the counts so far, and the lines that are left with pool and slice as they are, give the tally of the whole. Assumes nothing.
use borrow.Author.Rules.{rules}
use mathlib.Core.Path.{◌≡◌, refl, sym, ap, ◌∙◌}
use Prim.Native.Nat.{ℕ, ◌+◌, ◌≤◌, ◌<◌}
use native.Mathlib.Nat.{add-sub_cancel_left, le_trans}
use native.Mathlib.Omega.{arith}
use mathlib.Core.List.{List}
use lib.Ieee.{Float}
use lib.ListN.{length, take, drop, replicate, drop_of_length-le}
use Rattle.number_floats.specs.Constants.{zero32}
use Rattle.pool_books.specs.declared.Pool.{Pool}
use Rattle.replay.specs.Pieces.{pieces}
use Rattle.replay.proofs.Counted.{zeros, bumped}
use Rattle.replay.proofs.Cuts.{next-piece, next-some}
use Rattle.pool_replay.specs.Record.{judged_in, slice_in, tally}
use Rattle.pool_replay.proofs.Runs.{turn}
use Rattle.pool_replay.proofs.text.replay.Goals as goal

-- no line is left
done : (text c : List ℕ) (p : Pool) (s : List Float) (at : ℕ) → length text ≤ at → c ≡ tally c p s (pieces 10 (drop at text))
unfolding pieces tally
done text c p s at h = rw (drop_of_length-le text {i = at} h)

pub loop-at-init : goal.loop-at-init
loop-at-init c =
    let t = c.args.text.now in
    (omega arith, refl, ap (λ (q : Pool). tally (replicate 7 0) q (replicate 512 zero32) (pieces 10 t)) c.new-p.ensures, zeros 7)

pub slice_bounds-judge-end : goal.slice_bounds-judge-end
slice_bounds-judge-end c = sym c.loop-at.invariant.1

pub offset_bounds-counts-i : goal.offset_bounds-counts-i
offset_bounds-counts-i c = omega (arith, c.judge-judged.ensures.answer.1)

pub bounds-counts-i : goal.bounds-counts-i
bounds-counts-i c = c.judge-judged.ensures.answer.1

pub overflow_add-counts : goal.overflow_add-counts
overflow_add-counts c = omega (arith, c.loop-at.invariant.3 c.judge-judged.result.place)

pub bounds-counts-i-in-loop-at : goal.bounds-counts-i-in-loop-at
bounds-counts-i-in-loop-at c = c.judge-judged.ensures.answer.1

pub loop-at-smaller : goal.loop-at-smaller
loop-at-smaller c =
    let s = c.args.text.now in
    let h : c.loop-at.at < length s = c.loop-at-test.true in
    omega (arith, next-some 10 s c.loop-at.at c.piece_len.result h c.piece_len.ensures.first, c.piece_len.ensures.within)

pub loop-at-preserved : goal.loop-at-preserved
loop-at-preserved c =
    let s = c.args.text.now in
    let r = c.piece_len.result in
    let h : c.loop-at.at < length s = c.loop-at-test.true in
    let first = next-piece 10 s c.loop-at.at r h c.piece_len.ensures.first in
    let some = next-some 10 s c.loop-at.at r h c.piece_len.ensures.first in
    let judged : c.judge-judged.result ≡ judged_in c.loop-at.p c.loop-at.slice (take r (drop c.loop-at.at s)) = rw (add-sub_cancel_left c.loop-at.at r) at c.judge-judged.ensures.answer.0 in
    let left : c.judge-judged.new.s ≡ slice_in c.loop-at.p c.loop-at.slice (take r (drop c.loop-at.at s)) = rw (add-sub_cancel_left c.loop-at.at r) at c.judge-judged.ensures.output in
    let more : c.loop-at.at + 1 ≤ c.loop-at.at + r = omega arith in (
      search rules,
      c.judge-judged.auto.s ∙ c.loop-at.invariant.1,
      sym (turn s c.loop-at.counts c.loop-at.p c.loop-at.slice c.loop-at.at r c.judge-judged.result c.judge-judged.new.s first judged left) ∙ c.loop-at.invariant.2,
      λ i. le_trans (bumped c.loop-at.counts c.judge-judged.result.place c.loop-at.at c.loop-at.invariant.3 i) more,
    )

pub returns : goal.returns
returns c =
    let s = c.args.text.now in
    let h : length s ≤ c.loop-at.at = c.loop-at-test.false in
    done s c.loop-at.counts c.loop-at.p c.loop-at.slice c.loop-at.at h ∙ c.loop-at.invariant.2
