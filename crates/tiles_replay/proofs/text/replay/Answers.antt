-- `text::replay` meets its contract: the counts so far and the lines that are left give the tally of the whole. Assumes nothing.
use borrow.Author.Rules.{rules}
use Prim.Native.Nat.{ℕ, ◌+◌, ◌*◌, ◌≤◌, ◌<◌}
use native.Mathlib.Nat.{add-sub_cancel_left, le_trans}
use native.Mathlib.Omega.{arith}
use mathlib.Core.Path.{◌≡◌, sym, ◌∙◌}
use mathlib.Core.List.{List, ◌∷◌}
use lib.ListN.{length, take, drop, drop_of_length-le}
use Rattle.tiles_replay.specs.declared.record.Places.{Places}
use Rattle.tiles_replay.specs.Record.{places_of, tally}
use Rattle.replay.specs.Pieces.{pieces}
use Rattle.replay.specs.Counts.{bump}
use Rattle.replay.proofs.Counted.{zeros, bumped}
use Rattle.replay.proofs.Cuts.{next-piece, next-some}
use Rattle.tiles_replay.proofs.text.replay.Goals as goal

-- the line of r bytes from `at` on is counted
turn : (s c : List ℕ) (at r : ℕ) (p : Places)
    → pieces 10 (drop at s) ≡ take r (drop at s) ∷ pieces 10 (drop (at + r) s)
    → p ≡ places_of (take r (drop at s))
    → tally c (pieces 10 (drop at s)) ≡ tally (bump (bump c p.first) (p.second + 12)) (pieces 10 (drop (at + r) s))
unfolding tally
turn s c at r p first judged = rw (first, judged)

pub loop-at-init : goal.loop-at-init
loop-at-init c = (search rules, search rules, zeros 24)

pub overflow_add-counts : goal.overflow_add-counts
overflow_add-counts c =
    omega (arith, c.loop-at.invariant.2 c.judge-p.result.first)

pub overflow_add-counts-in-loop-at : goal.overflow_add-counts-in-loop-at
overflow_add-counts-in-loop-at c =
    omega (arith, bumped c.loop-at.counts c.judge-p.result.first (2 * c.loop-at.at) c.loop-at.invariant.2 (c.judge-p.result.second + 12))

pub loop-at-smaller : goal.loop-at-smaller
loop-at-smaller c =
    let s = c.args.text.now in
    let h : c.loop-at.at < length s = omega arith in
    omega (arith, next-some 10 s c.loop-at.at c.piece_len.result h c.piece_len.ensures.first)

pub loop-at-preserved : goal.loop-at-preserved
loop-at-preserved c =
    let s = c.args.text.now in
    let r = c.piece_len.result in
    let p = c.judge-p.result in
    let h : c.loop-at.at < length s = omega arith in
    let first = next-piece 10 s c.loop-at.at r h c.piece_len.ensures.first in
    let some = next-some 10 s c.loop-at.at r h c.piece_len.ensures.first in
    let judged : p ≡ places_of (take r (drop c.loop-at.at s)) = rw (add-sub_cancel_left c.loop-at.at r) at c.judge-p.ensures.0 in
    let more : 2 * c.loop-at.at + 1 + 1 ≤ 2 * (c.loop-at.at + r) = omega arith in (
      search rules,
      sym (turn s c.loop-at.counts c.loop-at.at r p first judged) ∙ c.loop-at.invariant.1,
      λ i. le_trans (bumped (bump c.loop-at.counts c.judge-p.result.first) (c.judge-p.result.second + 12) (2 * c.loop-at.at + 1) (bumped c.loop-at.counts c.judge-p.result.first (2 * c.loop-at.at) c.loop-at.invariant.2) i) more,
    )

pub returns : goal.returns
unfolding pieces tally
returns c =
    let s = c.args.text.now in
    let h : length s ≤ c.loop-at.at = omega arith in
    rw (drop_of_length-le s {i = c.loop-at.at} h) at c.loop-at.invariant.1
