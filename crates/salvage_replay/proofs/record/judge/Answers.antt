-- `record::judge` meets its contract: what was read, whether it is small, and what the call gave. Assumes nothing.
use borrow.Author.Tests.{leb-true, ltb-true, not-false, not-true}
use Prim.Native.Nat.{ℕ}
use native.Mathlib.Omega.{arith}
use mathlib.Core.Bool.{Bool, true, false, ◌&&◌}
use mathlib.Core.Path.{◌≡◌, refl, sym, ◌∙◌}
use mathlib.Core.List.{List}
use lib.Dec.{leb, ltb}
use lib.ListN.{replicate}
use Rattle.buffers.specs.Region.{over}
use Rattle.buffers.proofs.Lists.{and_left, and_right}
use Rattle.replay.specs.Line.{read_of}
use Rattle.replay.proofs.Lines.{read_whole}
use Rattle.salvage_replay.specs.Run.{room, at, told_in, Small}
use Rattle.salvage_replay.specs.Record.{place_of, differs, small_of, place_from, place_in}
use Rattle.salvage_replay.proofs.record.judge.Goals as goal

-- a line that was not read
unread : (line : List ℕ) (t : Bool) → t ≡ (read_of 31 line).whole → t ≡ false → differs ≡ place_in line
unfolding place_from
unread line t e f = rw (← e, f)

-- a line that was, by whether it is small
module _ (line v : List ℕ) (t : Bool) (e : t ≡ (read_of 31 line).whole) (o : v ≡ over (read_of 31 line).list (replicate 31 0)) (f : t ≡ true) where
  large : small_of v ≡ false → differs ≡ place_in line
  unfolding place_from
  large s = rw (read_whole 31 line (replicate 31 0) v t refl e o f, s)

  fitting : small_of v ≡ true → place_of (told_in v) v ≡ place_in line
  unfolding place_from
  fitting s = rw (read_whole 31 line (replicate 31 0) v t refl e o f, s)

fit : (v : List ℕ) → small_of v ≡ true → Small v
fit v h =
    let a = leb (at v 5) room in
    let b = leb (at v 6) room in
    let c = leb (at v 7) room in
    let d = ltb 0 (at v 9) in
    let e = ltb 0 (at v 12) in
    let abcd = and_left (a && b && c && d) e h in
    let abc = and_left (a && b && c) d abcd in
    let ab = and_left (a && b) c abc in
    record {
      patches = leb-true _ _ (and_left a b ab);
      out = leb-true _ _ (and_right a b ab);
      list = leb-true _ _ (and_right (a && b) c abc);
      side = ltb-true _ _ (and_right (a && b && c) d abcd);
      step = ltb-true _ _ (and_right (a && b && c && d) e h);
    }

pub returns-then-not-read_line : goal.returns-then-not-read_line
returns-then-not-read_line c =
    let e = c.bad.ensures in
    (e ∙ unread _ _ c.read_line.ensures.whole (not-true _ c.if-not-read_line.true-raw), rw e (omega arith))

pub returns-then-not-small : goal.returns-then-not-small
returns-then-not-small c =
    let e = c.bad-then-not-small.ensures in
    let g : small_of c.read_line.new.to ≡ false = sym c.small.ensures ∙ not-true _ c.if-not-small.true-raw in
    (e ∙ large _ _ _ c.read_line.ensures.whole c.read_line.ensures.output (not-false _ c.if-not-read_line.false-raw) g, rw e (omega arith))

pub call-m-requires : goal.call-m-requires
call-m-requires c =
    let small : small_of c.read_line.new.to ≡ true = sym c.small.ensures ∙ not-false _ c.if-not-small.false-raw in
    fit _ (small)

pub returns : goal.returns
returns c =
    let small : small_of c.read_line.new.to ≡ true = sym c.small.ensures ∙ not-false _ c.if-not-small.false-raw in
    let told = rw c.call-m.ensures at c.place-p.ensures.0 in
    (told ∙ fitting _ c.read_line.new.to _ c.read_line.ensures.whole c.read_line.ensures.output (not-false _ c.if-not-read_line.false-raw) (small), c.place-p.ensures.1)
