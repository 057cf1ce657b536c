-- `record::judge` meets its contract: what was read, whether it is small, and what the two calls gave, one after the other. Assumes nothing.
use borrow.Author.Tests.{leb-true, not-false, not-true}
use Prim.Native.Nat.{ℕ, ◌≤◌}
use native.Mathlib.Omega.{arith}
use mathlib.Core.Bool.{Bool, true, false, ◌&&◌}
use mathlib.Core.Path.{◌≡◌, refl, sym, ◌∙◌}
use mathlib.Core.List.{List}
use lib.Dec.{leb}
use lib.Ieee.{Float}
use lib.ListN.{length, replicate, length-replicate}
use Rattle.buffers.specs.Region.{over}
use Rattle.buffers.proofs.Lists.{and_left, and_right}
use Rattle.replay.specs.Line.{read_of}
use Rattle.replay.proofs.Lines.{read_whole}
use Rattle.tiles_replay.specs.Run.{room, at, first_of, cells_left, second_of}
use Rattle.tiles_replay.specs.Record.{place_of, neither, small_of, marked, both_of, places_from, places_of}
use Rattle.tiles_replay.proofs.record.judge.Goals as goal

-- a line that was not read
unread : (line : List ℕ) (t : Bool) → t ≡ (read_of 39 line).whole → t ≡ false → neither ≡ places_of line
unfolding places_from
unread line t e f = rw (← e, f)

-- a line that was, by whether its lengths fit
module _ (line v : List ℕ) (t : Bool) (e : t ≡ (read_of 39 line).whole) (o : v ≡ over (read_of 39 line).list (replicate 39 0)) (f : t ≡ true) where
  large : small_of v ≡ false → neither ≡ places_of line
  unfolding places_from
  large s = rw (read_whole 39 line (replicate 39 0) v t refl e o f, s)

  fitting : small_of v ≡ true → both_of v ≡ places_of line
  unfolding places_from
  fitting s = rw (read_whole 39 line (replicate 39 0) v t refl e o f, s)

pub record Fit (v : List ℕ) : Type 0 where
  pub rgb : at v 6 ≤ room
  pub out : at v 7 ≤ room
  pub patches : at v 19 ≤ room
  pub bytes : at v 20 ≤ room

fit : (v : List ℕ) → small_of v ≡ true → Fit v
fit v e =
    let a = leb (at v 6) room in
    let b = leb (at v 7) room in
    let c = leb (at v 19) room in
    let d = leb (at v 20) room in
    let abc = and_left (a && b && c) d e in
    let ab = and_left (a && b) c abc in
    record { rgb = leb-true _ _ (and_left a b ab); out = leb-true _ _ (and_right a b ab); patches = leb-true _ _ (and_right (a && b) c abc); bytes = leb-true _ _ (and_right (a && b && c) d e) }

-- the calls' places, from the marked cells on
both : (v : List ℕ) (l t : List Float) (x y : ℕ)
    → l ≡ marked
    → t ≡ cells_left v l
    → x ≡ place_of (first_of v l) v 9
    → y ≡ place_of (second_of v t) v 23
    → record { first = x; second = y } ≡ both_of v
unfolding both_of
both v l t x y e f g h = rw (h, g, f, e)

pub returns-then-not-read_line : goal.returns-then-not-read_line
returns-then-not-read_line c =
    let e = c.bad.ensures in
    (e ∙ unread _ _ c.read_line.ensures.whole (not-true _ c.if-not-read_line.true-raw), rw e (omega arith), rw e (omega arith))

pub returns-then-not-small : goal.returns-then-not-small
returns-then-not-small c =
    let e = c.bad-then-not-small.ensures in
    let g : small_of c.read_line.new.to ≡ false = sym c.small.ensures ∙ not-true _ c.if-not-small.true-raw in
    (e ∙ large _ _ _ c.read_line.ensures.whole c.read_line.ensures.output (not-false _ c.if-not-read_line.false-raw) g, rw e (omega arith), rw e (omega arith))

pub first-m-requires : goal.first-m-requires
first-m-requires c =
    let small : small_of c.read_line.new.to ≡ true = sym c.small.ensures ∙ not-false _ c.if-not-small.false-raw in
    let fitted : Fit c.read_line.new.to = fit c.read_line.new.to (small) in
    let g = fitted in
    let n : length c.fill_floats.new.to ≡ room = c.fill_floats.auto.to ∙ simp length-replicate in
    (g.rgb, rw n g.out)

pub second-b-requires : goal.second-b-requires
second-b-requires c =
    let small : small_of c.read_line.new.to ≡ true = sym c.small.ensures ∙ not-false _ c.if-not-small.false-raw in
    let fitted : Fit c.read_line.new.to = fit c.read_line.new.to (small) in
    let g = fitted in
    let n : length c.first-m.new.cells ≡ room = c.first-m.auto.cells ∙ c.fill_floats.auto.to ∙ simp length-replicate in
    (rw n g.patches, g.bytes)

pub returns : goal.returns
returns c =
    let small : small_of c.read_line.new.to ≡ true = sym c.small.ensures ∙ not-false _ c.if-not-small.false-raw in
    let v = c.read_line.new.to in
    let filled : c.fill_floats.new.to ≡ marked = simp length-replicate at c.fill_floats.ensures in
    let x = rw c.first-m.ensures.answer at c.place.ensures.0 in
    let y = rw c.second-b.ensures at c.place-2.ensures.0 in (
      both v _ _ _ _ filled c.first-m.ensures.output x y ∙ fitting _ v _ c.read_line.ensures.whole c.read_line.ensures.output (not-false _ c.if-not-read_line.false-raw) (small),
      c.place.ensures.1,
      c.place-2.ensures.1,
    )
