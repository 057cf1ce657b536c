-- `record::judge` meets its contract: what was read, whether it is small, and what the call gave. Assumes nothing.
use borrow.Author.Tests.{leb-true}
use Prim.Native.Nat.{ℕ}
use native.Mathlib.Omega.{arith}
use mathlib.Core.Bool.{Bool, true, false, ◌&&◌}
use mathlib.Core.Path.{◌≡◌, refl, sym, ap, ◌∙◌}
use mathlib.Core.List.{List}
use lib.Dec.{leb}
use lib.ListN.{replicate}
use Rattle.buffers.specs.Region.{over}
use Rattle.buffers.proofs.Lists.{and_left, and_right}
use Rattle.replay.specs.Line.{read_of}
use Rattle.replay.proofs.Lines.{read_whole}
use Rattle.encoder_replay.specs.declared.run.Answer.{Answer}
use Rattle.encoder_replay.specs.Run.{at, scratch_room, out_room, run_of}
use Rattle.encoder_replay.specs.inner.Room.{Small}
use Rattle.encoder_replay.specs.Record.{differs, counted_at, small_of, place_from, place_of}
use Rattle.encoder_replay.proofs.record.judge.Goals as goal

-- a line that was not read
unread : (line : List ℕ) (t : Bool) → t ≡ (read_of 28 line).whole → t ≡ false → differs ≡ place_of line
unfolding place_from
unread line t e f = rw (← e, f)

-- a line that was, by whether its lengths fit
module _ (line v : List ℕ) (t : Bool) (e : t ≡ (read_of 28 line).whole) (o : v ≡ over (read_of 28 line).list (replicate 28 0)) (f : t ≡ true) where
  large : small_of v ≡ false → differs ≡ place_of line
  unfolding place_from
  large s = rw (read_whole 28 line (replicate 28 0) v t refl e o f, s)

  fitting : small_of v ≡ true → counted_at (run_of v) v ≡ place_of line
  unfolding place_from
  fitting s = rw (read_whole 28 line (replicate 28 0) v t refl e o f, s)

fit : (v : List ℕ) → small_of v ≡ true → Small v
fit v e =
    let p = leb (at v 12) 1024 in
    let w = leb (at v 13) 6144 in
    let c = leb (at v 14) 512 in
    let d = leb (at v 15) 512 in
    let s = leb (at v 16) scratch_room in
    let o = leb (at v 17) out_room in
    let five = and_left (p && w && c && d && s) o e in
    let four = and_left (p && w && c && d) s five in
    let three = and_left (p && w && c) d four in
    let two = and_left (p && w) c three in
    record {
      patches = leb-true _ _ (and_left p w two);
      weights = leb-true _ _ (and_right p w two);
      cos = leb-true _ _ (and_right (p && w) c three);
      sin = leb-true _ _ (and_right (p && w && c) d four);
      scratch = leb-true _ _ (and_right (p && w && c && d) s five);
      out = leb-true _ _ (and_right (p && w && c && d && s) o e);
    }

pub returns-then-not-read_line : goal.returns-then-not-read_line
returns-then-not-read_line c =
    let e = c.bad.ensures in
    (e ∙ unread _ _ c.read_line.ensures.whole (c.if-not-read_line.true), rw e (omega arith))

pub returns-then-not-small : goal.returns-then-not-small
returns-then-not-small c =
    let e = c.bad-then-not-small.ensures in
    let g : small_of c.read_line.new.to ≡ false = sym c.small.ensures ∙ c.if-not-small.true in
    (e ∙ large _ _ _ c.read_line.ensures.whole c.read_line.ensures.output (c.if-not-read_line.false) g, rw e (omega arith))

pub run-a-requires : goal.run-a-requires
run-a-requires c =
    let small : small_of c.read_line.new.to ≡ true = sym c.small.ensures ∙ c.if-not-small.false in
    fit _ (small)

pub returns : goal.returns
returns c =
    let small : small_of c.read_line.new.to ≡ true = sym c.small.ensures ∙ c.if-not-small.false in
    let v = c.read_line.new.to in (
      c.place_of-i.ensures.0
          ∙ ap (λ (x : Answer). counted_at x v) c.run-a.ensures
          ∙ fitting _ v _ c.read_line.ensures.whole c.read_line.ensures.output (c.if-not-read_line.false) (small),
      c.place_of-i.ensures.1,
    )
