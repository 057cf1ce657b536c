-- `encoder_rotation::places::Places::places_fit` meets its contract. Assumes nothing.
use Rattle.encoder_rotation.specs.inner.Room.{places_fit}
use borrow.Author.Tests.{le-leb, lt-leb}
use Rattle.encoder_rotation.proofs.places.Places.places_fit.Goals as goal

pub returns-then-self-gt128 : goal.returns-then-self-gt128
unfolding places_fit
returns-then-self-gt128 c = simp (lt-leb c.args.self.half 128 c.if-self-gt128.true)

pub returns-then-self-gt2048 : goal.returns-then-self-gt2048
unfolding places_fit
returns-then-self-gt2048 c = simp (le-leb c.args.self.half 128 c.if-self-gt128.false, lt-leb c.args.self.side 2048 c.if-self-gt2048.true)

pub returns-then-self : goal.returns-then-self
unfolding places_fit
returns-then-self c = simp (le-leb c.args.self.half 128 c.if-self-gt128.false, le-leb c.args.self.side 2048 c.if-self-gt2048.false, lt-leb c.args.self.gw c.args.self.side c.if-self.true)

pub returns-then-rows_inside : goal.returns-then-rows_inside
unfolding places_fit
returns-then-rows_inside c =
    rw (
      le-leb c.args.self.half 128 c.if-self-gt128.false,
      le-leb c.args.self.side 2048 c.if-self-gt2048.false,
      le-leb c.args.self.gw c.args.self.side c.if-self.false,
      ← c.rows_inside.ensures,
      c.if-rows_inside.true,
      c.rows_inside-rows.ensures,
    )

pub returns : goal.returns
unfolding places_fit
returns c =
    rw (
      le-leb c.args.self.half 128 c.if-self-gt128.false,
      le-leb c.args.self.side 2048 c.if-self-gt2048.false,
      le-leb c.args.self.gw c.args.self.side c.if-self.false,
      ← c.rows_inside.ensures,
      c.if-rows_inside.false,
    )
