-- `encoder_rotation::places::Places::axes_fit` meets its contract. Assumes nothing.
use mathlib.Core.Path.{sym, ◌∙◌}
use Prim.Native.Nat.{◌*◌, ◌/◌, ◌≤◌}
use native.Mathlib.Nat.{mul-le-mul}
use native.Mathlib.Omega.{arith}
use Rattle.encoder_rotation.specs.inner.Room.{axes_fit}
use Rattle.encoder_rotation.proofs.Rooms.{places-says}
use Rattle.encoder_rotation.proofs.places.Places.axes_fit.Goals as goal

pub overflow_mul-n : goal.overflow_mul-n
overflow_mul-n c =
    let f = places-says (sym c.places_fit.ensures ∙ c.if-places_fit.true) in
    let q : c.args.self.half / 2 ≤ 64 = omega (arith, f.narrow) in
    let h : c.args.self.side * (c.args.self.half / 2) ≤ 131072 = mul-le-mul f.tables q in
    omega arith

pub returns-then-places_fit : goal.returns-then-places_fit
unfolding axes_fit
returns-then-places_fit c = rw (← c.places_fit.ensures, c.if-places_fit.true)

pub returns : goal.returns
unfolding axes_fit
returns c = rw (← c.places_fit.ensures, c.if-places_fit.false)
