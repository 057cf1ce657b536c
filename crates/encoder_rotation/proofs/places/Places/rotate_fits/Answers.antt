-- `encoder_rotation::places::Places::rotate_fits` meets its contract. Assumes nothing.
use mathlib.Core.Path.{sym, ◌∙◌}
use Prim.Native.Nat.{◌+◌, ◌*◌, ◌≤◌}
use native.Mathlib.Nat.{mul-le-mul}
use native.Mathlib.Omega.{arith}
use Rattle.encoder_rotation.specs.inner.Room.{rotate_fits}
use Rattle.encoder_rotation.proofs.Rooms.{places-says}
use Rattle.encoder_rotation.proofs.places.Places.rotate_fits.Goals as goal

pub overflow_mul-table : goal.overflow_mul-table
overflow_mul-table c =
    let held : (let a = c.args in
    (c.args.self.half ≤ 128) × (c.args.self.side * c.args.self.side ≤ 4194304) × (c.args.self.side * c.args.self.side * (c.args.self.half + c.args.self.half) ≤ 1073741824)) = let f = places-says (sym c.places_fit.ensures ∙ c.if-places_fit.true) in
    let a = c.args in
    let h : c.args.self.half + c.args.self.half ≤ 256 = omega (arith, f.narrow) in
    let t : c.args.self.side * c.args.self.side ≤ 4194304 = mul-le-mul f.tables f.tables in
    (f.narrow, t, mul-le-mul t h) in
    omega (arith, held)

pub overflow_add-table : goal.overflow_add-table
overflow_add-table c =
    let held : (let a = c.args in
    (c.args.self.half ≤ 128) × (c.args.self.side * c.args.self.side ≤ 4194304) × (c.args.self.side * c.args.self.side * (c.args.self.half + c.args.self.half) ≤ 1073741824)) = let f = places-says (sym c.places_fit.ensures ∙ c.if-places_fit.true) in
    let a = c.args in
    let h : c.args.self.half + c.args.self.half ≤ 256 = omega (arith, f.narrow) in
    let t : c.args.self.side * c.args.self.side ≤ 4194304 = mul-le-mul f.tables f.tables in
    (f.narrow, t, mul-le-mul t h) in
    omega (arith, held)

pub overflow_mul-table-then-places_fit : goal.overflow_mul-table-then-places_fit
overflow_mul-table-then-places_fit c =
    let held : (let a = c.args in
    (c.args.self.half ≤ 128) × (c.args.self.side * c.args.self.side ≤ 4194304) × (c.args.self.side * c.args.self.side * (c.args.self.half + c.args.self.half) ≤ 1073741824)) = let f = places-says (sym c.places_fit.ensures ∙ c.if-places_fit.true) in
    let a = c.args in
    let h : c.args.self.half + c.args.self.half ≤ 256 = omega (arith, f.narrow) in
    let t : c.args.self.side * c.args.self.side ≤ 4194304 = mul-le-mul f.tables f.tables in
    (f.narrow, t, mul-le-mul t h) in
    omega (arith, held)

pub returns-then-places_fit : goal.returns-then-places_fit
unfolding rotate_fits
returns-then-places_fit c = rw (← c.places_fit.ensures, c.if-places_fit.true)

pub returns : goal.returns
unfolding rotate_fits
returns c = rw (← c.places_fit.ensures, c.if-places_fit.false)
