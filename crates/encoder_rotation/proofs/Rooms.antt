-- Laws of what fits: a test that passes gives what the inner functions ask, and what they ask passes the test.
-- Assumes nothing.
use mathlib.Core.Bool.{true, ◌&&◌}
use mathlib.Core.Path.{◌≡◌, sym, subst}
use Prim.Native.Nat.{ℕ, ◌+◌, ◌*◌, ◌/◌, ◌%◌, ◌≤◌}
use native.Mathlib.Omega.{arith}
use borrow.Author.Tests.{ltb-true, leb-true, eqb-true, lt-ltb, le-leb, eq-eqb}
use lib.Dec.{leb, ltb, eqb}
use Rattle.buffers.specs.inner.Room.{inside}
use Rattle.buffers.proofs.Rooms.{and_parts, two}
use Rattle.encoder_rotation.specs.inner.Room.{places_fit, rotate_fits, axes_fit}
use Rattle.encoder_rotation.specs.inner.Fits.{PlacesFit, RotateFits, AxesFits, AxesIn}

module _ {lens x tokens heads half gw side : ℕ} where
  pub places-says : places_fit lens x tokens heads half gw side ≡ true → PlacesFit lens x tokens heads half gw side
  unfolding places_fit
  places-says h =
      let dim = heads * (half + half) in
      let grid = ltb 0 gw && leb tokens (side * gw) in
      let rest = inside lens x (tokens * dim) && grid in
      let a = and_parts (leb half 128) (leb side 2048 && (leb gw side && (inside lens 0 dim && rest))) h in
      let b = and_parts (leb side 2048) (leb gw side && (inside lens 0 dim && rest)) a.1 in
      let c = and_parts (leb gw side) (inside lens 0 dim && rest) b.1 in
      let d = and_parts (inside lens 0 dim) rest c.1 in
      let e = and_parts (inside lens x (tokens * dim)) grid d.1 in
      let f = and_parts (ltb 0 gw) (leb tokens (side * gw)) e.1 in
      let dimin = leb-true (0 + dim) lens d.0 in
      record {
        narrow = leb-true half 128 a.0;
        tables = leb-true side 2048 b.0;
        dimin = omega arith;
        xin = leb-true (x + tokens * dim) lens e.0;
        some = ltb-true 0 gw f.0;
        wide = leb-true gw side c.0;
        high = leb-true tokens (side * gw) f.1;
      }

  pub places-fit : PlacesFit lens x tokens heads half gw side → places_fit lens x tokens heads half gw side ≡ true
  unfolding places_fit
  places-fit f =
      let dim = heads * (half + half) in
      let dimin : 0 + heads * (half + half) ≤ lens = omega (arith, f.dimin) in
      two (le-leb half 128 f.narrow) (two (le-leb side 2048 f.tables) (two (le-leb gw side f.wide) (two (le-leb (0 + dim) lens dimin)
      (two (le-leb (x + tokens * dim) lens f.xin) (two (lt-ltb 0 gw f.some) (le-leb tokens (side * gw) f.high))))))

module _ {lens lenc lenn x tokens heads half gw side : ℕ} where
  pub rotate-says : rotate_fits lens lenc lenn x tokens heads half gw side ≡ true → RotateFits lens lenc lenn x tokens heads half gw side
  unfolding rotate_fits
  rotate-says h =
      let table = side * side * (half + half) in
      let a = and_parts (places_fit lens x tokens heads half gw side) (eqb lenc table && eqb lenn table) h in
      let b = and_parts (eqb lenc table) (eqb lenn table) a.1 in
      record { places = places-says a.0; cin = eqb-true lenc table b.0; sin' = eqb-true lenn table b.1 }

  pub rotate-fits : RotateFits lens lenc lenn x tokens heads half gw side → rotate_fits lens lenc lenn x tokens heads half gw side ≡ true
  unfolding rotate_fits
  rotate-fits f =
      let table = side * side * (half + half) in
      two (places-fit f.places) (two (eq-eqb lenc table f.cin) (eq-eqb lenn table f.sin'))

module _ {lens rc rs cc cs x tokens heads half gw side : ℕ} where
  pub axes-says : axes_fit lens rc rs cc cs x tokens heads half gw side ≡ true → AxesFits lens rc rs cc cs x tokens heads half gw side
  unfolding axes_fit
  axes-says h =
      let n = side * (half / 2) in
      let E = eqb (half % 2) 0 in
      let T = (eqb rc n && eqb rs n) && (eqb cc n && eqb cs n) in
      let p = and_parts (places_fit lens x tokens heads half gw side) (E && T) h in
      let a = and_parts E T p.1 in
      let b = and_parts (eqb rc n && eqb rs n) (eqb cc n && eqb cs n) a.1 in
      let d = and_parts (eqb rc n) (eqb rs n) b.0 in
      let e = and_parts (eqb cc n) (eqb cs n) b.1 in
      record {
        places = places-says p.0;
        even = eqb-true (half % 2) 0 a.0;
        rows-cos = eqb-true rc n d.0;
        rows-sin = eqb-true rs n d.1;
        columns-cos = eqb-true cc n e.0;
        columns-sin = eqb-true cs n e.1;
      }

  pub axes-fit : AxesFits lens rc rs cc cs x tokens heads half gw side → axes_fit lens rc rs cc cs x tokens heads half gw side ≡ true
  unfolding axes_fit
  axes-fit f =
      let n = side * (half / 2) in
      two (places-fit f.places)
      (two (eq-eqb (half % 2) 0 f.even) (two (two (eq-eqb rc n f.rows-cos) (eq-eqb rs n f.rows-sin)) (two (eq-eqb cc n f.columns-cos) (eq-eqb cs n f.columns-sin))))

  -- two quarters are a half
  pub quarters : AxesFits lens rc rs cc cs x tokens heads half gw side → half / 2 + half / 2 ≡ half
  quarters f = omega (arith, f.even)

  pub axes-in : AxesFits lens rc rs cc cs x tokens heads half gw side → AxesIn lens rc rs cc cs x tokens heads (half / 2) gw side
  axes-in f =
      record {
        places = subst (λ (k : ℕ). PlacesFit lens x tokens heads k gw side) (sym (quarters f)) f.places;
        rows-cos = f.rows-cos;
        rows-sin = f.rows-sin;
        columns-cos = f.columns-cos;
        columns-sin = f.columns-sin;
      }
