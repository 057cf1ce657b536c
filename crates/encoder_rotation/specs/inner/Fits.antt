-- What the inner functions ask of the places and lengths that they are handed. Assumes nothing.
use Rattle.std.specs.Prelude.{◌≡◌, ℕ, ◌+◌, ◌*◌, ◌/◌, ◌%◌, ◌≤◌, ◌<◌}

pub record HeadFits (lens lenc lenn x half : ℕ) : Type 0 where
  pub xin : x + (half + half) ≤ lens
  pub cin : lenc ≡ half + half
  pub sin' : lenn ≡ half + half

pub record TokenFits (lens lenc lenn x heads half : ℕ) : Type 0 where
  pub xin : x + heads * (half + half) ≤ lens
  pub cin : lenc ≡ half + half
  pub sin' : lenn ≡ half + half

-- tokens of a grid gw wide, at x; at most side on a side
pub record PlacesFit (lens x tokens heads half gw side : ℕ) : Type 0 where
  pub narrow : half ≤ 128
  pub tables : side ≤ 2048
  pub dimin : heads * (half + half) ≤ lens
  pub xin : x + tokens * (heads * (half + half)) ≤ lens
  pub some : 0 < gw
  pub wide : gw ≤ side
  pub high : tokens ≤ side * gw

-- by full tables
pub record RotateFits (lens lenc lenn x tokens heads half gw side : ℕ) : Type 0 where
  pub places : PlacesFit lens x tokens heads half gw side
  pub cin : lenc ≡ side * side * (half + half)
  pub sin' : lenn ≡ side * side * (half + half)

-- a row of two quarters of one length, twice
pub record BuildFits (lent lenr lenc : ℕ) : Type 0 where
  pub same : lenc ≡ lenr
  pub room : lenr + lenr + (lenr + lenr) ≤ lent

-- one token by the quarters of its row: cosines and sines of its row, and of its column
pub record QuartersFit (lens rc rs cc cs x heads q : ℕ) : Type 0 where
  pub narrow : q ≤ 64
  pub xin : x + heads * (q + q + (q + q)) ≤ lens
  pub rows-cos : rc ≡ q
  pub rows-sin : rs ≡ q
  pub columns-cos : cc ≡ q
  pub columns-sin : cs ≡ q

-- by tables of rows and of columns
pub record AxesFits (lens rc rs cc cs x tokens heads half gw side : ℕ) : Type 0 where
  pub places : PlacesFit lens x tokens heads half gw side
  pub even : half % 2 ≡ 0
  pub rows-cos : rc ≡ side * (half / 2)
  pub rows-sin : rs ≡ side * (half / 2)
  pub columns-cos : cc ≡ side * (half / 2)
  pub columns-sin : cs ≡ side * (half / 2)

-- the same by the quarter q of a head
pub record AxesIn (lens rc rs cc cs x tokens heads q gw side : ℕ) : Type 0 where
  pub places : PlacesFit lens x tokens heads (q + q) gw side
  pub rows-cos : rc ≡ side * q
  pub rows-sin : rs ≡ side * q
  pub columns-cos : cc ≡ side * q
  pub columns-sin : cs ≡ side * q
