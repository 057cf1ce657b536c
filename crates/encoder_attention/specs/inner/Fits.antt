-- What the inner functions ask of the places and lengths that they are handed. Assumes nothing.
use Rattle.std.specs.Prelude.{ℕ, ◌+◌, ◌*◌, ◌≤◌, ◌<◌}
use Rattle.buffers.specs.inner.Apart.{Apart}

-- where the t keys of dim stand, and where they are turned
pub record TurnFits (len : ℕ) (k kt t dim : ℕ) : Type 0 where
  pub k_in : k + t * dim ≤ len
  pub kt_in : kt + t * dim ≤ len
  pub apart : Apart k (t * dim) kt (t * dim)

pub record KeyAt (len : ℕ) (k kt t dim j : ℕ) : Type 0 where
  pub fits : TurnFits len k kt t dim
  pub token : j < t

-- n floats at x, to y
pub record CopyFits (len : ℕ) (x y n : ℕ) : Type 0 where
  pub x_in : x + n ≤ len
  pub y_in : y + n ≤ len
  pub apart : Apart x n y n

-- where the t values of dim stand, and where those of the head at o are laid together
pub record GatherFits (len : ℕ) (v g t dim hd o : ℕ) : Type 0 where
  pub v_in : v + t * dim ≤ len
  pub g_in : g + t * hd ≤ len
  pub o_in : o + hd ≤ dim
  pub apart : Apart v (t * dim) g (t * hd)

-- where the queries, the turned keys, m floats of values, the score row and the sums stand
pub record AttendFits (len : ℕ) (q k v m row out t heads hd : ℕ) : Type 0 where
  pub q_in : q + t * (heads * hd) ≤ len
  pub k_in : k + t * (heads * hd) ≤ len
  pub v_in : v + m ≤ len
  pub row_in : row + t ≤ len
  pub out_in : out + t * (heads * hd) ≤ len
  pub dim_in : heads * hd ≤ len
  pub qrow : Apart q (t * (heads * hd)) row t
  pub krow : Apart k (t * (heads * hd)) row t
  pub vrow : Apart v m row t
  pub outrow : Apart out (t * (heads * hd)) row t
  pub qout : Apart q (t * (heads * hd)) out (t * (heads * hd))
  pub kout : Apart k (t * (heads * hd)) out (t * (heads * hd))
  pub vout : Apart v m out (t * (heads * hd))

-- one query of one head, whose values stand at e of each of t rows of w
pub record HeadAt (len : ℕ) (q k v row out t heads hd i h w e : ℕ) : Type 0 where
  pub fits : AttendFits len q k v (t * w) row out t heads hd
  pub token : i < t
  pub head : h < heads
  pub place : e + hd ≤ w

pub record TokenAt (len : ℕ) (q k v row out t heads hd i : ℕ) : Type 0 where
  pub fits : AttendFits len q k v (t * (heads * hd)) row out t heads hd
  pub token : i < t

-- one head, whose values lie together, with a second score row behind the first
pub record QueriesAt (len : ℕ) (q k v row out t heads hd h : ℕ) : Type 0 where
  pub fits : AttendFits len q k v (t * hd) row out t heads hd
  pub head : h < heads
  pub rows_in : row + (t + t) ≤ len
  pub qrows : Apart q (t * (heads * hd)) row (t + t)
  pub krows : Apart k (t * (heads * hd)) row (t + t)
  pub vrows : Apart v (t * hd) row (t + t)
  pub outrows : Apart out (t * (heads * hd)) row (t + t)

-- and two of its queries
pub record PairAt (len : ℕ) (q k v row out t heads hd i h : ℕ) : Type 0 where
  pub queries : QueriesAt len q k v row out t heads hd h
  pub token : i + 1 < t

-- and where the keys stand that are turned there
pub record KeysFit (len : ℕ) (q k v kt row out t heads hd : ℕ) : Type 0 where
  pub turned : AttendFits len q kt v (t * (heads * hd)) row out t heads hd
  pub turn : TurnFits len k kt t (heads * hd)
  pub qkt : Apart q (t * (heads * hd)) kt (t * (heads * hd))
  pub vkt : Apart v (t * (heads * hd)) kt (t * (heads * hd))

-- the same with room at g for the values of one head and for scores
pub record HeadsFit (len : ℕ) (q k v g out t heads hd : ℕ) : Type 0 where
  pub q_in : q + t * (heads * hd) ≤ len
  pub k_in : k + t * (heads * hd) ≤ len
  pub v_in : v + t * (heads * hd) ≤ len
  pub g_in : g + t * (heads * hd) ≤ len
  pub out_in : out + t * (heads * hd) ≤ len
  pub dim_in : heads * hd ≤ len
  pub spare : t * hd + (t + t) ≤ t * (heads * hd)
  pub qg : Apart q (t * (heads * hd)) g (t * (heads * hd))
  pub kg : Apart k (t * (heads * hd)) g (t * (heads * hd))
  pub vg : Apart v (t * (heads * hd)) g (t * (heads * hd))
  pub outg : Apart out (t * (heads * hd)) g (t * (heads * hd))
  pub qout : Apart q (t * (heads * hd)) out (t * (heads * hd))
  pub kout : Apart k (t * (heads * hd)) out (t * (heads * hd))
  pub vout : Apart v (t * (heads * hd)) out (t * (heads * hd))
