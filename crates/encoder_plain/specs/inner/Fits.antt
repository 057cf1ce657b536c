-- What the inner functions ask of the places and lengths that they are handed: n floats of queries, keys, values and sums, and a
-- matrix of t * t. Assumes nothing.
use Rattle.std.specs.Prelude.{ℕ, ◌+◌, ◌*◌, ◌≤◌}
use Rattle.buffers.specs.inner.Apart.{Apart}

-- queries, keys and the matrix of their scores
pub record ScoresFit (len q k scores t heads hd : ℕ) : Type 0 where
  pub q_in : q + t * (heads * hd) ≤ len
  pub k_in : k + t * (heads * hd) ≤ len
  pub scores_in : scores + t * t ≤ len
  pub dim_in : heads * hd ≤ len
  pub qscores : Apart q (t * (heads * hd)) scores (t * t)
  pub kscores : Apart k (t * (heads * hd)) scores (t * t)

-- values, the matrix of their weights, and the sums
pub record SumsFit (len v scores out t heads hd : ℕ) : Type 0 where
  pub v_in : v + t * (heads * hd) ≤ len
  pub out_in : out + t * (heads * hd) ≤ len
  pub scores_in : scores + t * t ≤ len
  pub dim_in : heads * hd ≤ len
  pub vout : Apart v (t * (heads * hd)) out (t * (heads * hd))
  pub scoresout : Apart scores (t * t) out (t * (heads * hd))

-- all of it
pub record PlainFits (len q k v scores out t heads hd : ℕ) : Type 0 where
  pub keys : ScoresFit len q k scores t heads hd
  pub values : SumsFit len v scores out t heads hd
  pub vscores : Apart v (t * (heads * hd)) scores (t * t)
  pub qout : Apart q (t * (heads * hd)) out (t * (heads * hd))
  pub kout : Apart k (t * (heads * hd)) out (t * (heads * hd))
