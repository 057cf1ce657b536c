-- Attention: each query's scores over all keys, softened, weigh the values. The Rust runs head by head and in each query by
-- query, here each query runs its heads; no two of these touch. Assumes nothing.
use Rattle.std.specs.Prelude.{List, ℕ, ◌+◌, ◌*◌, Float}
use Rattle.std.specs.Float.{binary32}
use Rattle.std.specs.Float.Ieee.{mul}
use Rattle.buffers.specs.Rows.{tab, rows}
use Rattle.buffers.specs.Region.{region}
use Rattle.encoder_linear.specs.Linear.{dot_of, weighed_row}
use Rattle.encoder_softmax.specs.Softmax.{softmax_of}

-- the dot product of the query with key j's part at o, for each of t keys of dim, times the scaling
unfoldable pub score_row : ℕ → ℕ → ℕ → ℕ → Float → List Float → List Float → List Float
score_row t dim hd o scaling q k = tab t (λ j. mul binary32 (dot_of q (region k (j * dim + o) hd)) scaling)

-- the scores of query i in the head at o
abbrev pub head_scores : ℕ → ℕ → ℕ → Float → List Float → List Float → ℕ → ℕ → List Float
head_scores t dim hd scaling q k i o = score_row t dim hd o scaling (region q (i * dim + o) hd) k

-- the sums of query i in the head at o
abbrev pub head_sums : ℕ → ℕ → ℕ → Float → List Float → List Float → List Float → ℕ → ℕ → List Float
head_sums t dim hd scaling q k v i o = weighed_row t dim hd o (softmax_of t (head_scores t dim hd scaling q k i o)) v

unfoldable pub token_scores : ℕ → ℕ → ℕ → Float → List Float → List Float → ℕ → List Float
token_scores t heads hd scaling q k i = rows heads (λ h. head_scores t (heads * hd) hd scaling q k i (h * hd))

unfoldable pub token_sums : ℕ → ℕ → ℕ → Float → List Float → List Float → List Float → ℕ → List Float
token_sums t heads hd scaling q k v i = rows heads (λ h. head_sums t (heads * hd) hd scaling q k v i (h * hd))

-- every scaled score: of each query, of each head, over each key
unfoldable pub scores_of : ℕ → ℕ → ℕ → Float → List Float → List Float → List Float
scores_of t heads hd scaling q k = rows t (λ i. token_scores t heads hd scaling q k i)

-- the attention's sums: t rows of heads * hd
unfoldable pub attention_of : ℕ → ℕ → ℕ → Float → List Float → List Float → List Float → List Float
attention_of t heads hd scaling q k v = rows t (λ i. token_sums t heads hd scaling q k v i)
