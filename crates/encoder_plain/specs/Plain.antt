-- Attention in the source's form (2026-11), to be held beside the loops of `pixtral_attention_forward`: for each head the full matrix
-- of scores, softened row by row, then the weighted sums of each query; head after head. Assumes nothing.
use Rattle.std.specs.Prelude.{List, ℕ, zero, suc, ◌+◌, ◌*◌, get_or, Float}
use Rattle.std.specs.Float.{nan, binary32}
use Rattle.std.specs.Float.Ieee.{mul}
use Rattle.number_floats.specs.Constants.{zero32}
use Rattle.buffers.specs.Rows.{tab, rows, grid}
use Rattle.buffers.specs.Region.{region, put_rows}
use Rattle.encoder_linear.specs.Linear.{sum_of}
use Rattle.encoder_softmax.specs.Softmax.{softmax_of}

-- softmax per row, of a matrix of num_tokens rows
unfoldable pub soft_rows : ℕ → List Float → List Float
soft_rows num-tokens m = rows num-tokens (λ qi. softmax_of num-tokens (region m (qi * num-tokens) num-tokens))

module _ (num-tokens num-heads head-dim : ℕ) where
  -- the floats of all tokens; where head h's part of token i begins
  abbrev pub floats : ℕ
  floats = num-tokens * (num-heads * head-dim)

  abbrev pub off : ℕ → ℕ → ℕ
  off i h = i * (num-heads * head-dim) + h * head-dim

  module _ (scaling : Float) (q k : List Float) where
    -- scores[qi * num_tokens + ki] of head h: the dot product from +0 upward, and then times the scaling
    abbrev pub score : ℕ → ℕ → ℕ → Float
    score h qi ki = mul binary32 (sum_of head-dim (λ d. mul binary32 (get_or q (off qi h + d) nan) (get_or k (off ki h + d) nan))) scaling

    unfoldable pub scores : ℕ → List Float
    scores h = grid num-tokens num-tokens (score h)

  -- the weighted sums of query qi in head h, by row qi of the matrix p
  unfoldable pub sums : List Float → List Float → ℕ → ℕ → List Float
  sums v p h qi = tab head-dim (λ d. sum_of num-tokens (λ vi. mul binary32 (get_or p (qi * num-tokens + vi) nan) (get_or v (off vi h + d) nan)))

  module _ (scaling : Float) (q k v : List Float) where
    -- attn_output after the first n heads: +0 all over, and then each query's sums of head after head in their places
    unfoldable pub attn_output : ℕ → List Float
    attn_output zero = tab floats (λ _. zero32)
    attn_output (suc h) = put_rows (attn_output h) num-tokens (λ qi. off qi h) (sums v (soft_rows num-tokens (scores scaling q k h)) h)

  -- every scaled score, head after head
  unfoldable pub all_scores : Float → List Float → List Float → List Float
  all_scores scaling q k = rows num-heads (scores scaling q k)

  -- the attention's sums
  abbrev pub plain_of : Float → List Float → List Float → List Float → List Float
  plain_of scaling q k v = attn_output scaling q k v num-heads
