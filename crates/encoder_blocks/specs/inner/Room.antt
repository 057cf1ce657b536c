-- Whether what the layers are handed fits. Assumes nothing.
use Rattle.std.specs.Prelude.{Bool, ◌&&◌, ℕ, ◌+◌, ◌*◌, ◌/◌, ◌%◌, leb, ltb, eqb, length}
use Rattle.buffers.specs.inner.Room.{inside}
use Rattle.encoder_blocks.specs.declared.Sizes.{Sizes}
use Rattle.encoder_settings.specs.declared.Tables.{Tables}
use Rattle.encoder_settings.specs.declared.Tables.TheVariants.{Full, Axes}
use Rattle.encoder_settings.specs.declared.Attention.{Attention}
use Rattle.encoder_settings.specs.declared.Attention.TheVariants.{RowWise, Plain}
use Rattle.encoder_settings.specs.Weights.{floats}
use Rattle.encoder_blocks.specs.Block.{n_of, m_of, parts_of}

-- no product of the sizes is large, and the heads make up the hidden size, in widths of four quarters
unfoldable pub sizes_fit : Sizes → Bool
sizes_fit z =
    leb z.head_dim 256 && (leb z.side 2048 && (leb z.grid_w z.side && (inside 2048 0 (z.heads * z.head_dim)
    && (((eqb (z.head_dim % 4) 0 && eqb (z.heads * z.head_dim) z.hidden) && leb z.tokens (z.side * z.grid_w))
    && (leb z.inter 8192 && ltb 0 z.grid_w)))))

-- cosines and sines have the lengths of full tables, or those of rows and those of columns have theirs
abbrev pub tables_fit : Sizes → Tables → Bool
tables_fit z (Full cos sin) = let n = z.side * z.side * z.head_dim in eqb (length cos.now) n && eqb (length sin.now) n
tables_fit z (Axes row_cos row_sin column_cos column_sin) =
    let n = z.side * (z.head_dim / 4) in
    (eqb (length row_cos.now) n && eqb (length row_sin.now) n) && (eqb (length column_cos.now) n && eqb (length column_sin.now) n)

-- the score row, or the plain attention's matrix of scores
abbrev pub score_floats : Attention → Sizes → ℕ
score_floats RowWise z = z.tokens
score_floats Plain z = z.tokens * z.tokens

-- tables, scratch and weights are long enough
unfoldable pub lengths_fit : Attention → Sizes → ℕ → ℕ → Tables → ℕ → ℕ → Bool
lengths_fit f z lens lenw tables row count =
    (tables_fit z tables
    && ((leb (7 * n_of z + 2 * m_of z) row && inside lens row (score_floats f z)) && leb z.hidden lens))
    && inside lenw 0 (count * floats (parts_of z))

unfoldable pub layers_fit : Attention → Sizes → ℕ → ℕ → Tables → ℕ → ℕ → Bool
layers_fit f z lens lenw tables row count = sizes_fit z && lengths_fit f z lens lenw tables row count
