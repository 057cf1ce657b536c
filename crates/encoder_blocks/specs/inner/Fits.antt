-- What the inner functions ask of the places and lengths that they are handed. Assumes nothing.
use Rattle.std.specs.Prelude.{Bool, true, List, ◌≡◌, ℕ, ◌+◌, ◌*◌, ◌/◌, ◌%◌, ◌≤◌, ◌<◌, length, Float}
use Rattle.encoder_blocks.specs.declared.Sizes.{Sizes}
use Rattle.encoder_settings.specs.declared.Tables.{Tables}
use Rattle.encoder_settings.specs.declared.Attention.{Attention}
use Rattle.encoder_settings.specs.Weights.{floats}
use Rattle.encoder_blocks.specs.inner.Room.{tables_fit, score_floats}
use Rattle.buffers.specs.Region.{region}
use Rattle.encoder_kernels.specs.Kernels.{all_finite}
use Rattle.encoder_blocks.specs.Block.{n_of, m_of, parts_of, scored, mixed}
use Rattle.encoder_blocks.specs.inner.Live.{h_at}

-- what a block asks of its shape and of the lengths of scratch and weights
pub record BlockFits (z : Sizes) (lens lenw : ℕ) : Type 0 where
  pub scratch : 7 * n_of z + 2 * m_of z ≤ lens
  pub weights : lenw ≡ floats (parts_of z)
  pub whole : z.heads * z.head_dim ≡ z.hidden
  pub small : z.hidden ≤ 2048
  pub dim_in : z.hidden ≤ lens

-- what the attention asks of sizes and scratch
pub record AttendAt (z : Sizes) (lens : ℕ) : Type 0 where
  pub scratch : 7 * n_of z + 2 * m_of z ≤ lens
  pub whole : z.heads * z.head_dim ≡ z.hidden
  pub dim_in : z.hidden ≤ lens

-- the score row, or the matrix of scores, lies behind the block's regions
pub record ScoreRow (f : Attention) (z : Sizes) (lens row : ℕ) : Type 0 where
  pub behind : 7 * n_of z + 2 * m_of z ≤ row
  pub inside : row + score_floats f z ≤ lens

-- what the rotation asks of the tables
pub record RotationFits (z : Sizes) (lens : ℕ) (lent : Tables) : Type 0 where
  pub scratch : 7 * n_of z + 2 * m_of z ≤ lens
  pub whole : z.heads * z.head_dim ≡ z.hidden
  pub fourth : z.head_dim % 4 ≡ 0
  pub small : z.hidden ≤ 2048
  pub narrow : z.head_dim ≤ 256
  pub dim_in : z.hidden ≤ lens
  pub tables : z.side ≤ 2048
  pub some : 0 < z.grid_w
  pub wide : z.grid_w ≤ z.side
  pub high : z.tokens ≤ z.side * z.grid_w
  pub lengths : tables_fit z lent ≡ true

-- count layers
pub record LayersFits (f : Attention) (z : Sizes) (lens lenw : ℕ) (lent : Tables) (row count : ℕ) : Type 0 where
  pub weights : count * floats (parts_of z) ≤ lenw
  pub inner : z.inter ≤ 8192
  pub rotation : RotationFits z lens lent
  pub scores : ScoreRow f z lens row

-- what the first of the tests of `Room.antt` says
pub record SizesFit (z : Sizes) : Type 0 where
  pub whole : z.heads * z.head_dim ≡ z.hidden
  pub fourth : z.head_dim % 4 ≡ 0
  pub narrow : z.head_dim ≤ 256
  pub small : z.hidden ≤ 2048
  pub tables : z.side ≤ 2048
  pub some : 0 < z.grid_w
  pub wide : z.grid_w ≤ z.side
  pub high : z.tokens ≤ z.side * z.grid_w
  pub inner : z.inter ≤ 8192

-- and the products of such sizes
pub record Products (z : Sizes) : Type 0 where
  pub tokens : z.tokens ≤ 4194304
  pub matrix : z.tokens * z.tokens ≤ 17592186044416
  pub small : z.hidden ≤ 2048
  pub grid : z.side * z.side ≤ 4194304
  pub axis : z.side * (z.head_dim / 4) ≤ 131072
  pub table : z.side * z.side * z.head_dim ≤ 1073741824
  pub hiddens : n_of z ≤ 8589934592
  pub inners : m_of z ≤ 34359738368
  pub squares : z.hidden * z.hidden ≤ 4194304
  pub inner : z.inter * z.hidden ≤ 16777216
  pub outer : z.hidden * z.inter ≤ 16777216

-- what the attention leaves of what lives on: whether its scaled scores are finite, its sums, and h
pub record Attended (z : Sizes) (s t : List Float) (r : Bool) : Type 0 where
  pub finite-is : r ≡ all_finite (scored z (region s (2 * n_of z) (n_of z)) (region s (3 * n_of z) (n_of z)))
  pub sums : region t (5 * n_of z) (n_of z) ≡ mixed z (region s (2 * n_of z) (n_of z)) (region s (3 * n_of z) (n_of z)) (region s (4 * n_of z) (n_of z))
  pub h-is : h_at z t ≡ h_at z s
  pub same : length t ≡ length s
