-- What the loops of restore write by g, which spots the byte of a sample in a channel, and where it can be written. Assumes nothing.
use Rattle.std.specs.Prelude.{List, ℕ, ◌+◌, ◌*◌, ◌/◌, ◌%◌, ◌≤◌, ◌<◌, get_or, Float}
use Rattle.std.specs.Float.{nan}
use Rattle.buffers.specs.Rows.{tab, rows}
use Rattle.picture_limits.specs.Places.{patch_floats, sample_place}

-- the bytes of n samples of channel c from `from` on; and of a patch with n samples in each channel, as they lie
abbrev pub run_by : (ℕ → Float → ℕ) → ℕ → ℕ → List Float → ℕ → List ℕ
run_by g c n l from = tab n (λ k. g c (get_or l (from + k) nan))

abbrev pub patch_by : (ℕ → Float → ℕ) → ℕ → List Float → ℕ → List ℕ
patch_by g n l from = rows 3 (λ c. run_by g c n l (from + c * n))

-- n pixels of bytes s, the first of which has its three m apart from `from` on
abbrev pub pixels_of : List ℕ → ℕ → ℕ → ℕ → List ℕ
pixels_of s m n from = rows n (λ j. tab 3 (λ c. get_or s (from + j + c * m) 0))

-- the first n pixels of row i of the patch from `from` on; of row i of the patches side by side from `from` on; and of row y
-- of the picture
abbrev pub piece_by : (ℕ → Float → ℕ) → ℕ → ℕ → List Float → ℕ → ℕ → List ℕ
piece_by g p n l from i = rows n (λ j. tab 3 (λ c. g c (get_or l (from + c * (p * p) + (i * p + j)) nan)))

abbrev pub line_by : (ℕ → Float → ℕ) → ℕ → ℕ → List Float → ℕ → ℕ → List ℕ
line_by g p n l from i = rows n (λ x. tab 3 (λ c. g c (get_or l (from + x / p * patch_floats p + c * (p * p) + (i * p + x % p)) nan)))

abbrev pub row_by : (ℕ → Float → ℕ) → ℕ → ℕ → ℕ → List Float → ℕ → List ℕ
row_by g p gw n l y = rows n (λ x. tab 3 (λ c. g c (get_or l (sample_place p gw y x c) nan)))

-- where the first `tall` rows of a patch can be written, `wide` pixels of each
pub record Piece (p tall wide at stride room : ℕ) : Type 0 where
  pub patch-high : p ≤ 32
  pub rows-high : tall ≤ p
  pub columns-high : wide ≤ p
  pub space : (i : ℕ) → i < tall → at + i * stride + wide * 3 ≤ room

-- and those of the patches side by side from `from` on: their samples are there, and rows do not overlap
pub record Line (p from tall wide at stride len room : ℕ) : Type 0 where
  pub patch-low : 0 < p
  pub patch-high : p ≤ 32
  pub rows-low : 0 < tall
  pub rows-high : tall ≤ p
  pub samples : (b : ℕ) → b * p < wide → from + b * patch_floats p + patch_floats p ≤ len
  pub apart : wide * 3 ≤ stride
  pub space : (i : ℕ) → i < tall → at + i * stride + wide * 3 ≤ room

-- where `tall` rows of `wide` pixels can be written, of patches of side p, gw of them side by side: their samples are there,
-- rows do not overlap, and there is room for each
pub record Rows (p gw tall wide at stride len room : ℕ) : Type 0 where
  pub patch-low : 0 < p
  pub patch-high : p ≤ 32
  pub grid-high : gw ≤ 2048
  pub columns : wide ≤ gw * p
  pub samples : (y : ℕ) → y < tall → y / p * (gw * patch_floats p) + gw * patch_floats p ≤ len
  pub apart : wide * 3 ≤ stride
  pub space : (y : ℕ) → y < tall → at + y * stride + wide * 3 ≤ room
