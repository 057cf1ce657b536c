-- What an accepted salvage says of the samples that it was handed, for every allowed choice of settings, means and deviations.
-- Three statements; proofs/Saved.antt proves them. Assumes nothing.
use Rattle.std.specs.Prelude.{◌≡◌, true, false, List, ℕ, ◌+◌, ◌*◌, ◌/◌, ◌%◌, ◌<◌, length, get_or, Float, Ok, Err}
use Rattle.std.specs.Float.{binary32}
use Rattle.std.specs.Float.Ieee.{of_bits}
use Rattle.buffers.specs.Rows.{tab, count}
use Rattle.buffers.specs.Region.{region}
use Rattle.buffers.specs.Lent.{Words}
use Rattle.picture_limits.specs.declared.PictureSettings.{PictureSettings}
use Rattle.picture_limits.specs.declared.Refusal.{Refusal}
use Rattle.picture_limits.specs.Places.{patch_floats, sample_place}
use Rattle.picture_samples.specs.Samples.{pattern_of}
use Rattle.picture_restore.specs.Restore.{restored, bytes_of}
use Rattle.picture_salvage.specs.Salvage.{bits_of, bad, entry_of, listed, saved_from, salvaged}

-- ---- 1. None is bad exactly when restore accepts the same samples, and then the bytes agree

-- the floats that the patterns are; every pattern of a NaN is the NaN
abbrev pub floats_of : List ℕ → List Float
floats_of l = tab (length l) (λ i. of_bits binary32 (bits_of l i))

-- n were bad: restore has the same answer where n is 0, and refuses with 8 where it is not
pub record Agreed (s : PictureSettings) (l : List ℕ) (gh gw room h w n : ℕ) : Type 0 where
  pub accepts : n ≡ 0 → restored s (floats_of l) gh gw room ≡ Ok (record { height = h; width = w })
  pub bytes : n ≡ 0 → saved_from (pattern_of s) s.patch_size l gh gw ≡ bytes_of s (floats_of l) gh gw
  pub refuses : 0 < n → restored s (floats_of l) gh gw room ≡ Err Refusal.Sample

abbrev pub Agree : Type 0
Agree = (s : PictureSettings) (l : List ℕ) (gh gw room space h w n : ℕ) → Words l
    → salvaged s l gh gw room space ≡ Ok (record { height = h; width = w; bad = n })
    → Agreed s l gh gw room h w n

-- ---- 2. A sample that is not bad comes back by restore's formula, and a bad one as byte 0

-- v is what was written of sample i, which is of channel c
pub record Came (s : PictureSettings) (l : List ℕ) (i c v : ℕ) : Type 0 where
  pub byte : bad (pattern_of s) s.patch_size l i ≡ false → v < 256
  pub formula : bad (pattern_of s) s.patch_size l i ≡ false → pattern_of s c v ≡ bits_of l i
  pub lost : bad (pattern_of s) s.patch_size l i ≡ true → v ≡ 0

abbrev pub Back : Type 0
Back = (s : PictureSettings) (l : List ℕ) (gh gw room space h w n : ℕ)
    → salvaged s l gh gw room space ≡ Ok (record { height = h; width = w; bad = n })
    → (y x c : ℕ) → y < h → x < w → c < 3
    → Came s l (sample_place s.patch_size gw y x c) c (get_or (saved_from (pattern_of s) s.patch_size l gh gw) ((y * w + x) * 3 + c) 0)

-- ---- 3. Every bad sample is listed once, in buffer order, and no other is; the count is how many there are

-- entry j is that of the bad sample `at`, before which there are j others
pub record Listing (s : PictureSettings) (l : List ℕ) (j : ℕ) : Type 0 where
  pub at : ℕ
  pub inside : at < length l
  pub bad-one : bad (pattern_of s) s.patch_size l at ≡ true
  pub before : count at (bad (pattern_of s) s.patch_size l) ≡ j
  pub entry : region (listed (pattern_of s) s.patch_size l) (j * 3) 3 ≡ entry_of s.patch_size l at

pub record Listed (s : PictureSettings) (l : List ℕ) (n : ℕ) : Type 0 where
  pub counted : n ≡ count (length l) (bad (pattern_of s) s.patch_size l)
  pub long : length (listed (pattern_of s) s.patch_size l) ≡ n * 3
  -- each bad sample has one of the n entries, a later one a later entry
  pub each : (i : ℕ) → i < length l → bad (pattern_of s) s.patch_size l i ≡ true → count i (bad (pattern_of s) s.patch_size l) < n
  pub order : (i j : ℕ) → i < j → bad (pattern_of s) s.patch_size l i ≡ true → count i (bad (pattern_of s) s.patch_size l) < count j (bad (pattern_of s) s.patch_size l)
  -- and each entry is of one
  pub only : (j : ℕ) → j < n → Listing s l j
  -- patch and place of an entry are the sample's
  pub place : (i : ℕ) → i / patch_floats s.patch_size * patch_floats s.patch_size + i % patch_floats s.patch_size ≡ i
  pub in-patch : (i : ℕ) → i % patch_floats s.patch_size < patch_floats s.patch_size

abbrev pub List-says : Type 0
List-says = (s : PictureSettings) (l : List ℕ) (gh gw room space h w n : ℕ)
    → salvaged s l gh gw room space ≡ Ok (record { height = h; width = w; bad = n })
    → Listed s l n
