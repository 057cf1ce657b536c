-- What the loops of salvage find, count, list and write. Assumes nothing.
use Rattle.std.specs.Prelude.{Bool, cond, List, [], ◌∷◌, ℕ, zero, suc, ◌+◌, ◌*◌, ◌/◌, ◌%◌, leb, get_or}
use Rattle.buffers.specs.Rows.{tab, rows, count}
use Rattle.picture_limits.specs.Places.{patch_floats}
use Rattle.picture_samples.specs.Samples.{byte_of}
use Rattle.picture_salvage.specs.Salvage.{saved}

-- by a table k: the bytes of the n samples from `at` on in channel c, 256 of one that has none
abbrev pub found_run : (ℕ → ℕ → ℕ) → List ℕ → ℕ → ℕ → ℕ → List ℕ
found_run k l at c n = tab n (λ i. byte_of k c (get_or l (at + i) 0))

-- none was found at i
abbrev pub none_at : List ℕ → ℕ → Bool
none_at found i = leb 256 (get_or found i 0)

-- sample i from `at` on has no byte in channel c
abbrev pub bad_in : (ℕ → ℕ → ℕ) → List ℕ → ℕ → ℕ → ℕ → Bool
bad_in k l at c i = leb 256 (byte_of k c (get_or l (at + i) 0))

-- how many of m runs of p² samples, run r of channel r mod 3
unfoldable pub bad_run : (ℕ → ℕ → ℕ) → ℕ → List ℕ → ℕ → ℕ
bad_run k p l zero = 0
bad_run k p l (suc m) = bad_run k p l m + count (p * p) (bad_in k l (m * (p * p)) (m % 3))

-- what is listed of a run of n samples from `at` on, those for which f says so; they are of patch q, and the first has place d
-- in the patch
abbrev pub entries_by : (ℕ → Bool) → List ℕ → ℕ → ℕ → ℕ → ℕ → List ℕ
entries_by f l at q d n = rows n (λ i. cond (f i) (q ∷ (d + i) ∷ get_or l (at + i) 0 ∷ []) [])

-- and of m runs of p² samples
abbrev pub all_entries : (ℕ → ℕ → ℕ) → ℕ → List ℕ → ℕ → List ℕ
all_entries k p l m = rows m (λ r. entries_by (bad_in k l (r * (p * p)) (r % 3)) l (r * (p * p)) (r / 3) (r % 3 * (p * p)) (p * p))

-- ---- what is written: a pixel, and n pixels, of what was found; a row of a patch; row i of patches side by side
abbrev pub saved_pixel : ℕ → ℕ → ℕ → List ℕ
saved_pixel r g b = saved r ∷ saved g ∷ saved b ∷ []

abbrev pub saved_pixels : List ℕ → List ℕ → List ℕ → ℕ → List ℕ
saved_pixels r g b n = rows n (λ j. saved_pixel (get_or r j 0) (get_or g j 0) (get_or b j 0))

abbrev pub saved_run : (ℕ → ℕ → ℕ) → ℕ → List ℕ → ℕ → List ℕ
saved_run k p l from = rows p (λ j. tab 3 (λ c. saved (byte_of k c (get_or l (from + j + c * (p * p)) 0))))

abbrev pub saved_line : (ℕ → ℕ → ℕ) → ℕ → ℕ → List ℕ → ℕ → ℕ → List ℕ
saved_line k p gw l from i = rows gw (λ b. saved_run k p l (from + b * patch_floats p + i * p))

-- row after row
abbrev pub saved_rows : (ℕ → ℕ → ℕ) → ℕ → ℕ → List ℕ → ℕ → List ℕ
saved_rows k p gw l n = rows n (λ y. saved_line k p gw l (y / p * (gw * patch_floats p)) (y % p))
