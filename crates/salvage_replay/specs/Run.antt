-- What the call of a record answers and leaves. Assumes nothing.
use Rattle.std.specs.Prelude.{Result, Ok, Err, ℕ, ◌+◌, ◌-◌, ◌*◌, ◌/◌, ◌%◌, ◌≤◌, ◌<◌, cond, List, [], ◌∷◌, eqb, leb, ltb, length, get_or, Float}
use Rattle.std.specs.Float.{binary32}
use Rattle.std.specs.Float.Ieee.{of_bits}
use Rattle.buffers.specs.Rows.{tab}
use Rattle.picture_limits.specs.declared.PictureSettings.{PictureSettings}
use Rattle.picture_limits.specs.declared.Refusal.{Refusal}
use Rattle.picture_limits.specs.Refusal as R
use Rattle.picture_samples.specs.Samples.{sample_table}
use Rattle.picture_salvage.specs.declared.Salvaged.{Salvaged}
use Rattle.picture_salvage.specs.Salvage.{salvaged, saved_out, list_out}
use Rattle.salvage_replay.specs.declared.run.Told.{Told}
use Rattle.replay.specs.Hash.{byte_hash, word_hash}
use Rattle.replay.specs.Marks.{seeded, marks, bytes, words}

-- ---- one call

-- the paper's number and sizes of an answer, 0 for every size of a refusal, and hashes of patches, output and list
abbrev pub told_of : Result Salvaged Refusal → ℕ → ℕ → ℕ → Told
told_of (Ok a) p b e = record { patches = p; number = 0; height = a.height; width = a.width; bad = a.bad; bytes = b; entries = e }
told_of (Err r) p b e = record { patches = p; number = R.number r; height = 0; width = 0; bad = 0; bytes = b; entries = e }

unfoldable pub saved_of : PictureSettings → List ℕ → ℕ → ℕ → List ℕ → List ℕ → Told
saved_of s l gh gw out list =
    told_of (salvaged s l gh gw (length out) (length list)) (word_hash l)
    (byte_hash (saved_out s l gh gw (length list) out))
    (word_hash (list_out s l gh gw (length out) list))

-- ---- a record of 31 numbers

-- the cells of a buffer: a patch of 32 × 32 pixels of three samples, and 64 more
abbrev pub room : ℕ
room = 3136

abbrev pub at : List ℕ → ℕ → ℕ
at v k = get_or v k 0

abbrev pub word : ℕ → ℕ
word x = x % 4294967296

-- the float of a pattern
abbrev pub float_of : ℕ → Float
float_of x = of_bits binary32 (word x)

abbrev pub settings_of : List ℕ → PictureSettings
settings_of v =
    record {
      patch_size = at v 0;
      spatial_merge_size = at v 1;
      image_size = at v 2;
      resize_rule = at v 24;
      mean = float_of (at v 25) ∷ float_of (at v 26) ∷ float_of (at v 27) ∷ [];
      deviation = float_of (at v 28) ∷ float_of (at v 29) ∷ float_of (at v 30) ∷ [];
    }

-- what stands at place i, where the bytes have the sample x
unfoldable pub changed : List ℕ → ℕ → ℕ → ℕ
changed v i x =
    cond (eqb i (at v 15)) (word (at v 16))
    (cond (ltb i (at v 10)) x
    (cond (leb (at v 11) i) x
    (cond (eqb ((i - at v 10) % at v 12) 0) (word (word (at v 13) + i * word (at v 14)))
    x)))

-- n samples, by a table and bytes: at v 9 of a channel lie side by side
abbrev pub patches_in : List ℕ → List ℕ → List ℕ → ℕ → List ℕ
patches_in v t b n = tab n (λ i. changed v i (get_or t (i / at v 9 % 3 * 256 + get_or b i 0) 0))

abbrev pub bytes_of : List ℕ → List ℕ
bytes_of v = bytes (seeded (at v 8)) room

abbrev pub patches_of : List ℕ → ℕ → List ℕ
patches_of v n = patches_in v (sample_table (settings_of v).mean (settings_of v).deviation) (bytes_of v) n

-- their salvage, into marked bytes and a marked list
unfoldable pub told_in : List ℕ → Told
told_in v = saved_of (settings_of v) (patches_of v (at v 5)) (at v 3) (at v 4) (bytes marks (at v 6)) (words marks (at v 7))

-- the lengths fit the buffers, and neither divisor is 0
pub record Small (v : List ℕ) : Type 0 where
  pub patches : at v 5 ≤ room
  pub out : at v 6 ≤ room
  pub list : at v 7 ≤ room
  pub side : 0 < at v 9
  pub step : 0 < at v 12
