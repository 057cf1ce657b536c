-- The bytes of samples by their bits, of restore and of salvage: f i is the pattern of sample i. Assumes nothing.
use Rattle.std.specs.Prelude.{Bool, List, ℕ, ◌*◌, ◌/◌, ◌%◌, ltb}
use Rattle.picture_limits.specs.Places.{picture, sample_place}
use Rattle.picture_samples.specs.Samples.{byte_of}

-- by a table k: sample i of patches of side p has the pattern of a byte in its channel, which is i / p² mod 3
abbrev pub known_at : (ℕ → ℕ → ℕ) → ℕ → (ℕ → ℕ) → ℕ → Bool
known_at k p f i = ltb (byte_of k (i / (p * p) % 3) (f i)) 256

-- b of the byte of each sample (256 where there is none), by row, column and channel
abbrev pub bytes_by : (ℕ → ℕ) → (ℕ → ℕ → ℕ) → ℕ → ℕ → ℕ → (ℕ → ℕ) → List ℕ
bytes_by b k p gh gw f = picture (gh * p) (gw * p) (λ y x c. b (byte_of k c (f (sample_place p gw y x c))))
