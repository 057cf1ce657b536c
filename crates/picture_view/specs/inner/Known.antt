-- Which samples the loops of restore find known: a run of one channel, a patch, and patches; and where the formula tells it.
-- Assumes nothing.
use Rattle.std.specs.Prelude.{◌≡◌, Bool, true, List, ℕ, ◌+◌, ◌*◌, ◌<◌, get_or, eqb, ltb, Float, cond, Option, Some, None}
use Rattle.std.specs.Float.{nan, binary32}
use Rattle.std.specs.Float.Ieee.{to_bits}
use Rattle.buffers.specs.Rows.{all}
use Rattle.picture_samples.specs.Samples.{sample, byte_of, entry}
use Rattle.picture_limits.specs.Places.{patch_floats}
use Rattle.picture_spot.specs.inner.Spot.{guessed}
use Rattle.picture_view.specs.declared.Formula.{Formula}

-- the formula's pattern of byte b
abbrev pub pattern_by : Float → Float → ℕ → ℕ
pattern_by mean deviation b = to_bits binary32 (sample mean deviation b)

-- the table has the formula's patterns in channel c; in each channel, with its own mean and deviation
abbrev pub channel_exact : List ℕ → ℕ → Float → Float → Bool
channel_exact t c mean deviation = all 256 (λ b. eqb (entry t c b) (pattern_by mean deviation b))

unfoldable pub formula_of : List ℕ → List Float → List Float → Option Formula
formula_of t mean deviation = cond (all 3 (λ c. channel_exact t c (get_or mean c nan) (get_or deviation c nan))) (Some (record { mean = mean; deviation = deviation })) None

-- where there is one, the table has its patterns
abbrev pub Exact : List ℕ → Option Formula → Type 0
Exact t None = Unit {0}
Exact t (Some f) = (c b : ℕ) → c < 3 → b < 256 → entry t c b ≡ pattern_by (get_or f.mean c nan) (get_or f.deviation c nan) b

-- each of n samples from `at` on has the formula's pattern of the byte that is guessed of it
unfoldable pub exact_at : Float → Float → Float → Float → Float → Bool
exact_at slope shift mean deviation v = eqb (pattern_by mean deviation (guessed slope shift v)) (to_bits binary32 v)

abbrev pub exact_run : Float → Float → Float → Float → ℕ → List Float → ℕ → Bool
exact_run slope shift mean deviation n l at = all n (λ i. exact_at slope shift mean deviation (get_or l (at + i) nan))

-- by a table k: each of n samples from `at` on has the bits of a byte in channel c
abbrev pub known_run : (ℕ → ℕ → ℕ) → ℕ → List Float → ℕ → ℕ → Bool
known_run k n l at c = all n (λ i. ltb (byte_of k c (to_bits binary32 (get_or l (at + i) nan))) 256)

-- each sample of the patch from `at` on
abbrev pub known_patch : (ℕ → ℕ → ℕ) → ℕ → List Float → ℕ → Bool
known_patch k p l at = all 3 (λ c. known_run k (p * p) l (at + c * (p * p)) c)

-- each sample of n patches
unfoldable pub known_patches : (ℕ → ℕ → ℕ) → ℕ → ℕ → List Float → Bool
known_patches k p n l = all n (λ q. known_patch k p l (q * patch_floats p))
