-- What the functions inside write. Assumes nothing.
use Rattle.std.specs.Prelude.{◌≡◌, false, List, ℕ, ◌+◌, ◌≤◌, ◌<◌, length}
use Rattle.buffers.specs.Region.{put}
use Rattle.json_members.specs.Names.{Entry}
use Rattle.encoder_settings.specs.declared.EncoderSettings.{EncoderSettings}
use Rattle.encoder_settings.specs.Settings.{weight_floats}
use Rattle.tensor_values.specs.declared.Kind.{Kind}
use Rattle.tensor_values.specs.Values.{values_of}
use Rattle.tensor_header.specs.Tensors.{tensors, entry_at, count_at}
use Rattle.weights.specs.File.{Found, found_in, is_damaged, is_other, is_misplaced, floats_in, weights_in, judged, left_by}
use Rattle.weights.specs.inner.Described.{Kept, summary, Holds}
use Rattle.weights.specs.File.{Weighed}

pub record PutsOne (k : Kind) (bytes : List ℕ) (at count : ℕ) (before after : List ℕ) : Type 0 where
  pub is : length (values_of k bytes) ≡ count → at + count ≤ length before → after ≡ put before at (values_of k bytes)

-- a tensor that passes every test
pub record Good (bytes count : ℕ) (f : Found) : Type 0 where
  pub damaged : is_damaged f ≡ false
  pub other : is_other count f ≡ false
  pub misplaced : is_misplaced bytes count f ≡ false

pub record Fills (d : Kept) (bytes : List ℕ) (at count : ℕ) (before after : List ℕ) : Type 0 where
  pub is : (f : Found) → d ≡ summary f → Good (length bytes) count f → at + count ≤ length before → after ≡ put before at (floats_in bytes f)

-- every tensor passes every test
abbrev pub AllGood : EncoderSettings → List Entry → ℕ → Type 0
AllGood s es bytes = (i : ℕ) → i < length (tensors s) → Good bytes (count_at (tensors s) i) (found_in (entry_at (tensors s) es i))

pub record FillsAll (s : EncoderSettings) (h bytes places before after : List ℕ) : Type 0 where
  pub is : (es : List Entry) → Holds s h places es → AllGood s es (length bytes) → weight_floats s ≤ length before → after ≡ put before 0 (weights_in s es bytes)

-- by a header h, whose entries es stand at the places, and the data behind it
pub record Reads (s : EncoderSettings) (h bytes places before after : List ℕ) (r : Weighed) : Type 0 where
  pub is : (es : List Entry) → Holds s h places es → (r ≡ judged s h es (length bytes) (length before)) × (after ≡ left_by (judged s h es (length bytes) (length before)) (weights_in s es bytes) before)
