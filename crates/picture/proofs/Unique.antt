-- Any two results that satisfy the contract of a public function are equal. Each contract is one equation for the result and one for each lent buffer. Assumes nothing.
use Rattle.std.specs.Prelude.{Result, Ok, Err}
use mathlib.Core.Path.{◌≡◌}
use mathlib.Core.Bool.{Bool}
use mathlib.Core.List.{List}
use Prim.Native.Nat.{ℕ}
use lib.ListN.{length}
use lib.Ieee.{Float}
use Rattle.picture_limits.specs.declared.PictureSettings.{PictureSettings}
use Rattle.picture_limits.specs.declared.Refusal.{Refusal}
use Rattle.picture.specs.declared.Patches.{Patches}
use Rattle.picture_restore.specs.declared.Picture.{Picture}
use Rattle.number_floats.proofs.Unique.{one}
use Rattle.picture_samples.specs.Samples.{channels_allowed, value, entry, sample_table, allowed_table, settings_tested, channels_tested}
use Rattle.picture_resize.specs.declared.Near.{Near}
use Rattle.picture_resize.specs.Resize.{near, blend, to_byte, resized_byte}
use Rattle.picture_resize.specs.inner.Weighed.{weighed}
use Rattle.picture_patches.specs.Resized.{patches_over}
use Rattle.picture.specs.Part.{patch_part}
use Rattle.picture.specs.Preprocess.{preprocessed, patches_out}
use Rattle.picture_restore.specs.Restore.{restored, bytes_out}

-- the contracts, as types of an answer and of the output at exit
abbrev pub Preprocesses : PictureSettings → List ℕ → ℕ → ℕ → List Float → Result Patches Refusal → List Float → Type 0
Preprocesses s rgb h w old r out = (r ≡ preprocessed s (length rgb) h w (length old)) × (out ≡ patches_out s rgb h w old)

abbrev pub Restores : PictureSettings → List Float → ℕ → ℕ → List ℕ → Result Picture Refusal → List ℕ → Type 0
Restores s l gh gw old r out = (r ≡ restored s l gh gw (length old)) × (out ≡ bytes_out s l gh gw old)

pub preprocess-unique : (s : PictureSettings) (rgb : List ℕ) (h w : ℕ) (old : List Float) (r q : Result Patches Refusal) (x y : List Float)
    → Preprocesses s rgb h w old r x → Preprocesses s rgb h w old q y → (r ≡ q) × (x ≡ y)
preprocess-unique s rgb h w old r q x y a b = (one _ a.0 b.0, one _ a.1 b.1)

pub restore-unique : (s : PictureSettings) (l : List Float) (gh gw : ℕ) (old : List ℕ) (r q : Result Picture Refusal) (x y : List ℕ)
    → Restores s l gh gw old r x → Restores s l gh gw old q y → (r ≡ q) × (x ≡ y)
restore-unique s l gh gw old r q x y a b = (one _ a.0 b.0, one _ a.1 b.1)

pub patch-unique : (l : List Float) (p i : ℕ) (x y : List Float) → x ≡ patch_part l p i → y ≡ patch_part l p i → x ≡ y
patch-unique l p i x y = one _

pub resize-unique : (rgb : List ℕ) (h w th tw y x c : ℕ) (a b : ℕ) → a ≡ resized_byte rgb h w th tw y x c → b ≡ resized_byte rgb h w th tw y x c → a ≡ b
resize-unique rgb h w th tw y x c a b = one _

pub patches-unique : (k : ℕ → ℕ → ℕ) (rgb : List ℕ) (h w th tw p : ℕ) (old x y : List Float) → x ≡ patches_over k rgb h w th tw p old → y ≡ patches_over k rgb h w th tw p old → x ≡ y
patches-unique k rgb h w th tw p old x y = one _

pub blend-unique : (v00 v01 v10 v11 fy fx : Float) (a b : ℕ) → a ≡ to_byte (blend v00 v01 v10 v11 fy fx) → b ≡ to_byte (blend v00 v01 v10 v11 fy fx) → a ≡ b
blend-unique v00 v01 v10 v11 fy fx a b = one _

pub weighed-unique : (a0 b0 a1 b1 g f : Float) (a b : ℕ) → a ≡ to_byte (weighed a0 b0 a1 b1 g f) → b ≡ to_byte (weighed a0 b0 a1 b1 g f) → a ≡ b
weighed-unique a0 b0 a1 b1 g f a b = one _

pub near-unique : (from to i : ℕ) (a b : Near) → a ≡ near from to i → b ≡ near from to i → a ≡ b
near-unique from to i a b = one _

pub samples-unique : (ms ds : List Float) (a b : List ℕ) → a ≡ sample_table ms ds → b ≡ sample_table ms ds → a ≡ b
samples-unique ms ds a b = one _

pub channels-unique : (t : List ℕ) (a b : Bool) → a ≡ channels_allowed (value (entry t)) → b ≡ channels_allowed (value (entry t)) → a ≡ b
channels-unique t a b = one _

pub settings-tested-unique : (s : PictureSettings) (a b : Result (Unit {0}) Refusal) → a ≡ settings_tested s → b ≡ settings_tested s → a ≡ b
settings-tested-unique s a b = one _

pub channels-tested-unique : (t : List ℕ) (a b : Result (Unit {0}) Refusal) → a ≡ channels_tested (value (entry t)) → b ≡ channels_tested (value (entry t)) → a ≡ b
channels-tested-unique t a b = one _

pub allowed-table-unique : (s : PictureSettings) (a b : Result (List ℕ) Refusal) → a ≡ allowed_table s → b ≡ allowed_table s → a ≡ b
allowed-table-unique s a b = one _

pub value-of-unique : (t : List ℕ) (c k : ℕ) (x y : Float) → x ≡ value (entry t) c k → y ≡ value (entry t) c k → x ≡ y
value-of-unique t c k x y = one _
