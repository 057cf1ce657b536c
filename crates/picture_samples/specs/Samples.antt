-- The sample value of a byte under three means and three deviations, which of them are allowed, and the byte of a sample by
-- its bits. Assumes nothing.
use Rattle.std.specs.Prelude.{Bool, ◌&&◌, ◌||◌, List, [], ◌∷◌, ℕ, suc, ◌+◌, ◌*◌, pos, eqb, get_or, Float, Result, Ok, Err}
use Rattle.std.specs.Float.{nan, binary32}
use Rattle.std.specs.Float.Ieee.{sub, div, lt, of_int, of_bits, to_bits}
use Rattle.std.specs.Float.Ieee.Scale.{finite}
use Rattle.buffers.specs.Rows.{grid, all, first}
use Rattle.picture_limits.specs.declared.PictureSettings.{PictureSettings}
use Rattle.picture_limits.specs.declared.Refusal.{Refusal}
use Rattle.picture_limits.specs.declared.Refusal.TheVariants.{Setting, Channel}
use Rattle.picture_limits.specs.Refusal.{unless}
use Rattle.picture_limits.specs.Settings.{allowed}

-- (byte / 255 − mean) / deviation in f32, each operation rounded; 0x437F_0000 is 255
unfoldable pub sample : Float → Float → ℕ → Float
sample mean deviation b = div binary32 (sub binary32 (div binary32 (of_int binary32 (pos b)) (of_bits binary32 0x437F_0000)) mean) deviation

-- of byte b in channel c, which has its own mean and deviation
abbrev pub sample_of : List Float → List Float → ℕ → ℕ → Float
sample_of means deviations c b = sample (get_or means c nan) (get_or deviations c nan) b

-- the Rust's own: 0.48145466, 0.4578275, 0.40821073 and 0.26862954, 0.26130258, 0.27577711
abbrev pub own_means : List Float
own_means = of_bits binary32 0x3EF6_813A ∷ of_bits binary32 0x3EEA_685E ∷ of_bits binary32 0x3ED1_00FF ∷ []

abbrev pub own_deviations : List Float
own_deviations = of_bits binary32 0x3E89_89D0 ∷ of_bits binary32 0x3E85_C974 ∷ of_bits binary32 0x3E8D_32A8 ∷ []

-- ---- a channel has to give 256 finite values, strictly rising or strictly falling

unfoldable pub rising : (ℕ → Float) → Bool
rising v = all 255 (λ b. lt (v b) (v (suc b)))

unfoldable pub falling : (ℕ → Float) → Bool
falling v = all 255 (λ b. lt (v (suc b)) (v b))

unfoldable pub channel_allowed : (ℕ → Float) → Bool
channel_allowed v = all 256 (λ b. finite (v b)) && (rising v || falling v)

-- v c b is the value of byte b in channel c
unfoldable pub channels_allowed : (ℕ → ℕ → Float) → Bool
channels_allowed v = all 3 (λ c. channel_allowed (v c))

-- ---- any table: k c b is the pattern of byte b in channel c

abbrev pub value : (ℕ → ℕ → ℕ) → ℕ → ℕ → Float
value k c b = of_bits binary32 (k c b)

-- the byte whose pattern in channel c was found, and 256 where there is none
unfoldable pub byte_of : (ℕ → ℕ → ℕ) → ℕ → ℕ → ℕ
byte_of k c found = first 256 (λ b. eqb found (k c b))

-- ---- a table as one list: channel after channel, 256 bytes each

abbrev pub entry : List ℕ → ℕ → ℕ → ℕ
entry t c b = get_or t (c * 256 + b) 0

-- that of three means and three deviations
abbrev pub sample_bits : List Float → List Float → ℕ → ℕ → ℕ
sample_bits means deviations c b = to_bits binary32 (sample_of means deviations c b)

unfoldable pub sample_table : List Float → List Float → List ℕ
sample_table means deviations = grid 3 256 (sample_bits means deviations)

-- ---- by the settings of a call: the value and the pattern of byte b in channel c

abbrev pub value_of : PictureSettings → ℕ → ℕ → Float
value_of s = sample_of s.mean s.deviation

abbrev pub pattern_of : PictureSettings → ℕ → ℕ → ℕ
pattern_of s = sample_bits s.mean s.deviation

-- the table that a call works with: there is none, by 1 and then by 19, where the settings or the channels are not allowed
unfoldable pub allowed_table : PictureSettings → Result (List ℕ) Refusal
allowed_table s = unless (allowed s) (Err Setting) (unless (channels_allowed (value_of s)) (Err Channel) (Ok (sample_table s.mean s.deviation)))

-- the two tests before it
abbrev pub settings_tested : PictureSettings → Result (Unit {0}) Refusal
settings_tested s = unless (allowed s) (Err Setting) (Ok tt)

-- v c b is the value of byte b in channel c
abbrev pub channels_tested : (ℕ → ℕ → Float) → Result (Unit {0}) Refusal
channels_tested v = unless (channels_allowed v) (Err Channel) (Ok tt)
