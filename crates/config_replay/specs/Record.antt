-- Whether a record's text is answered as the record says, as the judge of a text of records finds it. Assumes nothing.
use Rattle.std.specs.Prelude.{◌≡◌, Bool, true, false, ◌&&◌, List, ℕ, ◌+◌, ◌-◌, ◌*◌, ltb, eqb, length, replicate}
use Rattle.number_floats.specs.Constants.{zero32, one32}
use Rattle.buffers.specs.Region.{region}
use Rattle.encoder_settings.specs.declared.EncoderSettings.{EncoderSettings}
use Rattle.config.specs.Config.{Config, Configured, number_of, place_of, settings_of}
use Rattle.tally.specs.declared.Step.{Step}
use Rattle.tally.specs.declared.Step.TheVariants.{NoRecord}
use Rattle.tally.specs.Record.{number_at, judged}

-- ---- a record: eleven numbers of five digits, each with a byte behind it; then the text and a byte

abbrev pub field_at : List ℕ → ℕ → ℕ
field_at s i = number_at s (6 * i)

-- what config.json does not say: rule 1, and a scale of 1
abbrev pub lent : EncoderSettings
lent =
    record {
      picture =
          record {
            patch_size = 0;
            spatial_merge_size = 0;
            image_size = 0;
            resize_rule = 1;
            mean = replicate 3 zero32;
            deviation = replicate 3 zero32;
          };
      hidden_size = 0;
      num_heads = 0;
      head_dim = 0;
      num_layers = 0;
      intermediate_size = 0;
      text_hidden_size = 0;
      projector_bias = 0;
      scaling = one32;
    }

-- number and place are those of the record
unfoldable pub said_agrees : Configured → List ℕ → Bool
said_agrees a w = eqb (field_at w 1) (number_of a) && eqb (field_at w 2) (place_of a)

-- the eight sizes are
unfoldable pub settings_agree : EncoderSettings → List ℕ → Bool
settings_agree s w =
    eqb s.picture.patch_size (field_at w 3)
    && (eqb s.picture.spatial_merge_size (field_at w 4)
    && (eqb s.picture.image_size (field_at w 5)
    && (eqb s.hidden_size (field_at w 6)
    && (eqb s.num_heads (field_at w 7)
    && (eqb s.num_layers (field_at w 8)
    && (eqb s.intermediate_size (field_at w 9)
    && eqb s.text_hidden_size (field_at w 10)))))))

-- whether the answer for a text is that of the record w
pub record Judges (t w : List ℕ) (r : Bool) : Type 0 where
  pub is : (a : Configured) → Config lent t a → r ≡ (said_agrees a w && settings_agree (settings_of a) w)

-- the first record of t
pub data Steps (t : List ℕ) : Step → Type 0 where
  short : ltb (length t) 66 ≡ true → Steps t NoRecord
  cut : ltb (length t) 66 ≡ false → ltb (length t - 66) (field_at t 0 + 1) ≡ true → Steps t NoRecord
  whole : {r : Bool} → ltb (length t) 66 ≡ false → ltb (length t - 66) (field_at t 0 + 1) ≡ false → Judges (region t 66 (field_at t 0)) t r → Steps t (judged r (66 + field_at t 0 + 1))
