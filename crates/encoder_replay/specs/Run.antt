-- What the call of a record answers and leaves. Assumes nothing.
use Rattle.std.specs.Prelude.{ℕ, ◌%◌, cond, List, eqb, length, get_or, take, replicate, Float, Ok, Err}
use Rattle.std.specs.Float.{binary32}
use Rattle.std.specs.Float.Ieee.{of_bits}
use Rattle.buffers.specs.Region.{region}
use Rattle.picture_limits.specs.Refusal as R
use Rattle.encoder_settings.specs.declared.EncoderSettings.{EncoderSettings}
use Rattle.encoder_settings.specs.declared.Attention.{Attention}
use Rattle.encoder_settings.specs.declared.Attention.TheVariants.{RowWise, Plain}
use Rattle.encoder_run.specs.Answer.{Encoded}
use Rattle.encoder.specs.Forward.{encoded_of, out_of, scratch_of}
use Rattle.encoder.specs.Plain.{encoded_plain, out_plain, scratch_plain}
use Rattle.encoder_replay.specs.declared.run.Answer.{Answer}
use Rattle.replay.specs.Hash.{float_hash}
use Rattle.replay.specs.Marks.{seeded, marks, floats, units}
use Rattle.replay.specs.Damage.{damaged}

-- ---- one call

-- an answer's number and tokens, and the hashes of output and scratch
abbrev pub answer_from : Encoded → ℕ → ℕ → Answer
answer_from (Ok o) h k = record { number = 0; tokens = o; out = h; scratch = k }
answer_from (Err r) h k = record { number = R.number r; tokens = 0; out = h; scratch = k }

-- what is said of forward, or of forward with plain attention
abbrev pub said : {A : Type 0} → Attention → A → A → A
said RowWise a b = a
said Plain a b = b

module _ (f : Attention) (s : EncoderSettings) (gh gw : ℕ) (w cos sin x : List Float) where
  unfoldable pub encoded_as : ℕ → ℕ → Encoded
  encoded_as out scratch = said f (encoded_of s gh gw w cos sin x out scratch) (encoded_plain s gh gw w cos sin x out scratch)

  unfoldable pub out_as : ℕ → List Float → List Float
  out_as scratch old = said f (out_of s gh gw w cos sin x scratch old) (out_plain s gh gw w cos sin x scratch old)

  unfoldable pub scratch_as : ℕ → List Float → List Float
  scratch_as out old = said f (scratch_of s gh gw w cos sin x out old) (scratch_plain s gh gw w cos sin x out old)

  unfoldable pub answer_of : List Float → List Float → Answer
  answer_of scratch out =
      answer_from (encoded_as (length out) (length scratch))
      (float_hash (out_as (length scratch) out))
      (float_hash (scratch_as (length out) scratch))

-- ---- a record of 28 numbers

abbrev pub at : List ℕ → ℕ → ℕ
at v k = get_or v k 0

abbrev pub settings_of : List ℕ → EncoderSettings
settings_of v =
    record {
      picture =
          record {
            patch_size = at v 0;
            spatial_merge_size = at v 1;
            image_size = at v 2;
            resize_rule = at v 25;
            mean = replicate 3 (of_bits binary32 0);
            deviation = replicate 3 (of_bits binary32 0);
          };
      hidden_size = at v 3;
      num_heads = at v 4;
      head_dim = at v 5;
      num_layers = at v 6;
      intermediate_size = at v 7;
      text_hidden_size = at v 8;
      projector_bias = at v 26;
      scaling = of_bits binary32 (at v 9 % 4294967296);
    }

-- the cells of the inputs, of the scratch and of the output
abbrev pub cells_room : ℕ
cells_room = 8192

abbrev pub scratch_room : ℕ
scratch_room = 4096

abbrev pub out_room : ℕ
out_room = 1024

-- the seed's floats, once damaged
unfoldable pub inputs_from : List ℕ → ℕ → List Float
inputs_from v n = damaged (units (seeded (at v 18)) n) (at v 19) (at v 20)

-- plain where its number for that is 1
abbrev pub attention_of : ℕ → Attention
attention_of p = cond (eqb p 1) Plain RowWise

-- patches from 0 on, weights from 1024, cosines from 7168, sines from 7680
unfoldable pub call_of : List ℕ → List Float → List Float → List Float → Answer
call_of v cells scratch out =
    answer_of (attention_of (at v 27)) (settings_of v) (at v 10) (at v 11)
    (region cells 1024 (at v 13))
    (region cells 7168 (at v 14))
    (region cells 7680 (at v 15))
    (take (at v 12) cells)
    (take (at v 16) scratch)
    (take (at v 17) out)

-- the record's call, into marked buffers
unfoldable pub run_of : List ℕ → Answer
run_of v = call_of v (inputs_from v cells_room) (floats marks scratch_room) (floats marks out_room)
