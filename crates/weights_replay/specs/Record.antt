-- Whether a record's file is answered as the record says, and the counts over a text of records. Assumes nothing.
use Rattle.std.specs.Prelude.{◌≡◌, Bool, true, false, cond, ◌&&◌, List, [], ◌∷◌, ◌++◌, ℕ, ◌+◌, ◌-◌, eqb, ltb, leb, length, get_or, take, drop, replicate}
use Rattle.number_floats.specs.Constants.{zero32, one32}
use Rattle.buffers.specs.Region.{region}
use Rattle.encoder_settings.specs.declared.EncoderSettings.{EncoderSettings}
use Rattle.weights.specs.File.{Weighing, number_of}
use Rattle.weights.specs.File.{Weighed}
use Rattle.std.specs.Prelude.{Ok, Err}
use Rattle.replay.specs.Pieces.{piece_len}
use Rattle.replay.specs.Line.{read_of}
use Rattle.replay.specs.Hash.{word_hash}
use Rattle.replay.specs.Marks.{marks, words}
use Rattle.weights_replay.specs.declared.record.Step.{Step}
use Rattle.weights_replay.specs.declared.text.Counts.{Counts}

-- ---- a record: a line of 18 numbers; then the file and a byte

abbrev pub at : List ℕ → ℕ → ℕ
at v k = get_or v k 0

abbrev pub settings_of : List ℕ → EncoderSettings
settings_of v =
    record {
      picture =
          record {
            patch_size = at v 1;
            spatial_merge_size = at v 2;
            image_size = at v 3;
            resize_rule = at v 4;
            mean = replicate 3 zero32;
            deviation = replicate 3 zero32;
          };
      hidden_size = at v 5;
      num_heads = at v 6;
      head_dim = at v 7;
      num_layers = at v 8;
      intermediate_size = at v 9;
      text_hidden_size = at v 10;
      projector_bias = at v 11;
      scaling = one32;
    }

-- how many words are lent, and how all of them are marked before
abbrev pub lent_of : ℕ → ℕ
lent_of n = cond (ltb n 2048) n 2048

abbrev pub marked : List ℕ
marked = words marks 2048

-- what an answer reports beside its number
abbrev pub floats_of : Weighed → ℕ
floats_of (Ok n) = n
floats_of (Err m) = 0

abbrev pub tensor_of : Weighed → ℕ
tensor_of (Ok n) = 0
tensor_of (Err m) = m.tensor

abbrev pub place_of : Weighed → ℕ
place_of (Ok n) = 0
place_of (Err m) = m.place

-- number, floats, tensor and place are those of the record
unfoldable pub said_agrees : Weighed → List ℕ → Bool
said_agrees a v = eqb (at v 13) (number_of a) && eqb (at v 14) (floats_of a) && eqb (at v 15) (tensor_of a) && eqb (at v 16) (place_of a)

-- whether the answer for a file, and the words that it leaves, are those of the record v
pub record Judges (f v : List ℕ) (r : Bool) : Type 0 where
  pub answer : Weighed
  pub after : List ℕ
  pub given : Weighing (settings_of v) f (take (lent_of (at v 12)) marked) after answer
  pub is : r ≡ (said_agrees answer v && eqb (word_hash (after ++ drop (lent_of (at v 12)) marked)) (at v 17))

-- what is no record is taken whole, and differs
abbrev pub unread : List ℕ → Step
unread t = record { len = length t; same = false }

-- the line that t begins with, and its numbers
abbrev pub line_len : List ℕ → ℕ
line_len t = piece_len 10 t

abbrev pub numbers_of : List ℕ → List ℕ
numbers_of t = (read_of 18 (take (line_len t) t)).list

abbrev pub is_read : List ℕ → Bool
is_read t = (read_of 18 (take (line_len t) t)).whole

-- the first record of t
pub data Steps (t : List ℕ) : Step → Type 0 where
  bad : is_read t ≡ false → Steps t (unread t)
  cut : is_read t ≡ true → leb (length t - line_len t) (at (numbers_of t) 0) ≡ true → Steps t (unread t)
  whole : {r : Bool} → is_read t ≡ true → leb (length t - line_len t) (at (numbers_of t) 0) ≡ false → Judges (region t (line_len t) (at (numbers_of t) 0)) (numbers_of t) r → Steps t (record { len = line_len t + at (numbers_of t) 0 + 1; same = r })

-- ---- one record after another

abbrev pub none : Counts
none = record { agree = 0; differ = 0 }

abbrev pub counted : Bool → Counts → Counts
counted true c = record { agree = c.agree + 1; differ = c.differ }
counted false c = record { agree = c.agree; differ = c.differ + 1 }

-- from c on, the records of t lead to r
pub data Tally : Counts → List ℕ → Counts → Type 0 where
  over : {c : Counts} → Tally c [] c
  next : {c r : Counts} {b : ℕ} {bs : List ℕ} {s : Step} → Steps (b ∷ bs) s → Tally (counted s.same c) (drop s.len (b ∷ bs)) r → Tally c (b ∷ bs) r
