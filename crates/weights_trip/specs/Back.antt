-- What is read of the plainest file of given weights: those weights, widened where the file has them in 16 bits. Four statements;
-- proofs/Back.antt proves them. Assumes nothing.
use Rattle.std.specs.Prelude.{◌≡◌, true, List, map, ℕ, ◌*◌, ◌≤◌, length}
use Rattle.buffers.specs.Lent.{Words}
use Rattle.buffers.specs.Region.{over}
use Rattle.number_bf16_half_root.specs.Packed.{widened}
use Rattle.number_bf16_half_root.specs.Half.{half}
use Rattle.json_grammar.specs.Grammar.{Text}
use Rattle.encoder_settings.specs.declared.EncoderSettings.{EncoderSettings}
use Rattle.encoder_settings.specs.Settings.{allowed, weight_floats}
use Rattle.tensor_values.specs.declared.Kind.{Kind}
use Rattle.tensor_values.specs.declared.Kind.TheVariants.{F32, BF16, F16}
use Rattle.tensor_values.specs.Values.{size_of, values_of, bytes_of, halves_of}
use Rattle.tensor_values.specs.Laws.{Halfwords}
use Rattle.tensor_header.specs.Tensors.{tensors}
use Rattle.tensor_header.specs.Header.{framed, header_of, data_of}
use Rattle.weights.specs.File.{Weighed}
use Rattle.std.specs.Prelude.{Ok}
use Rattle.weights.specs.File.{answered, left, Weighing}
use Rattle.weights_trip.specs.Plainest.{file_of}

-- A file is read, whole, as these floats: it is framed, its header is a text of at most 32 levels, the answer is their count, and
-- the slice has them at its front. So it is with whatever answers as `Weighing` says
pub record ReadAs (s : EncoderSettings) (file out floats : List ℕ) : Type 0 where
  pub frame : framed file ≡ true
  pub header : Text 32 (header_of file)
  pub answer : answered s header (data_of file) (length out) ≡ Ok (weight_floats s)
  pub slice : left s header (data_of file) out ≡ over floats out
  pub weighed : (after : List ℕ) (r : Weighed) → Weighing s file out after r → (r ≡ Ok (weight_floats s)) × (after ≡ over floats out)

-- the file of any bytes, of as many as the weights have, has their values
abbrev pub Read-back : Type 0
Read-back =
    (s : EncoderSettings) (k : Kind) (bytes out : List ℕ) →
    allowed s ≡ true → length bytes ≡ weight_floats s * size_of k → weight_floats s ≤ length out →
    ReadAs s (file_of k (tensors s) bytes) out (values_of k bytes)

-- that of patterns of f32s has these patterns
abbrev pub F32-trip : Type 0
F32-trip =
    (s : EncoderSettings) (weights out : List ℕ) →
    allowed s ≡ true → Words weights → length weights ≡ weight_floats s → weight_floats s ≤ length out →
    ReadAs s (file_of F32 (tensors s) (bytes_of weights)) out weights

-- those of bf16s and of halves have the f32s that these widen to
abbrev pub BF16-trip : Type 0
BF16-trip =
    (s : EncoderSettings) (weights out : List ℕ) →
    allowed s ≡ true → Halfwords weights → length weights ≡ weight_floats s → weight_floats s ≤ length out →
    ReadAs s (file_of BF16 (tensors s) (halves_of weights)) out (map widened weights)

abbrev pub F16-trip : Type 0
F16-trip =
    (s : EncoderSettings) (weights out : List ℕ) →
    allowed s ≡ true → Halfwords weights → length weights ≡ weight_floats s → weight_floats s ≤ length out →
    ReadAs s (file_of F16 (tensors s) (halves_of weights)) out (map half weights)
