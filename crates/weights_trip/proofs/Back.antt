-- The statements of specs/Back.antt. Assumes nothing.
use mathlib.Core.Path.{◌≡◌, sym, ap, ◌∙◌}
use mathlib.Core.Bool.{true}
use mathlib.Core.List.{List, [], ◌∷◌, ◌++◌, map}
use Prim.Native.Nat.{ℕ, ◌*◌, ◌^◌, ◌≤◌, ◌<◌}
use native.Mathlib.Omega.{arith}
use lib.ListN.{length}
use lib.Seq.{take_all}
use Rattle.buffers.specs.Region.{over}
use Rattle.json_grammar.specs.Grammar as G
use Rattle.json_grammar.specs.Grammar.{Text}
use Rattle.json_members.specs.Names.{Entry, members_of, entries_of}
use Rattle.encoder_settings.specs.declared.EncoderSettings.{EncoderSettings}
use Rattle.encoder_settings.specs.Settings.{allowed, weight_floats}
use Rattle.encoder_settings.proofs.Bounds.{allowed-says, bounded}
use Rattle.tensor_values.specs.declared.Kind.{Kind}
use Rattle.tensor_values.specs.declared.Kind.TheVariants.{F32, BF16, F16}
use Rattle.number_bf16_half_root.specs.Packed.{widened}
use Rattle.number_bf16_half_root.specs.Half.{half}
use Rattle.tensor_values.specs.Values.{size_of, values_of, digits, bytes_of, halves_of}
use Rattle.tensor_values.proofs.Laws.{length-bytes, values-of-bytes, values-of-bf16s, values-of-halves}
use Rattle.tensor_header.specs.Tensors.{tensors}
use Rattle.tensor_header.specs.Header.{header_of, data_of, is_object}
use Rattle.weights.specs.File.{Weighed}
use Rattle.std.specs.Prelude.{Ok}
use Rattle.weights.specs.File.{judged, weights_in, answered, left_by, left}
use Rattle.weights_trip.specs.Plainest.{entries_text, header_text, file_of}
use Rattle.weights_trip.specs.Back.{ReadAs, Read-back, F32-trip, BF16-trip, F16-trip}
use Rattle.weights_trip.proofs.Entries.{bytes_of_all, Listed, Written, written}
use Rattle.weights_trip.proofs.Found.{Apart, finds-all, placed}
use Rattle.weights_trip.proofs.Tiles.{tiled}
use Rattle.weights_trip.proofs.Answers.{unrefused}
use Rattle.weights_trip.proofs.Frames.{is_framed, header_is, data_is}
use Rattle.weights_trip.proofs.Names.{names-differ}
use Rattle.weights_trip.proofs.Sums.{bytes-are, tensors-fine, counts-are, tensors-some, tensors-few, floats-few, bytes-few}
use Rattle.weights_trip.proofs.Lengths.{header-short}

-- ---- a header whose entries are listed

module _ (s : EncoderSettings) (k : Kind) (bytes out : List ℕ) (n : Apart (tensors s)) (e : length bytes ≡ bytes_of_all k (tensors s)) (w : weight_floats s ≤ length out) where
  all-floats : (es : List Entry) → Listed k 0 (tensors s) es → weights_in s es bytes ≡ values_of k bytes
  unfolding weights_in
  all-floats es l = tiled bytes l (finds-all l n) (omega arith) ∙ ap (values_of k) (take_all (bytes_of_all k (tensors s)) bytes (omega arith))

  no-refusal : (h : List ℕ) (es : List Entry) → Listed k 0 (tensors s) es → judged s h es (length bytes) (length out) ≡ Ok (weight_floats s)
  no-refusal h es l = unrefused s k h es (length bytes) (length out) (placed (length bytes) l n (omega arith)) w

  -- a text, and what is read of it
  abbrev Reads : List ℕ → List ℕ → Type 0
  Reads h b = (t : Text 32 h) × (answered s t b (length out) ≡ Ok (weight_floats s)) × (left s t b out ≡ over (values_of k bytes) out)

  header-reads : Written k 29 0 (tensors s) (entries_text k (tensors s) 0 ++ (0x7D ∷ [])) (0x7D ∷ []) → Reads (header_text k (tensors s)) bytes
  unfolding header_text answered left is_object entries_of
  header-reads r =
      let es = members_of r.members in
      let a = no-refusal (header_text k (tensors s)) es r.says in
      (G.text G.unspaced (G.object r.members) G.unspaced, a, ap (λ (x : Weighed). left_by x (weights_in s es bytes) out) a ∙ ap (λ (l : List ℕ). over l out) (all-floats es r.says))

-- ---- the file

pub read_back : Read-back
unfolding file_of
read_back s k bytes out h e w =
    let a = allowed-says s h in
    let layers : s.num_layers ≤ 48 = a.ranges.layers in
    let fine = tensors-fine s layers in
    let total : bytes_of_all k (tensors s) ≡ weight_floats s * size_of k = bytes-are k (tensors s) ∙ ap (λ (n : ℕ). n * size_of k) (counts-are s) in
    let few : weight_floats s * size_of k ≤ 1099511627776 = bytes-few k (weight_floats s) (floats-few s (bounded s a)) in
    let header = header_text k (tensors s) in
    let short : length header < 2 ^ 64 = header-short k (tensors s) fine (tensors-few s layers) (omega arith) in
    let list = written k 29 0 (tensors s) (0x7D ∷ []) (tensors-some s) fine (omega arith) in
    let apart : Apart (tensors s) = names-differ s (omega arith) in
    let own : Reads s k bytes out apart (e ∙ sym total) w header bytes = header-reads s k bytes out apart (e ∙ sym total) w list in
    let read : Reads s k bytes out apart (e ∙ sym total) w (header_of (digits 8 (length header) ++ header ++ bytes)) (data_of (digits 8 (length header) ++ header ++ bytes)) = rw (header_is header bytes short, data_is header bytes short) own in
    record {
      frame = is_framed header bytes short;
      header = read.0;
      answer = read.1;
      slice = read.2;
      weighed = λ after r y. let z = y.read h (is_framed header bytes short) read.0 in (z.0 ∙ read.1, z.1 ∙ read.2);
    }

-- ---- bytes that were made of patterns

made : (s : EncoderSettings) (k : Kind) (bytes out floats : List ℕ) → allowed s ≡ true → length bytes ≡ weight_floats s * size_of k → weight_floats s ≤ length out → values_of k bytes ≡ floats → ReadAs s (file_of k (tensors s) bytes) out floats
made s k bytes out floats h e w v = rw v at (read_back s k bytes out h e w)

pub f32-trip : F32-trip
f32-trip s weights out h p e w = made s F32 (bytes_of weights) out weights h (length-bytes 4 weights ∙ ap (λ (n : ℕ). n * 4) e) w (values-of-bytes weights p)

pub bf16-trip : BF16-trip
bf16-trip s weights out h p e w = made s BF16 (halves_of weights) out (map widened weights) h (length-bytes 2 weights ∙ ap (λ (n : ℕ). n * 2) e) w (values-of-bf16s weights p)

pub f16-trip : F16-trip
f16-trip s weights out h p e w = made s F16 (halves_of weights) out (map half weights) h (length-bytes 2 weights ∙ ap (λ (n : ℕ). n * 2) e) w (values-of-halves weights p)
