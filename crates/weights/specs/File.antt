-- Weights from a safetensors file: what the header has to say of each tensor that is asked for, the refusals in their order,
-- and the floats. Assumes nothing.
use Rattle.std.specs.Prelude.{◌≡◌, Bool, true, false, cond, not, ◌&&◌, List, [], ◌∷◌, ℕ, suc, ◌+◌, ◌-◌, ◌*◌, eqb, leb, ltb, length, Option, None, Some, Result, Ok, Err}
use Rattle.buffers.specs.Rows.{rows, first}
use Rattle.buffers.specs.Region.{region, over}
use Rattle.json_grammar.specs.Grammar as G
use Rattle.json_grammar.specs.Grammar.{Value, Text, text}
use Rattle.json_grammar.specs.Judge.{Stopped, Deepened}
use Rattle.json_members.specs.Names.{word, str_says, Entry, entries_of, same, lookup}
use Rattle.json_lists.specs.Lists.{sizes_of, product}
use Rattle.picture_limits.specs.declared.Refusal.{Refusal}
use Rattle.picture_limits.specs.declared.Refusal.TheVariants.{Setting, Output, Header, Tensor, Offsets}
use Rattle.picture_limits.specs.Refusal as R
use Rattle.encoder_settings.specs.declared.EncoderSettings.{EncoderSettings}
use Rattle.encoder_settings.specs.Settings.{allowed, weight_floats}
use Rattle.tensor_values.specs.declared.Kind.{Kind}
use Rattle.tensor_values.specs.declared.Kind.TheVariants.{F32, BF16, F16}
use Rattle.tensor_values.specs.Values.{size_of, values_of}
use Rattle.tensor_header.specs.Tensors.{tensors, entry_at, count_at}
use Rattle.tensor_header.specs.Header.{framed, header_of, data_of, is_object, place_in}
use Rattle.tensor_header.specs.declared.Misread as H
use Rattle.weights.specs.declared.Misread.{Misread}

-- ---- an entry of the header

-- what a string says; none where a value is no string
unfoldable pub string_of : {d : ℕ} {l r : List ℕ} → Value d l r → Option (List ℕ)
string_of G.value-false = None
string_of G.value-null = None
string_of G.value-true = None
string_of (G.number k) = None
string_of (G.string k) = Some (str_says k)
string_of (G.empty-array w) = None
string_of (G.array k) = None
string_of (G.empty-object w) = None
string_of (G.object k) = None

-- the same, and the numbers of a list, of a member that may be missing
abbrev pub string_in : Option Entry → Option (List ℕ)
string_in None = None
string_in (Some e) = string_of e.value

abbrev pub sizes_in : Option Entry → Option (List ℕ)
sizes_in None = None
sizes_in (Some e) = sizes_of e.value

-- a tensor in a header: it is missing, or its entry is damaged, or it has a dtype, a shape and two offsets
pub data Found : Type 0 where
  missing : Found
  damaged : Found
  described : (dtype shape : List ℕ) (begin end : ℕ) → Found

abbrev pub described_by : Option (List ℕ) → Option (List ℕ) → Option (List ℕ) → Found
described_by (Some dtype) (Some shape) (Some (begin ∷ (end ∷ []))) = described dtype shape begin end
described_by (Some dtype) (Some shape) (Some (begin ∷ (end ∷ (x ∷ l)))) = damaged
described_by (Some dtype) (Some shape) (Some (begin ∷ [])) = damaged
described_by (Some dtype) (Some shape) (Some []) = damaged
described_by (Some dtype) (Some shape) None = damaged
described_by (Some dtype) None offsets = damaged
described_by None shape offsets = damaged

-- by the last member of each name
unfoldable pub found_by : List Entry → Found
found_by es = described_by (string_in (lookup (word "dtype") es)) (sizes_in (lookup (word "shape") es)) (sizes_in (lookup (word "data_offsets") es))

abbrev pub found_in : Option Entry → Found
found_in None = missing
found_in (Some e) = found_by (entries_of e.value)

-- ---- what is asked of it

abbrev pub kind_of : List ℕ → Option Kind
kind_of dtype = cond (same dtype (word "F32")) (Some F32) (cond (same dtype (word "BF16")) (Some BF16) (cond (same dtype (word "F16")) (Some F16) None))

-- 16
abbrev pub is_damaged : Found → Bool
is_damaged missing = false
is_damaged damaged = true
is_damaged (described dtype shape begin end) = false

-- 17: missing, of another dtype or of another count
abbrev pub other_count : ℕ → List ℕ → Option Kind → Bool
other_count count shape None = true
other_count count shape (Some k) = not (eqb (product shape) count)

abbrev pub is_other : ℕ → Found → Bool
is_other count missing = true
is_other count damaged = false
is_other count (described dtype shape begin end) = other_count count shape (kind_of dtype)

-- 18: offsets falling, past the data or of another length
abbrev pub misplaced_by : ℕ → ℕ → ℕ → ℕ → Option Kind → Bool
misplaced_by bytes count begin end None = false
misplaced_by bytes count begin end (Some k) = not (leb begin end && (leb end bytes && eqb (end - begin) (count * size_of k)))

abbrev pub is_misplaced : ℕ → ℕ → Found → Bool
is_misplaced bytes count missing = false
is_misplaced bytes count damaged = false
is_misplaced bytes count (described dtype shape begin end) = misplaced_by bytes count begin end (kind_of dtype)

-- its floats, as patterns
abbrev pub values_by : List ℕ → Option Kind → List ℕ
values_by bytes None = []
values_by bytes (Some k) = values_of k bytes

abbrev pub floats_in : List ℕ → Found → List ℕ
floats_in bytes missing = []
floats_in bytes damaged = []
floats_in bytes (described dtype shape begin end) = values_by (region bytes begin (end - begin)) (kind_of dtype)

-- ---- the answer

-- how many floats were read; or why the file is refused, at which tensor and at which byte
abbrev pub Weighed : Type 0
Weighed = Result ℕ Misread

abbrev pub refuse : Refusal → ℕ → ℕ → Weighed
refuse why i n = Err (record { why = why; tensor = i; place = n })

-- what the header's reader refuses is at no tensor
abbrev pub headless : H.Misread → Misread
headless h = record { why = h.why; tensor = 0; place = h.place }

-- refused at the first of n at which the test passes; the rest where there is none
abbrev pub firstly : ℕ → (ℕ → Bool) → (ℕ → Weighed) → Weighed → Weighed
firstly n f refused rest = cond (ltb (first n f) n) (refused (first n f)) rest

-- the byte of the file at which an entry's value begins; 0 where there is none
abbrev pub place_of : List ℕ → Option Entry → ℕ
place_of h None = 0
place_of h (Some e) = 8 + place_in h (Some e)

-- a refusal names the tensor, of which the first is 1, and its entry's place
abbrev pub at : Refusal → List ℕ → (ℕ → Option Entry) → ℕ → Weighed
at why h entry i = refuse why (suc i) (place_of h (entry i))

-- of a header h with the entries es, in front of as many bytes of data: each test over all tensors before the next
unfoldable pub judged : EncoderSettings → List ℕ → List Entry → ℕ → ℕ → Weighed
judged s h es bytes room =
    let n = length (tensors s) in
    let entry = entry_at (tensors s) es in
    let count = count_at (tensors s) in
    firstly n (λ i. is_damaged (found_in (entry i))) (at Header h entry)
    (firstly n (λ i. is_other (count i) (found_in (entry i))) (at Tensor h entry)
    (firstly n (λ i. is_misplaced bytes (count i) (found_in (entry i))) (at Offsets h entry)
    (cond (ltb room (weight_floats s)) (refuse Output 0 0) (Ok (weight_floats s)))))

-- all weights: the floats of each tensor, one behind the other
unfoldable pub weights_in : EncoderSettings → List Entry → List ℕ → List ℕ
weights_in s es bytes = rows (length (tensors s)) (λ i. floats_in bytes (found_in (entry_at (tensors s) es i)))

-- of a header that is a text: 16 where its value is no object
unfoldable pub answered : {d : ℕ} {h : List ℕ} → EncoderSettings → Text d h → List ℕ → ℕ → Weighed
answered {h = h} s (text {m = m} w root u) bytes room = cond (is_object root) (judged s h (entries_of root) (length bytes) room) (refuse Header 0 (8 + (length h - length m)))

-- the slice afterwards: filled whole, a longer one with its tail, or as it was
abbrev pub left_by : Weighed → List ℕ → List ℕ → List ℕ
left_by (Ok n) floats out = over floats out
left_by (Err m) floats out = out

unfoldable pub left : {d : ℕ} {h : List ℕ} → EncoderSettings → Text d h → List ℕ → List ℕ → List ℕ
left s (text w root u) bytes out = left_by (answered s (text w root u) bytes (length out)) (weights_in s (entries_of root) bytes) out

-- The answer r for a file, and the slice after it. Of every header one of the last three is the case, and no other: byte n
-- stops it, or the bracket at byte n opens level 33, or it is a text of at most 32 levels
pub record Weighing (s : EncoderSettings) (file out after : List ℕ) (r : Weighed) : Type 0 where
  pub setting : allowed s ≡ false → (r ≡ refuse Setting 0 0) × (after ≡ out)
  pub unframed : allowed s ≡ true → framed file ≡ false → (r ≡ refuse Header 0 0) × (after ≡ out)
  pub stopped : allowed s ≡ true → framed file ≡ true → (n : ℕ) → Stopped 32 (header_of file) n → (r ≡ refuse Header 0 (8 + n)) × (after ≡ out)
  pub deep : allowed s ≡ true → framed file ≡ true → (n : ℕ) → Deepened 32 (header_of file) n → (r ≡ refuse Header 0 (8 + n)) × (after ≡ out)
  pub read : allowed s ≡ true → framed file ≡ true → (t : Text 32 (header_of file)) → (r ≡ answered s t (data_of file) (length out)) × (after ≡ left s t (data_of file) out)

-- ---- what is reported

abbrev pub number_of : Weighed → ℕ
number_of (Ok n) = 0
number_of (Err m) = R.number m.why

-- how many floats: 0 of a refusal
abbrev pub floats_of : Weighed → ℕ
floats_of (Ok n) = n
floats_of (Err m) = 0

-- the tensor and the byte of a refusal
abbrev pub tensor_of : Weighed → ℕ
tensor_of (Ok n) = 0
tensor_of (Err m) = m.tensor

abbrev pub place_at : Weighed → ℕ
place_at (Ok n) = 0
place_at (Err m) = m.place
