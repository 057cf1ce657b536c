-- A safetensors file: eight bytes with the header's length, little-endian; the header, which is a JSON object; the data. How
-- it is opened, and where the header has the tensors that are asked for. Assumes nothing.
use Rattle.std.specs.Prelude.{◌≡◌, Bool, true, false, cond, ◌&&◌, List, ℕ, ◌+◌, ◌-◌, leb, length, take, drop, Option, None, Some, Result, Ok, Err}
use Rattle.buffers.specs.Rows.{tab}
use Rattle.buffers.specs.Region.{region}
use Rattle.tensor_values.specs.Values.{little}
use Rattle.json_grammar.specs.Grammar as G
use Rattle.json_grammar.specs.Grammar.{Value, Text, text}
use Rattle.json_grammar.specs.Judge.{Stopped, Deepened}
use Rattle.json_members.specs.Names.{Entry, entries_of}
use Rattle.picture_limits.specs.declared.Refusal.TheVariants.{Setting, Header}
use Rattle.encoder_settings.specs.declared.EncoderSettings.{EncoderSettings}
use Rattle.encoder_settings.specs.Settings.{allowed}
use Rattle.tensor_header.specs.Tensors.{tensors, entry_at}
use Rattle.picture_limits.specs.declared.Refusal.{Refusal}
use Rattle.tensor_header.specs.declared.Misread.{Misread}

-- ---- the file's parts

abbrev pub header_length : List ℕ → ℕ
header_length file = little (take 8 file)

-- there are eight bytes, and the header does not pass the end
abbrev pub framed : List ℕ → Bool
framed file = leb 8 (length file) && leb (header_length file) (length file - 8)

abbrev pub header_of : List ℕ → List ℕ
header_of file = region file 8 (header_length file)

abbrev pub data_of : List ℕ → List ℕ
data_of file = drop (8 + header_length file) file

-- ---- the header

unfoldable pub is_object : {d : ℕ} {l r : List ℕ} → Value d l r → Bool
is_object G.value-false = false
is_object G.value-null = false
is_object G.value-true = false
is_object (G.number k) = false
is_object (G.string k) = false
is_object (G.empty-array w) = false
is_object (G.array k) = false
is_object (G.empty-object w) = true
is_object (G.object k) = true

-- the byte of the header h at which an entry's value begins; 0 where there is none
unfoldable pub place_in : List ℕ → Option Entry → ℕ
place_in h None = 0
place_in h (Some e) = length h - length e.from

-- how many bytes the header has; or why the file is refused, and at which byte
abbrev pub Opened : Type 0
Opened = Result ℕ Misread

-- 16 at byte n of the header
abbrev pub damaged : ℕ → Misread
damaged n = record { why = Header; place = 8 + n }

abbrev pub refused : Refusal → ℕ → Opened
refused why n = Err (record { why = why; place = n })

-- what a header says that is a text: 16 where it is no object
unfoldable pub opened : {d : ℕ} {h : List ℕ} → Text d h → Opened
opened {h = h} (text {m = m} w root u) = cond (is_object root) (Ok (length h)) (Err (damaged (length h - length m)))

-- the places of the tensors that are asked for, 0 where there is none, in a list of as many as there were
unfoldable pub placed : {d : ℕ} {h : List ℕ} → EncoderSettings → Text d h → List ℕ → List ℕ
placed {h = h} s (text w root u) before = cond (is_object root) (tab (length before) (λ i. place_in h (entry_at (tensors s) (entries_of root) i))) before

-- The answer r for a header alone. Of every header one of the three is the case, and no other: byte n stops it, or the bracket
-- at byte n opens level 33, or it is a text of at most 32 levels
pub record Headed (s : EncoderSettings) (h before after : List ℕ) (r : Opened) : Type 0 where
  pub stopped : (n : ℕ) → Stopped 32 h n → (r ≡ Err (damaged n)) × (after ≡ before)
  pub deep : (n : ℕ) → Deepened 32 h n → (r ≡ Err (damaged n)) × (after ≡ before)
  pub read : (t : Text 32 h) → (r ≡ opened t) × (after ≡ placed s t before)

-- The answer r for a file, and the places after it
pub record Opening (s : EncoderSettings) (file before after : List ℕ) (r : Opened) : Type 0 where
  pub setting : allowed s ≡ false → (r ≡ refused Setting 0) × (after ≡ before)
  pub unframed : allowed s ≡ true → framed file ≡ false → (r ≡ refused Header 0) × (after ≡ before)
  pub headed : allowed s ≡ true → framed file ≡ true → Headed s (header_of file) before after r
