-- What the walk over a header's members leaves. Assumes nothing.
use Rattle.std.specs.Prelude.{◌≡◌, cond, List, ℕ, ◌≤◌, ◌<◌, length, get_or}
use Rattle.buffers.specs.Rows.{tab}
use Rattle.json_grammar.specs.Grammar.{Text}
use Rattle.json_members.specs.inner.Turns.{Finds}
use Rattle.encoder_settings.specs.declared.EncoderSettings.{EncoderSettings}
use Rattle.tensor_header.specs.Tensors.{tensors}
use Rattle.tensor_header.specs.Header.{Opened, opened, placed}
use Rattle.tensor_header.specs.inner.Named.{names, named_at, name_at}

-- as many zeros
abbrev pub nowhere : List ℕ → List ℕ
nowhere before = tab (length before) (λ i. 0)

-- a member more, whose name begins l and whose value stands at v
unfoldable pub noted : EncoderSettings → List ℕ → ℕ → List ℕ → List ℕ
noted s l v before = tab (length before) (λ i. cond (named_at (names (tensors s)) i l) v (get_or before i 0))

-- P holds of the name of each tensor and its place, and behind the tensors there is none
pub record Each (s : EncoderSettings) (P : List ℕ → ℕ → Type 0) (i n : ℕ) : Type 0 where
  pub there : i < length (names (tensors s)) → P (name_at (names (tensors s)) i) n
  pub beyond : length (names (tensors s)) ≤ i → n ≡ 0

-- behind the bracket at which an object opens
pub record Walked (s : EncoderSettings) (h : List ℕ) (at : ℕ) (places : List ℕ) : Type 0 where
  pub each : (i : ℕ) → i < length places → Each s (Finds h at 31) i (get_or places i 0)

-- what a text says, if it is one
pub record Found (s : EncoderSettings) (h before after : List ℕ) (r : Opened) : Type 0 where
  pub told : (t : Text 32 h) → (r ≡ opened t) × (after ≡ placed s t before)
