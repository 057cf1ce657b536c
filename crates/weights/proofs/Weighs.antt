-- The answer for a file by what the header's reader says. Assumes nothing.
use mathlib.Core.Path.{◌≡◌, refl, sym, ap, subst, ◌∙◌}
use mathlib.Core.Bool.{Bool, true, false, cond}
use mathlib.Core.List.{List}
use Prim.Native.Nat.{ℕ, ◌+◌, ◌-◌, ◌≤◌}
use native.Mathlib.Omega.{arith}
use lib.ListN.{length}
use Rattle.buffers.specs.Rows.{tab}
use Rattle.json_grammar.specs.Grammar.{Ws, Value, Text, text}
use Rattle.json_members.specs.Names.{entries_of}
use Rattle.picture_limits.specs.declared.Refusal.{Refusal}
use Rattle.picture_limits.specs.declared.Refusal.TheVariants.{Header}
use Rattle.encoder_settings.specs.declared.EncoderSettings.{EncoderSettings}
use Rattle.tensor_header.specs.Tensors.{tensors, entry_at}
use Rattle.tensor_header.specs.Header.{header_of, data_of, is_object, place_in, damaged, opened, placed, Opening}
use Rattle.tensor_header.specs.Header.{Opened}
use Rattle.tensor_header.specs.Header as O
use Rattle.tensor_header.proofs.Unique.{open-not, entries-stand, entries-placed}
use Rattle.tensor_header.specs.declared.Misread as H
use Rattle.weights.specs.File.{headless, answered, left_by, left, Weighing}
use Rattle.weights.specs.inner.Described.{Holds}
use Rattle.weights.specs.inner.Filled.{Reads}
use Rattle.weights.specs.File.{Weighed, refuse}
use Rattle.std.specs.Prelude.{Ok, Err}

-- ---- refused by the header's reader

abbrev told : Opened → Weighed
told (Ok n) = Ok n
told (Err m) = Err (headless m)

refused-by : (b : Bool) (n m p : ℕ) (why : Refusal) (full : Weighed) (floats out : List ℕ) → ◌≡◌ {A = Opened} (O.refused why p) (cond b (Ok n) (Err (damaged m))) → (refuse why 0 p ≡ cond b full (refuse Header 0 (8 + m))) × (out ≡ left_by (cond b full (refuse Header 0 (8 + m))) floats out)
refused-by true n m p why full floats out e = absurd (open-not n why p (sym e))
refused-by false n m p why full floats out e = (ap told e, refl)

refused-text : {h : List ℕ} (s : EncoderSettings) (t : Text 32 h) (why : Refusal) (p : ℕ) (bytes out : List ℕ) → O.refused why p ≡ opened t → (refuse why 0 p ≡ answered s t bytes (length out)) × (out ≡ left s t bytes out)
unfolding opened answered left
refused-text {h} s (text {m = m} w v u) why p bytes out e = refused-by (is_object v) (length h) (length h - length m) p why _ _ out e

pub when-refused : (s : EncoderSettings) (file before after out : List ℕ) (m : H.Misread) → Opening s file before after (Err m) → Weighing s file out out (Err (headless m))
when-refused s file before after out m x =
    record {
      setting = λ h. (ap told (x.setting h).0, refl);
      unframed = λ h f. (ap told (x.unframed h f).0, refl);
      stopped = λ h f n k. (ap told ((x.headed h f).stopped n k).0, refl);
      deep = λ h f n k. (ap told ((x.headed h f).deep n k).0, refl);
      read = λ h f t. refused-text s t m.why m.place (data_of file) out ((x.headed h f).read t).0;
    }

-- ---- read

-- the entries of a text that was opened stand at the places
holds : {h m n : List ℕ} (s : EncoderSettings) (w : Ws h m) (v : Value 32 m n) (before after : List ℕ) → length (tensors s) ≤ length before → after ≡ tab (length before) (λ i. place_in h (entry_at (tensors s) (entries_of v) i)) → Holds s h after (entries_of v)
holds {h} s w v before after l e =
    record {
      stands = λ i x. entries-stand s w v i x;
      place = λ i x. entries-placed h s v before after i (omega arith) e;
    }

read_by : (b : Bool) (n m k : ℕ) (r full : Weighed) (floats out after : List ℕ) → ◌≡◌ {A = Opened} (Ok n) (cond b (Ok m) (Err (damaged k))) → (b ≡ true → (r ≡ full) × (after ≡ left_by full floats out)) → (r ≡ cond b full (refuse Header 0 (8 + k))) × (after ≡ left_by (cond b full (refuse Header 0 (8 + k))) floats out)
read_by true n m k r full floats out after e f = f refl
read_by false n m k r full floats out after e f = absurd (open-not n _ _ e)

read-text : {h : List ℕ} (s : EncoderSettings) (t : Text 32 h) (n : ℕ) (bytes before places out after : List ℕ) (r : Weighed) → length (tensors s) ≤ length before → Ok n ≡ opened t → places ≡ placed s t before → Reads s h bytes places out after r → (r ≡ answered s t bytes (length out)) × (after ≡ left s t bytes out)
unfolding opened answered left placed
read-text {h} s (text {m = m} w v u) n bytes before places out after r l e p x =
    read_by (is_object v) n (length h) (length h - length m) r _ _ out after e (λ q. x.is (entries_of v) (holds s w v before places l (p ∙ rw q refl)))

pub when-open : (s : EncoderSettings) (file before places out after : List ℕ) (n : ℕ) (r : Weighed) → length (tensors s) ≤ length before → Opening s file before places (Ok n) → (h bytes : List ℕ) → h ≡ header_of file → bytes ≡ data_of file → Reads s h bytes places out after r → Weighing s file out after r
when-open s file before places out after n r l x h bytes p q y =
    record {
      setting = λ a. absurd (open-not n _ _ (x.setting a).0);
      unframed = λ a f. absurd (open-not n _ _ (x.unframed a f).0);
      stopped = λ a f m k. absurd (open-not n _ _ ((x.headed a f).stopped m k).0);
      deep = λ a f m k. absurd (open-not n _ _ ((x.headed a f).deep m k).0);
      read = λ a f t. read-text s t n (data_of file) before places out after r l ((x.headed a f).read t).0 ((x.headed a f).read t).1 (subst (λ (g : List ℕ). Reads s (header_of file) g places out after r) q (subst (λ (g : List ℕ). Reads s g bytes places out after r) p y));
    }
