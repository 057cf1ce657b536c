-- The tensors' names are of ASCII. Assumes nothing.
use mathlib.Core.Path.{◌≡◌, refl}
use mathlib.Core.Bool.{Bool, true, false, cond, ◌&&◌, false≢true}
use mathlib.Core.List.{List, [], ◌∷◌, ◌++◌}
use Prim.Native.Nat.{ℕ, zero, suc, ◌+◌, ◌*◌, ◌/◌, ◌%◌, ◌≤◌}
use Prim.Native.String.{String}
use native.Mathlib.Omega.{arith}
use lib.Dec.{ltb}
use lib.Text.{eqt}
use borrow.Author.Tests.{ltb-true}
use Rattle.buffers.specs.Rows.{rows}
use Rattle.picture_limits.specs.Places.{patch_floats}
use Rattle.encoder_settings.specs.declared.EncoderSettings.{EncoderSettings}
use Rattle.encoder_settings.specs.Weights.{Table, embedding, layer, projector, has_bias}
use Rattle.json_members.specs.Names.{word}
use Rattle.json_members.specs.inner.Turns.{Ascii}
use Rattle.json_members.proofs.Plain.{plain, ascii, ascii-both}
use Rattle.tensor_header.specs.Tensors.{Tensor, called, beside, last_digits, decimal, in_layer, tensors_of, embedding_tensors, layer_tensors, projector_tensors, tensors}
use Rattle.tensor_header.specs.inner.Named.{names, name_at}

-- ---- the words of a table of names

abbrev plain_all : List (String × String) → Bool
plain_all [] = true
plain_all (c ∷ cs) = plain (word c.1) && plain_all cs

both : (s t : Bool) → (s && t) ≡ true → (s ≡ true) × (t ≡ true)
both true t h = (refl, h)
both false t h = absurd (false≢true h)

beside_ascii : (cs : List (String × String)) (x : String) → plain_all cs ≡ true → Ascii (beside cs x)
beside_ascii [] x h = ascii [] refl
beside_ascii (c ∷ cs) x h = of (eqt c.0 x) (beside_ascii cs x (both (plain (word c.1)) (plain_all cs) h).1)
  where
    of : (t : Bool) → Ascii (beside cs x) → Ascii (cond t (word c.1) (beside cs x))
    of true k = ascii (word c.1) (both (plain (word c.1)) (plain_all cs) h).0
    of false k = k

-- ---- digits

one-ascii : (n : ℕ) → n ≤ 0x7F → Ascii (n ∷ [])
one-ascii n h zero = h
one-ascii n h (suc j) = omega arith

digits-ascii : (k n : ℕ) → Ascii (last_digits k n)
unfolding last_digits
digits-ascii zero n = ascii [] refl
digits-ascii (suc k) n = of (ltb n 10) refl (digits-ascii k (n / 10))
  where
    of : (t : Bool) → ltb n 10 ≡ t → Ascii (last_digits k (n / 10)) → Ascii (cond t ((48 + n) ∷ []) (last_digits k (n / 10) ++ ((48 + n % 10) ∷ [])))
    of true e h = one-ascii (48 + n) (omega (arith, ltb-true n 10 e))
    of false e h = ascii-both (last_digits k (n / 10)) ((48 + n % 10) ∷ []) h (one-ascii (48 + n % 10) (omega arith))

-- ---- tensors

data Every : List Tensor → Type 0 where
  no : Every []
  also : {t : Tensor} {ts : List Tensor} → Ascii t.name → Every ts → Every (t ∷ ts)

every-both : {a b : List Tensor} → Every a → Every b → Every (a ++ b)
every-both no y = y
every-both (also h x) y = also h (every-both x y)

every-at : {ts : List Tensor} → Every ts → (i : ℕ) → Ascii (name_at (names ts) i)
every-at no i = ascii [] refl
every-at (also h x) zero = h
every-at (also h x) (suc i) = every-at x i

of-table : (p : List ℕ) → Ascii p → (t : Table) → Every (tensors_of p t)
of-table p h [] = no
of-table p h (x ∷ t) = also (ascii-both p (beside called x.0) h (beside_ascii called x.0 refl)) (of-table p h t)

in-layer : (l : ℕ) → Ascii (in_layer l)
in-layer l = ascii-both (word "vision_tower.transformer.layers.") (decimal l ++ word ".") (ascii (word "vision_tower.transformer.layers.") refl) (ascii-both (decimal l) (word ".") (digits-ascii (suc l) l) (ascii (word ".") refl))

of-layers : (s : EncoderSettings) (n : ℕ) → Every (rows n (layer_tensors s))
unfolding rows
of-layers s zero = no
of-layers s (suc n) = every-both (of-layers s n) (of-table (in_layer n) (in-layer n) (layer s.hidden_size s.intermediate_size))

of-embedding : (s : EncoderSettings) → Every (embedding_tensors s)
of-embedding s = of-table [] (ascii [] refl) (embedding s.hidden_size (patch_floats s.picture.patch_size))

of-projector : (s : EncoderSettings) → Every (projector_tensors s)
of-projector s = of-table [] (ascii [] refl) (projector s.hidden_size (s.hidden_size * (s.picture.spatial_merge_size * s.picture.spatial_merge_size)) s.text_hidden_size (has_bias s))

pub names-ascii : (s : EncoderSettings) (i : ℕ) → Ascii (name_at (names (tensors s)) i)
unfolding tensors
names-ascii s = every-at (every-both (of-embedding s) (every-both (of-layers s s.num_layers) (of-projector s)))
