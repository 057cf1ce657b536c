-- No two tensors that are asked for have the same name. Assumes nothing.
use mathlib.Core.Path.{◌≡◌, refl, sym, ◌∙◌}
use mathlib.Core.Bool.{Bool, true, false, not, ◌&&◌}
use mathlib.Core.List.{List, [], ◌∷◌, ◌++◌, append_assoc}
use Prim.Native.Nat.{ℕ, zero, suc, ◌+◌, ◌*◌, ◌/◌, ◌%◌, ◌≤◌, ◌<◌}
use native.Mathlib.Decide.{dec_lt}
use native.Mathlib.Omega.{arith}
use lib.Dec.{eqb}
use borrow.Author.Tests.{eq-eqb, ne_eqb}
use Rattle.buffers.specs.Rows.{rows}
use Rattle.buffers.proofs.Lists.{and_left, and_right}
use Rattle.json_members.specs.Names.{word, same}
use Rattle.encoder_settings.specs.declared.EncoderSettings.{EncoderSettings}
use Rattle.encoder_settings.specs.Weights.{Table, layer, projector, has_bias}
use Rattle.tensor_header.specs.Tensors.{Tensor, called, beside, decimal, in_layer, tensors_of, embedding_tensors, layer_tensors, tensors}
use Rattle.tensor_header.proofs.Listed.{one-digit, two_digits}
use Rattle.weights_trip.proofs.Found.{New, new_none, new, Apart, apart_none, apart}

-- ---- tests that compute

abbrev new_by : List ℕ → List Tensor → Bool
new_by w [] = true
new_by w (t ∷ ts) = not (same t.name w) && new_by w ts

abbrev apart_by : List Tensor → Bool
apart_by [] = true
apart_by (t ∷ ts) = new_by t.name ts && apart_by ts

unlike : (b : Bool) → not b ≡ true → b ≡ false
unlike true h = sym h
unlike false h = refl

new_by_lem : (w : List ℕ) (ts : List Tensor) → new_by w ts ≡ true → New w ts
new_by_lem w [] h = new_none
new_by_lem w (t ∷ ts) h = new (unlike (same t.name w) (and_left (not (same t.name w)) (new_by w ts) h)) (new_by_lem w ts (and_right (not (same t.name w)) (new_by w ts) h))

apart_by_lem : (ts : List Tensor) → apart_by ts ≡ true → Apart ts
apart_by_lem [] h = apart_none
apart_by_lem (t ∷ ts) h = apart (new_by_lem t.name ts (and_left (new_by t.name ts) (apart_by ts) h)) (apart_by_lem ts (and_right (new_by t.name ts) (apart_by ts) h))

-- ---- lists of two parts

new-both : {w : List ℕ} {a b : List Tensor} → New w a → New w b → New w (a ++ b)
new-both new_none y = y
new-both (new h x) y = new h (new-both x y)

-- no name of the first is one of the second
data Strange : List Tensor → List Tensor → Type 0 where
  strange-none : {b : List Tensor} → Strange [] b
  strange : {t : Tensor} {a b : List Tensor} → New t.name b → Strange a b → Strange (t ∷ a) b

strange-both : {a b c : List Tensor} → Strange a c → Strange b c → Strange (a ++ b) c
strange-both strange-none y = y
strange-both (strange n x) y = strange n (strange-both x y)

strange-to-both : {a b c : List Tensor} → Strange a b → Strange a c → Strange a (b ++ c)
strange-to-both strange-none strange-none = strange-none
strange-to-both (strange n x) (strange m y) = strange (new-both n m) (strange-to-both x y)

apart-both : {a b : List Tensor} → Apart a → Strange a b → Apart b → Apart (a ++ b)
apart-both apart_none strange-none y = y
apart-both (apart n x) (strange m s) y = apart (new-both n m) (apart-both x s y)

-- ---- behind a prefix

same-behind : (p x y : List ℕ) → same (p ++ x) (p ++ y) ≡ same x y
unfolding same
same-behind [] x y = refl
same-behind (c ∷ p) x y = rw (eq-eqb c c refl) (same-behind p x y)

new-behind : (p w : List ℕ) (t : Table) → New w (tensors_of [] t) → New (p ++ w) (tensors_of p t)
new-behind p w [] h = new_none
new-behind p w (x ∷ t) (new h n) = new (same-behind p (beside called x.0) w ∙ h) (new-behind p w t n)

apart-behind : (p : List ℕ) (t : Table) → Apart (tensors_of [] t) → Apart (tensors_of p t)
apart-behind p [] h = apart_none
apart-behind p (x ∷ t) (apart n h) = apart (new-behind p (beside called x.0) t n) (apart-behind p t h)

-- a name that no name behind p is
new-prefix : (p w : List ℕ) (t : Table) → ((x : List ℕ) → same (p ++ x) w ≡ false) → New w (tensors_of p t)
new-prefix p w [] h = new_none
new-prefix p w (x ∷ t) h = new (h (beside called x.0)) (new-prefix p w t h)

strange-prefix : (p : List ℕ) (t : Table) (b : List Tensor) → ((x : List ℕ) → New (p ++ x) b) → Strange (tensors_of p t) b
strange-prefix p [] b h = strange-none
strange-prefix p (x ∷ t) b h = strange (h (beside called x.0)) (strange-prefix p t b h)

-- ---- layers

and-false : (b : Bool) → (b && false) ≡ false
and-false true = refl
and-false false = refl

-- the numbers of two layers differ in a digit, or in where they end
numbers-differ : (l m : ℕ) → l < m → m < 100 → (x w : List ℕ) → same ((decimal m ++ word ".") ++ x) ((decimal l ++ word ".") ++ w) ≡ false
unfolding same
numbers-differ l m h k x w = of (dec_lt m 10) (dec_lt l 10) (dec_lt (l / 10) (m / 10))
  where
    of : Dec (m < 10) → Dec (l < 10) → Dec (l / 10 < m / 10) → same ((decimal m ++ word ".") ++ x) ((decimal l ++ word ".") ++ w) ≡ false
    of (yes i) q r = rw (one-digit m i, one-digit l (omega arith), ne_eqb (48 + m % 10) (48 + l % 10) (omega arith)) refl
    of (no i) (yes j) r = rw (two_digits m (omega arith) k, one-digit l j, ne_eqb (48 + m % 10) 0x2E (omega arith)) (and-false (eqb (48 + m / 10) (48 + l % 10)))
    of (no i) (no j) (yes r) = rw (two_digits m (omega arith) k, two_digits l (omega arith) (omega arith), ne_eqb (48 + m / 10) (48 + l / 10) (omega arith)) refl
    of (no i) (no j) (no r) = rw (two_digits m (omega arith) k, two_digits l (omega arith) (omega arith), ne_eqb (48 + m % 10) (48 + l % 10) (omega arith)) (and-false (eqb (48 + m / 10) (48 + l / 10)))

layers-differ : (l m : ℕ) → l < m → m < 100 → (x w : List ℕ) → same (in_layer m ++ x) (in_layer l ++ w) ≡ false
layers-differ l m h k x w =
    let p = word "vision_tower.transformer.layers." in
    rw (append_assoc p (decimal m ++ word ".") x, append_assoc p (decimal l ++ word ".") w, same-behind p ((decimal m ++ word ".") ++ x) ((decimal l ++ word ".") ++ w)) (numbers-differ l m h k x w)

module _ (s : EncoderSettings) where
  abbrev parts : Table
  parts = layer s.hidden_size s.intermediate_size

  layer-apart : (l : ℕ) → Apart (layer_tensors s l)
  unfolding same
  layer-apart l = apart-behind (in_layer l) parts (apart_by_lem (tensors_of [] parts) refl)

  before-layer : (n m : ℕ) → n ≤ m → m < 100 → Strange (rows n (layer_tensors s)) (layer_tensors s m)
  unfolding rows
  before-layer zero m h k = strange-none
  before-layer (suc n) m h k = strange-both (before-layer n m (omega arith) k) (strange-prefix (in_layer n) parts (layer_tensors s m) (λ w. new-prefix (in_layer m) (in_layer n ++ w) parts (λ x. layers-differ n m h k x w)))

  layers-apart : (n : ℕ) → n ≤ 100 → Apart (rows n (layer_tensors s))
  unfolding rows
  layers-apart zero h = apart_none
  layers-apart (suc n) h = apart-both (layers-apart n (omega arith)) (before-layer n n (omega arith) h) (layer-apart n)

  -- ---- the three groups

  no-layer : (w : List ℕ) → ((l : ℕ) (x : List ℕ) → same (in_layer l ++ x) w ≡ false) → (n : ℕ) → New w (rows n (layer_tensors s))
  unfolding rows
  no-layer w h zero = new_none
  no-layer w h (suc n) = new-both (no-layer w h n) (new-prefix (in_layer n) w parts (h n))

  embedding-before-layers : (n : ℕ) → Strange (embedding_tensors s) (rows n (layer_tensors s))
  unfolding same
  embedding-before-layers n = strange (no-layer (word "vision_tower.patch_conv.weight") (λ l x. refl) n) (strange (no-layer (word "vision_tower.ln_pre.weight") (λ l x. refl) n) strange-none)

  embedding-apart : Apart (embedding_tensors s)
  unfolding same
  embedding-apart = apart_by_lem (embedding_tensors s) refl

  abbrev projecting : Bool → List Tensor
  projecting b =
      let H = s.hidden_size in
      let m = s.picture.spatial_merge_size in
      tensors_of [] (projector H (H * (m * m)) s.text_hidden_size b)

  projector-apart : (b : Bool) → Apart (projecting b)
  unfolding same
  projector-apart true = apart_by_lem (projecting true) refl
  projector-apart false = apart_by_lem (projecting false) refl

  embedding-before-projector : (b : Bool) → Strange (embedding_tensors s) (projecting b)
  unfolding same
  embedding-before-projector true = strange (new_by_lem (word "vision_tower.patch_conv.weight") (projecting true) refl) (strange (new_by_lem (word "vision_tower.ln_pre.weight") (projecting true) refl) strange-none)
  embedding-before-projector false = strange (new_by_lem (word "vision_tower.patch_conv.weight") (projecting false) refl) (strange (new_by_lem (word "vision_tower.ln_pre.weight") (projecting false) refl) strange-none)

  layer-before-projector : (b : Bool) (l : ℕ) (x : List ℕ) → New (in_layer l ++ x) (projecting b)
  unfolding same
  layer-before-projector true l x = new_by_lem (in_layer l ++ x) (projecting true) refl
  layer-before-projector false l x = new_by_lem (in_layer l ++ x) (projecting false) refl

  layers-before-projector : (b : Bool) (n : ℕ) → Strange (rows n (layer_tensors s)) (projecting b)
  unfolding rows
  layers-before-projector b zero = strange-none
  layers-before-projector b (suc n) = strange-both (layers-before-projector b n) (strange-prefix (in_layer n) parts (projecting b) (layer-before-projector b n))

  pub names-differ : s.num_layers ≤ 100 → Apart (tensors s)
  unfolding tensors
  names-differ h =
      let n = s.num_layers in
      let b = has_bias s in
      apart-both embedding-apart (strange-to-both (embedding-before-layers n) (embedding-before-projector b)) (apart-both (layers-apart n h) (layers-before-projector b n) (projector-apart b))
