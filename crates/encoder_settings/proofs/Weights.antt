-- Laws of a table of weights: each part stands behind all those before it, under a name of its own, and the parts tile the
-- slice. Assumes nothing.
use mathlib.Core.Path.{◌≡◌, refl, sym, ap, ◌∙◌}
use mathlib.Core.Bool.{Bool, true, false, cond}
use mathlib.Core.List.{List, [], ◌∷◌, ◌++◌, map, append_assoc, append-nil}
use Prim.Native.Nat.{ℕ, zero, suc, ◌+◌, ◌*◌, ◌≤◌}
use Prim.Native.String.{String}
use native.Mathlib.Nat.{zero-mul, one-mul}
use native.Mathlib.Omega.{arith}
use lib.Dec.{eqb}
use lib.ListN.{length, take, drop}
use lib.Seq.{drop-drop, take-add, take_all}
use lib.Text.{eqt}
use lib.Ieee.{Float}
use Rattle.buffers.specs.Rows.{rows}
use Rattle.buffers.specs.Region.{region}
use Rattle.buffers.proofs.Lists.{fit, rows_ext, equal-rows}
use Rattle.buffers.proofs.Regions.{length-region}
use Rattle.picture_limits.specs.Places.{patch_floats}
use Rattle.encoder_settings.specs.declared.EncoderSettings.{EncoderSettings}
use Rattle.encoder_settings.specs.Weights.{Table, floats, cut, named, part, embedding, layer, nth_layer, projector, has_bias, weights}
use Rattle.encoder_settings.specs.Settings.{merge_area, weight_floats}
use Rattle.encoder_settings.specs.inner.Bounds.{layer_sum, projector_sum}

-- ---- a part's place is the sum of the lengths before it

abbrev pub place_in : Table → String → ℕ
place_in [] name = 0
place_in (p ∷ t) name = cond (eqt p.0 name) 0 (p.1 + place_in t name)

abbrev pub floats_in : Table → String → ℕ
floats_in [] name = 0
floats_in (p ∷ t) name = cond (eqt p.0 name) p.1 (floats_in t name)

found : (b : Bool) (n a m : ℕ) (w l : List Float) → l ≡ region (drop n w) a m → cond b (take n w) l ≡ region w (cond b 0 (n + a)) (cond b n m)
found true n a m w l e = refl
found false n a m w l e = e ∙ ap (λ (u : List Float). take m u) (drop-drop a n w)

part-is : (t : Table) (name : String) (w : List Float) → part t name w ≡ region w (place_in t name) (floats_in t name)
unfolding cut named
part-is [] name w = refl
part-is (p ∷ t) name w = found (eqt p.0 name) p.1 (place_in t name) (floats_in t name) w (part t name (drop p.1 w)) (part-is t name (drop p.1 w))

-- where the code works it out to stand
pub stands : (t : Table) (name : String) (w : List Float) (at n : ℕ) → place_in t name ≡ at → floats_in t name ≡ n → region w at n ≡ part t name w
stands t name w at n e f = sym (part-is t name w ∙ ap (λ (a : ℕ). region w a (floats_in t name)) e ∙ ap (λ (m : ℕ). region w at m) f)

pub layer-long : (H I : ℕ) → layer_sum H I ≡ floats (layer H I)
layer-long H I = omega arith

-- of a projector whose bias is none or one
pub projector-long : (H wide X b : ℕ) → b ≤ 1 → projector_sum H wide X b ≡ floats (projector H wide X (eqb b 1))
projector-long H wide X zero h = let e = zero-mul X in omega (arith, e)
projector-long H wide X (suc zero) h = let e = one-mul X in omega (arith, e)
projector-long H wide X (suc (suc b)) h = absurd (omega (arith, h))

-- ---- no name stands twice in a table: what is found under each is its own piece

abbrev by_name : Table → List Float → List (String × List Float)
by_name t w = map (λ p. (p.0, part t p.0 w)) t

pub embedding-named : (H F : ℕ) (w : List Float) → cut (embedding H F) w ≡ by_name (embedding H F) w
unfolding cut named
embedding-named H F w = refl

pub layer-named : (H I : ℕ) (w : List Float) → cut (layer H I) w ≡ by_name (layer H I) w
unfolding cut named
layer-named H I w = refl

pub projector-named : (H wide X : ℕ) (bias : Bool) (w : List Float) → cut (projector H wide X bias) w ≡ by_name (projector H wide X bias) w
unfolding cut named
projector-named H wide X true w = refl
projector-named H wide X false w = refl

pub weights-named : (s : EncoderSettings) (w : List Float) → cut (weights s) w ≡ by_name (weights s) w
unfolding cut named
weights-named s w = refl

-- ---- the parts tile the slice

unfoldable pub joined : List (String × List Float) → List Float
joined [] = []
joined (p ∷ ps) = p.1 ++ joined ps

cut-front : (t : Table) (w : List Float) → joined (cut t w) ≡ take (floats t) w
unfolding cut joined
cut-front [] w = refl
cut-front (p ∷ t) w = ap (λ (l : List Float). take p.1 w ++ l) (cut-front t (drop p.1 w)) ∙ sym (take-add p.1 (floats t) w)

pub tiled : (t : Table) (w : List Float) → length w ≡ floats t → joined (cut t w) ≡ w
tiled t w e = cut-front t w ∙ take_all (floats t) w (omega arith)

joined-append : (ps qs : List (String × List Float)) → joined (ps ++ qs) ≡ joined ps ++ joined qs
unfolding joined
joined-append [] qs = refl
joined-append (p ∷ ps) qs = ap (λ (l : List Float). p.1 ++ l) (joined-append ps qs) ∙ sym (append_assoc p.1 (joined ps) (joined qs))

joined-rows : (n : ℕ) (f : ℕ → List (String × List Float)) → joined (rows n f) ≡ rows n (λ i. joined (f i))
unfolding joined rows
joined-rows zero f = refl
joined-rows (suc n) f = joined-append (rows n f) (f n) ∙ ap (λ (l : List Float). l ++ joined (f n)) (joined-rows n f)

-- ---- and those of all weights

module _ (s : EncoderSettings) (w : List Float) where
  abbrev H : ℕ
  H = s.hidden_size

  abbrev layer_parts : Table
  layer_parts = layer H s.intermediate_size

  abbrev embedding_parts : Table
  embedding_parts = embedding H (patch_floats s.picture.patch_size)

  abbrev projector_parts : Table
  projector_parts = projector H (H * merge_area s.picture) s.text_hidden_size (has_bias s)

  -- by their names, in order: the embedding's, those of each layer, the projector's
  abbrev pub all_parts : List (String × List Float)
  all_parts =
      cut embedding_parts (part (weights s) "embedding" w)
      ++ (rows s.num_layers (λ l. cut layer_parts (nth_layer H s.intermediate_size l (part (weights s) "layers" w)))
      ++ cut projector_parts (part (weights s) "projector" w))

  long : (name : String) → place_in (weights s) name + floats_in (weights s) name ≤ length w → length (part (weights s) name w) ≡ floats_in (weights s) name
  long name h = ap length (part-is (weights s) name w) ∙ length-region w (place_in (weights s) name) (floats_in (weights s) name) h

  layers-tiled : (v : List Float) → length v ≡ s.num_layers * floats layer_parts → joined (rows s.num_layers (λ l. cut layer_parts (nth_layer H s.intermediate_size l v))) ≡ v
  layers-tiled v e =
      let n = floats layer_parts in
      let L = s.num_layers in
      joined-rows L (λ l. cut layer_parts (region v (l * n) n))
      ∙ rows_ext L (λ l. joined (cut layer_parts (region v (l * n) n))) (λ l. region v (l * n) n) (λ l h. tiled layer_parts (region v (l * n) n) (length-region v (l * n) n (let f : l * n + n ≤ L * n = fit n h in omega arith)))
      ∙ equal-rows L n v ∙ take_all (L * n) v (omega arith)

  groups-tiled : length w ≡ weight_floats s → part (weights s) "embedding" w ++ (part (weights s) "layers" w ++ part (weights s) "projector" w) ≡ w
  unfolding cut named joined
  groups-tiled e =
      ap (λ (l : List Float). part (weights s) "embedding" w ++ (part (weights s) "layers" w ++ l)) (sym (append-nil (part (weights s) "projector" w))) ∙ tiled (weights s) w e

  pub weights-tiled : length w ≡ weight_floats s → joined all_parts ≡ w
  weights-tiled e =
      let A = cut embedding_parts (part (weights s) "embedding" w) in
      let B = rows s.num_layers (λ l. cut layer_parts (nth_layer H s.intermediate_size l (part (weights s) "layers" w))) in
      let C = cut projector_parts (part (weights s) "projector" w) in
      let a = tiled embedding_parts (part (weights s) "embedding" w) (long "embedding" (omega arith)) in
      let b = layers-tiled (part (weights s) "layers" w) (long "layers" (omega arith)) in
      let c = tiled projector_parts (part (weights s) "projector" w) (long "projector" (omega arith)) in
      joined-append A (B ++ C) ∙ ap (λ (l : List Float). joined A ++ l) (joined-append B C) ∙ rw (a, b, c) (groups-tiled e)
