-- Names behind a prefix, and at a place of the list of tensors. Assumes nothing.
use Rattle.std.specs.Prelude.{Option, None, Some}
use mathlib.Core.Path.{◌≡◌, refl, ap, ◌∙◌}
use mathlib.Core.Bool.{Bool, true, false, cond}
use mathlib.Core.List.{List, [], ◌∷◌, ◌++◌}
use Prim.Native.Nat.{ℕ, zero, suc, ◌+◌, ◌-◌, ◌*◌, ◌/◌, ◌%◌, ◌≤◌, ◌<◌}
use native.Mathlib.Decide.{dec_lt}
use native.Mathlib.Omega.{arith}
use lib.Dec.{ltb, eqb}
use lib.ListN.{length, get_or, drop, length-append}
use borrow.Author.Tests.{lt-ltb, le-ltb}
use Rattle.buffers.specs.Rows.{rows}
use Rattle.encoder_settings.specs.declared.EncoderSettings.{EncoderSettings}
use Rattle.encoder_settings.specs.Weights.{Table, layer, projector, has_bias}
use Rattle.json_members.specs.Names.{word}
use Rattle.json_members.specs.inner.Bytes.{code_of, width_of, behind_at, followed}
use Rattle.json_members.proofs.Named.{name-parts}
use Rattle.tensor_header.specs.Tensors.{Tensor, last_digits, decimal, in_layer, tensors_of, embedding_tensors, layer_tensors, projector_tensors, tensors}
use Rattle.tensor_header.specs.Header.{header_length}
use Rattle.tensor_header.specs.inner.Named.{names, named_at, embedding_names, part_names, projector_names}

-- ---- layers have at most two digits

pub one-digit : (l : ℕ) → l < 10 → decimal l ++ word "." ≡ (48 + l % 10) ∷ (0x2E ∷ [])
unfolding last_digits
one-digit l h = rw (lt-ltb l 10 h, small l h)
  where
    small : (l : ℕ) → l < 10 → l % 10 ≡ l
    small l h = omega arith

two-of : (l n : ℕ) → 10 ≤ n → n < 100 → last_digits (suc (suc l)) n ++ word "." ≡ (48 + n / 10) ∷ ((48 + n % 10) ∷ (0x2E ∷ []))
unfolding last_digits
two-of l n h k = rw (le-ltb n 10 h, lt-ltb (n / 10) 10 (omega arith))

pub two_digits : (l : ℕ) → 10 ≤ l → l < 100 → decimal l ++ word "." ≡ (48 + l / 10) ∷ ((48 + l % 10) ∷ (0x2E ∷ []))
two_digits zero h k = absurd (omega arith)
two_digits (suc l) h k = two-of l (suc l) h k

-- ---- behind a prefix

nothing : (o : Option ℕ) → false ≡ followed o (λ n. false)
nothing None = refl
nothing (Some n) = refl

pub named-behind : (h p : List ℕ) (t : Table) (i k : ℕ) → named_at (names (tensors_of p t)) i (drop k h) ≡ followed (behind_at h k p) (λ n. named_at (names (tensors_of [] t)) i (drop n h))
named-behind h p [] i k = nothing (behind_at h k p)
named-behind h p (x ∷ t) zero k = name-parts h k p _
named-behind h p (x ∷ t) (suc i) k = named-behind h p t i k

pub behind-parts : (h a b : List ℕ) (k : ℕ) (f : ℕ → Bool) → followed (behind_at h k (a ++ b)) f ≡ followed (behind_at h k a) (λ n. followed (behind_at h n b) f)
unfolding behind_at
behind-parts h [] b k f = refl
behind-parts h (x ∷ a) b k f = of (ltb k (length h)) (eqb (get_or h k 0) 0x22) (eqb (code_of (drop k h)) x) (behind-parts h a b (k + width_of (get_or h k 0) (drop (k + 1) h)) f)
  where
    on : ℕ
    on = k + width_of (get_or h k 0) (drop (k + 1) h)

    of :
        (t u v : Bool) →
        followed (behind_at h on (a ++ b)) f ≡ followed (behind_at h on a) (λ n. followed (behind_at h n b) f) →
        followed (cond t (cond u None (cond v (behind_at h on (a ++ b)) None)) None) f ≡ followed (cond t (cond u None (cond v (behind_at h on a) None)) None) (λ n. followed (behind_at h n b) f)
    of true true v e = refl
    of true false true e = e
    of true false false e = refl
    of false u v e = refl

-- ---- at a place of a list

-- i is none of the first
pub above : {i : ℕ} (k : ℕ) → k ≤ i → (i ≡ k → ⊥) → suc k ≤ i
above k h n = omega arith

pub named_past : (ws : List (List ℕ)) (i : ℕ) (l : List ℕ) → length ws ≤ i → named_at ws i l ≡ false
named_past [] i l h = refl
named_past (w ∷ ws) zero l h = absurd (omega arith)
named_past (w ∷ ws) (suc i) l h = named_past ws i l (omega arith)

named-left : (a b : List (List ℕ)) (i : ℕ) (l : List ℕ) → i < length a → named_at (a ++ b) i l ≡ named_at a i l
named-left [] b i l h = absurd (omega arith)
named-left (w ∷ a) b zero l h = refl
named-left (w ∷ a) b (suc i) l h = named-left a b i l (omega arith)

named-right : (a b : List (List ℕ)) (i j : ℕ) (l : List ℕ) → i ≡ length a + j → named_at (a ++ b) i l ≡ named_at b j l
named-right [] b i j l h = let e : i ≡ j = omega arith in ap (λ (k : ℕ). named_at b k l) e
named-right (w ∷ a) b zero j l h = absurd (omega arith)
named-right (w ∷ a) b (suc i) j l h = named-right a b i j l (omega arith)

names-append : (a b : List Tensor) → names (a ++ b) ≡ names a ++ names b
names-append [] b = refl
names-append (t ∷ a) b = ap (λ (ws : List (List ℕ)). t.name ∷ ws) (names-append a b)

-- a bias follows linear_1, so the first three names are those of a projector without
pub first_three : (i : ℕ) (l : List ℕ) → i < 3 → named_at (projector_names true) i l ≡ named_at (projector_names false) i l
first_three zero l h = refl
first_three (suc zero) l h = refl
first_three (suc (suc zero)) l h = refl
first_three (suc (suc (suc i))) l h = absurd (omega arith)

-- ---- layer after layer

module _ (s : EncoderSettings) where
  layers-length : (n : ℕ) → length (names (rows n (layer_tensors s))) ≡ n * 9
  unfolding rows
  layers-length zero = refl
  layers-length (suc n) =
      let e = ap length (names-append (rows n (layer_tensors s)) (layer_tensors s n)) ∙ length-append (names (rows n (layer_tensors s))) (names (layer_tensors s n)) in
      omega (arith, e, layers-length n)

  layer-named : (n l j : ℕ) (m : List ℕ) → l < n → j < 9 → named_at (names (rows n (layer_tensors s))) (l * 9 + j) m ≡ named_at (names (layer_tensors s l)) j m
  unfolding rows
  layer-named zero l j m h k = absurd (omega arith)
  layer-named (suc n) l j m h k = ap (λ (ws : List (List ℕ)). named_at ws (l * 9 + j) m) (names-append (rows n (layer_tensors s)) (layer_tensors s n)) ∙ of (dec_lt l n) (λ x. layer-named n l j m x k)
    where
      of : Dec (l < n) → (l < n → named_at (names (rows n (layer_tensors s))) (l * 9 + j) m ≡ named_at (names (layer_tensors s l)) j m) → named_at (names (rows n (layer_tensors s)) ++ names (layer_tensors s n)) (l * 9 + j) m ≡ named_at (names (layer_tensors s l)) j m
      of (yes x) f = named-left (names (rows n (layer_tensors s))) (names (layer_tensors s n)) (l * 9 + j) m (omega (arith, layers-length n)) ∙ f x
      of (no x) f =
          let e : n ≡ l = omega arith in
          named-right (names (rows n (layer_tensors s))) (names (layer_tensors s n)) (l * 9 + j) j m (omega (arith, layers-length n, e)) ∙ ap (λ (i : ℕ). named_at (names (layer_tensors s i)) j m) e

  three-parts : names (tensors s) ≡ names (embedding_tensors s) ++ (names (rows s.num_layers (layer_tensors s)) ++ names (projector_tensors s))
  unfolding tensors
  three-parts =
      names-append (embedding_tensors s) (rows s.num_layers (layer_tensors s) ++ projector_tensors s)
      ∙ ap (λ (ws : List (List ℕ)). names (embedding_tensors s) ++ ws) (names-append (rows s.num_layers (layer_tensors s)) (projector_tensors s))

  pub in-embedding : (i : ℕ) (m : List ℕ) → i < 2 → named_at (names (tensors s)) i m ≡ named_at embedding_names i m
  in-embedding i m h = ap (λ (ws : List (List ℕ)). named_at ws i m) three-parts ∙ named-left (names (embedding_tensors s)) (names (rows s.num_layers (layer_tensors s)) ++ names (projector_tensors s)) i m h

  pub in-layers : (i k : ℕ) (m : List ℕ) → i ≡ 2 + k → k / 9 < s.num_layers → named_at (names (tensors s)) i m ≡ named_at (names (layer_tensors s (k / 9))) (k % 9) m
  in-layers i k m e h =
      let d : k ≡ k / 9 * 9 + k % 9 = omega arith in
      ap (λ (ws : List (List ℕ)). named_at ws i m) three-parts ∙ named-right (names (embedding_tensors s)) (names (rows s.num_layers (layer_tensors s)) ++ names (projector_tensors s)) i k m e
      ∙ named-left (names (rows s.num_layers (layer_tensors s))) (names (projector_tensors s)) k m (omega (arith, layers-length s.num_layers))
      ∙ ap (λ (x : ℕ). named_at (names (rows s.num_layers (layer_tensors s))) x m) d
      ∙ layer-named s.num_layers (k / 9) (k % 9) m h (omega arith)

  pub in-projector : (i k : ℕ) (m : List ℕ) → i ≡ 2 + k → s.num_layers ≤ k / 9 → named_at (names (tensors s)) i m ≡ named_at (projector_names (has_bias s)) (k - 9 * s.num_layers) m
  in-projector i k m e h =
      ap (λ (ws : List (List ℕ)). named_at ws i m) three-parts ∙ named-right (names (embedding_tensors s)) (names (rows s.num_layers (layer_tensors s)) ++ names (projector_tensors s)) i k m e
      ∙ named-right (names (rows s.num_layers (layer_tensors s))) (names (projector_tensors s)) k (k - 9 * s.num_layers) m (omega (arith, layers-length s.num_layers))
      ∙ of (has_bias s)
    where
      of : (b : Bool) → named_at (names (tensors_of [] (projector s.hidden_size (s.hidden_size * (s.picture.spatial_merge_size * s.picture.spatial_merge_size)) s.text_hidden_size b))) (k - 9 * s.num_layers) m ≡ named_at (projector_names b) (k - 9 * s.num_layers) m
      of true = refl
      of false = refl

  -- ---- by what was found

  pub layer-by : (h : List ℕ) (at i k n : ℕ) → i ≡ 2 + k → k / 9 < s.num_layers → Some n ≡ behind_at h at (word "vision_tower.transformer.layers.") → named_at (names (tensors s)) i (drop at h) ≡ followed (behind_at h n (decimal (k / 9) ++ word ".")) (λ m. named_at part_names (k % 9) (drop m h))
  layer-by h at i k n e l b =
      in-layers i k (drop at h) e l ∙ named-behind h (in_layer (k / 9)) (layer s.hidden_size s.intermediate_size) (k % 9) at
      ∙ behind-parts h (word "vision_tower.transformer.layers.") (decimal (k / 9) ++ word ".") at _ ∙ rw (← b) refl

  pub no-layer-by : (h : List ℕ) (at i k : ℕ) → i ≡ 2 + k → k / 9 < s.num_layers → None ≡ behind_at h at (word "vision_tower.transformer.layers.") → named_at (names (tensors s)) i (drop at h) ≡ false
  no-layer-by h at i k e l b =
      in-layers i k (drop at h) e l ∙ named-behind h (in_layer (k / 9)) (layer s.hidden_size s.intermediate_size) (k % 9) at
      ∙ behind-parts h (word "vision_tower.transformer.layers.") (decimal (k / 9) ++ word ".") at _ ∙ rw (← b) refl

-- ---- the eight bytes

pub eight-bytes :
    (l : List ℕ) → 8 ≤ length l →
    header_length l ≡ get_or l 0 0 + 256 * (get_or l 1 0 + 256 * (get_or l 2 0 + 256 * get_or l 3 0)) + 4294967296 * (get_or l 4 0 + 256 * (get_or l 5 0 + 256 * (get_or l 6 0 + 256 * get_or l 7 0)))
eight-bytes (a ∷ (b ∷ (c ∷ (d ∷ (e ∷ (f ∷ (g ∷ (h ∷ l)))))))) k = omega arith
eight-bytes [] k = absurd (omega arith)
eight-bytes (a ∷ []) k = absurd (omega arith)
eight-bytes (a ∷ (b ∷ [])) k = absurd (omega arith)
eight-bytes (a ∷ (b ∷ (c ∷ []))) k = absurd (omega arith)
eight-bytes (a ∷ (b ∷ (c ∷ (d ∷ [])))) k = absurd (omega arith)
eight-bytes (a ∷ (b ∷ (c ∷ (d ∷ (e ∷ []))))) k = absurd (omega arith)
eight-bytes (a ∷ (b ∷ (c ∷ (d ∷ (e ∷ (f ∷ [])))))) k = absurd (omega arith)
eight-bytes (a ∷ (b ∷ (c ∷ (d ∷ (e ∷ (f ∷ (g ∷ []))))))) k = absurd (omega arith)
