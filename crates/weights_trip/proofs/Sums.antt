-- The tensors that are asked for: names of letters, counts that sum to the weights' floats, and numbers that fit. Assumes nothing.
use mathlib.Core.Path.{◌≡◌, refl, sym, ap, ◌∙◌}
use mathlib.Core.Bool.{Bool, true, false, cond, ◌&&◌}
use mathlib.Core.List.{List, [], ◌∷◌, ◌++◌}
use Prim.Native.Nat.{ℕ, zero, suc, ◌+◌, ◌*◌, ◌/◌, ◌%◌, ◌≤◌, ◌<◌}
use Prim.Native.String.{String}
use native.Mathlib.Nat.{zero-mul, add-mul}
use native.Mathlib.Omega.{arith}
use lib.Dec.{ltb, leb}
use lib.Text.{eqt}
use lib.ListN.{length, length-append}
use borrow.Author.Tests.{ltb-true, leb-true}
use Rattle.buffers.specs.Rows.{rows}
use Rattle.buffers.proofs.Lists.{and_left, and_right, length-pieces}
use Rattle.picture_limits.specs.Places.{patch_floats}
use Rattle.json_members.specs.Names.{word}
use Rattle.encoder_settings.specs.declared.EncoderSettings.{EncoderSettings}
use Rattle.encoder_settings.specs.Weights.{Table, floats, embedding, layer, projector, has_bias}
use Rattle.encoder_settings.specs.Settings.{weight_floats}
use Rattle.encoder_settings.specs.inner.Bounds.{Bounded}
use Rattle.tensor_values.specs.declared.Kind.{Kind}
use Rattle.tensor_values.specs.declared.Kind.TheVariants.{F32, BF16, F16}
use Rattle.tensor_values.specs.Values.{size_of}
use Rattle.tensor_header.specs.Tensors.{Tensor, called, beside, last_digits, decimal, in_layer, tensors_of, embedding_tensors, layer_tensors, projector_tensors, tensors}
use Rattle.weights_trip.specs.Plainest.{bytes_in}
use Rattle.weights_trip.proofs.Texts.{Letters, no-letters, mid, letters-both, lettered, letters}
use Rattle.weights_trip.proofs.Entries.{Fine, no-tensors, fine, bytes_of_all}

-- ---- names

abbrev plain_all : List (String × String) → Bool
plain_all [] = true
plain_all (c ∷ cs) = (lettered (word c.1) && leb (length (word c.1)) 64) && plain_all cs

beside-plain : (cs : List (String × String)) (x : String) → plain_all cs ≡ true → Letters (beside cs x) × (length (beside cs x) ≤ 64)
beside-plain [] x h = (no-letters, omega arith)
beside-plain (c ∷ cs) x h = of (eqt c.0 x) (beside-plain cs x (and_right (lettered (word c.1) && leb (length (word c.1)) 64) (plain_all cs) h))
  where
    own : lettered (word c.1) && leb (length (word c.1)) 64 ≡ true
    own = and_left (lettered (word c.1) && leb (length (word c.1)) 64) (plain_all cs) h

    of : (t : Bool) → Letters (beside cs x) × (length (beside cs x) ≤ 64) → Letters (cond t (word c.1) (beside cs x)) × (length (cond t (word c.1) (beside cs x)) ≤ 64)
    of true k = (letters (word c.1) (and_left (lettered (word c.1)) (leb (length (word c.1)) 64) own), leb-true (length (word c.1)) 64 (and_right (lettered (word c.1)) (leb (length (word c.1)) 64) own))
    of false k = k

digit-plain : (x : ℕ) → x < 10 → Letters ((48 + x) ∷ [])
digit-plain x h = mid {x = 48 + x} (omega arith) (omega arith) no-letters

digits-plain : (k n : ℕ) → Letters (last_digits k n) × (length (last_digits k n) ≤ k)
unfolding last_digits
digits-plain zero n = (no-letters, omega arith)
digits-plain (suc k) n = of (ltb n 10) refl (digits-plain k (n / 10))
  where
    of : (t : Bool) → ltb n 10 ≡ t → Letters (last_digits k (n / 10)) × (length (last_digits k (n / 10)) ≤ k) → Letters (cond t ((48 + n) ∷ []) (last_digits k (n / 10) ++ ((48 + n % 10) ∷ []))) × (length (cond t ((48 + n) ∷ []) (last_digits k (n / 10) ++ ((48 + n % 10) ∷ []))) ≤ suc k)
    of true e h = (digit-plain n (ltb-true n 10 e), omega arith)
    of false e h = (letters-both h.0 (digit-plain (n % 10) (omega arith)), omega (arith, h.1, length-append (last_digits k (n / 10)) ((48 + n % 10) ∷ [])))

pub decimal-length : (n : ℕ) → length (decimal n) ≤ n + 1
decimal-length n = omega (arith, (digits-plain (suc n) n).1)

in-layer-plain : (l : ℕ) → l < 48 → Letters (in_layer l) × (length (in_layer l) ≤ 84)
in-layer-plain l h =
    let p = word "vision_tower.transformer.layers." in
    let d = digits-plain (suc l) l in
    (letters-both (letters p refl) (letters-both d.0 (letters (word ".") refl)), omega (arith, d.1, length-append p (decimal l ++ word "."), length-append (decimal l) (word ".")))

fine-both : {a b : List Tensor} → Fine a → Fine b → Fine (a ++ b)
fine-both no-tensors y = y
fine-both (fine p h x) y = fine p h (fine-both x y)

fine-table : (p : List ℕ) → Letters p → length p ≤ 84 → (t : Table) → Fine (tensors_of p t)
fine-table p h k [] = no-tensors
fine-table p h k (x ∷ t) =
    let b = beside-plain called x.0 refl in
    fine (letters-both h b.0) (omega (arith, b.1, length-append p (beside called x.0))) (fine-table p h k t)

-- ---- counts

abbrev pub counts : List Tensor → ℕ
counts [] = 0
counts (t ∷ ts) = t.count + counts ts

counts-both : (a b : List Tensor) → counts (a ++ b) ≡ counts a + counts b
counts-both [] b = omega arith
counts-both (t ∷ a) b = omega (arith, counts-both a b)

counts-table : (p : List ℕ) (t : Table) → counts (tensors_of p t) ≡ floats t
counts-table p [] = refl
counts-table p (x ∷ t) = ap (λ (n : ℕ). x.1 + n) (counts-table p t)

length-table : (p : List ℕ) (t : Table) → length (tensors_of p t) ≡ length t
length-table p [] = refl
length-table p (x ∷ t) = ap suc (length-table p t)

pub bytes-are : (k : Kind) (ts : List Tensor) → bytes_of_all k ts ≡ counts ts * size_of k
bytes-are k [] = sym (zero-mul (size_of k))
bytes-are k (t ∷ ts) = ap (λ (n : ℕ). bytes_in k t + n) (bytes-are k ts) ∙ sym (add-mul t.count (counts ts) (size_of k))

module _ (s : EncoderSettings) where
  fine-layers : (n : ℕ) → n ≤ 48 → Fine (rows n (layer_tensors s))
  unfolding rows
  fine-layers zero h = no-tensors
  fine-layers (suc n) h = let p = in-layer-plain n h in fine-both (fine-layers n (omega arith)) (fine-table (in_layer n) p.0 p.1 (layer s.hidden_size s.intermediate_size))

  pub tensors-fine : s.num_layers ≤ 48 → Fine (tensors s)
  unfolding tensors
  tensors-fine h =
      let H = s.hidden_size in
      let m = s.picture.spatial_merge_size in
      fine-both (fine-table [] no-letters (omega arith) (embedding H (patch_floats s.picture.patch_size)))
      (fine-both (fine-layers s.num_layers h) (fine-table [] no-letters (omega arith) (projector H (H * (m * m)) s.text_hidden_size (has_bias s))))

  counts-layers : (n : ℕ) → counts (rows n (layer_tensors s)) ≡ n * floats (layer s.hidden_size s.intermediate_size)
  unfolding rows
  counts-layers zero = omega arith
  counts-layers (suc n) =
      let f = floats (layer s.hidden_size s.intermediate_size) in
      counts-both (rows n (layer_tensors s)) (layer_tensors s n) ∙ ap (λ (i : ℕ). i + counts (layer_tensors s n)) (counts-layers n) ∙ ap (λ (i : ℕ). n * f + i) (counts-table (in_layer n) (layer s.hidden_size s.intermediate_size)) ∙ more n f
    where
      more : (n f : ℕ) → n * f + f ≡ suc n * f
      more n f = omega arith

  pub counts-are : counts (tensors s) ≡ weight_floats s
  unfolding tensors
  counts-are =
      let H = s.hidden_size in
      let m = s.picture.spatial_merge_size in
      let n = s.num_layers in
      let E = embedding H (patch_floats s.picture.patch_size) in
      let P = projector H (H * (m * m)) s.text_hidden_size (has_bias s) in
      joined (counts-both (embedding_tensors s) (rows n (layer_tensors s) ++ projector_tensors s)) (counts-table [] E)
      (counts-both (rows n (layer_tensors s)) (projector_tensors s)) (counts-layers n) (counts-table [] P)
    where
      joined : {a b c d e x y z : ℕ} → a ≡ b + c → b ≡ x → c ≡ d + e → d ≡ y → e ≡ z → a ≡ x + (y + (z + 0))
      joined p q r t u = omega arith

  -- ---- how many, and how much

  pub tensors-some : 0 < length (tensors s)
  unfolding tensors
  tensors-some = omega arith

  pub tensors-few : s.num_layers ≤ 48 → length (tensors s) ≤ 440
  unfolding tensors
  tensors-few h =
      let n = s.num_layers in
      let l = length-pieces n 9 (layer_tensors s) (λ i g. refl) in
      omega (arith, length-append (embedding_tensors s) (rows n (layer_tensors s) ++ projector_tensors s), length-append (rows n (layer_tensors s)) (projector_tensors s), l, last (has_bias s))
    where
      last : (b : Bool) → length (tensors_of [] (projector s.hidden_size (s.hidden_size * (s.picture.spatial_merge_size * s.picture.spatial_merge_size)) s.text_hidden_size b)) ≤ 6
      last true = omega arith
      last false = omega arith

  pub floats-few : Bounded s → weight_floats s ≤ 8589934592
  floats-few b = of (has_bias s)
    where
      H : ℕ
      H = s.hidden_size

      of : (c : Bool) → H * patch_floats s.picture.patch_size + (H + 0) + (s.num_layers * floats (layer H s.intermediate_size) + (floats (projector H (H * (s.picture.spatial_merge_size * s.picture.spatial_merge_size)) s.text_hidden_size c) + 0)) ≤ 8589934592
      of true = omega (arith, b.projection, b.hidden-high, b.layers, b.merging, b.linear-1, b.linear-2, b.text-high)
      of false = omega (arith, b.projection, b.hidden-high, b.layers, b.merging, b.linear-1, b.linear-2, b.text-high)

pub bytes-few : (k : Kind) (n : ℕ) → n ≤ 8589934592 → n * size_of k ≤ 1099511627776
bytes-few F32 n h = omega arith
bytes-few BF16 n h = omega arith
bytes-few F16 n h = omega arith
