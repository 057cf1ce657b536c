-- How many tensors are asked for, the floats of each by its place, and of all of them. Assumes nothing.
use mathlib.Core.Path.{◌≡◌, refl, sym, ap, ◌∙◌}
use mathlib.Core.Bool.{Bool, true, false}
use mathlib.Core.List.{List, [], ◌∷◌, ◌++◌}
use Prim.Native.Nat.{ℕ, zero, suc, ◌+◌, ◌-◌, ◌*◌, ◌/◌, ◌%◌, ◌≤◌, ◌<◌}
use native.Mathlib.Nat.{suc-mul, zero-mul, le_refl}
use native.Mathlib.Numerals.{add-one}
use native.Mathlib.Decide.{dec_lt}
use native.Mathlib.Omega.{arith}
use lib.Dec.{eqb}
use lib.ListN.{length, get_or, length-append, get_or-append}
use lib.Seq.{get_or-append-add}
use Rattle.buffers.specs.Rows.{rows}
use Rattle.buffers.proofs.Lists.{length-rows, get_d_rows}
use Rattle.picture_limits.specs.Places.{patch_floats}
use Rattle.picture_limits.proofs.Places.{times}
use Rattle.encoder_settings.specs.declared.EncoderSettings.{EncoderSettings}
use Rattle.encoder_settings.specs.Weights.{Table, floats, embedding, layer, if_there, projector, has_bias}
use Rattle.encoder_settings.specs.Settings.{allowed, weight_floats}
use Rattle.encoder_settings.specs.inner.Bounds.{Bounded}
use Rattle.encoder_settings.proofs.Bounds.{allowed-says, bounded}
use Rattle.tensor_header.specs.Tensors.{Tensor, in_layer, tensors_of, embedding_tensors, layer_tensors, projector_tensors, tensors, count_at}
use Rattle.weights.specs.inner.Sums.{sum_to}

-- allowed settings bound every product
pub bounds : (s : EncoderSettings) → allowed s ≡ true → Bounded s
bounds s e = bounded s (allowed-says s e)

-- ---- the count at a place of a list

-- what stands past the end
nowhere : Tensor
nowhere = record { name = []; count = 0 }

abbrev count_in : List Tensor → ℕ → ℕ
count_in ts i = (get_or ts i nowhere).count

count-is : (ts : List Tensor) (i : ℕ) → count_at ts i ≡ count_in ts i
unfolding count_at nowhere
count-is [] i = refl
count-is (t ∷ ts) zero = refl
count-is (t ∷ ts) (suc i) = count-is ts i

count_left : (a b : List Tensor) (i : ℕ) → i < length a → count_at (a ++ b) i ≡ count_at a i
count_left a b i h = count-is (a ++ b) i ∙ ap (λ (t : Tensor). t.count) (get_or-append a b nowhere i h) ∙ sym (count-is a i)

count-right : (a b : List Tensor) (i j : ℕ) → i ≡ length a + j → count_at (a ++ b) i ≡ count_at b j
count-right a b i j e = count-is (a ++ b) i ∙ ap (λ (k : ℕ). count_in (a ++ b) k) e ∙ ap (λ (t : Tensor). t.count) (get_or-append-add a b j nowhere) ∙ sym (count-is b j)

pub count_past : (ts : List Tensor) (i : ℕ) → length ts ≤ i → count_at ts i ≡ 0
unfolding count_at
count_past [] i h = refl
count_past (t ∷ ts) zero h = absurd (omega arith)
count_past (t ∷ ts) (suc i) h = count_past ts i (omega arith)

-- behind whatever prefix
count-named : (p q : List ℕ) (t : Table) (i : ℕ) → count_at (tensors_of p t) i ≡ count_at (tensors_of q t) i
unfolding count_at
count-named p q [] i = refl
count-named p q (x ∷ t) zero = refl
count-named p q (x ∷ t) (suc i) = count-named p q t i

-- ---- the floats of a list

pub sum_step : (ts : List Tensor) (n : ℕ) → sum_to ts (n + 1) ≡ sum_to ts n + count_at ts n
unfolding sum_to
sum_step ts n = rw (add-one n) refl

pub sum_mono : (ts : List Tensor) (n m : ℕ) → n ≤ m → sum_to ts n ≤ sum_to ts m
unfolding sum_to
sum_mono ts n zero h = let e : n ≡ zero = omega arith in rw e (le_refl (sum_to ts zero))
sum_mono ts n (suc m) h = of (dec_lt m n) (λ l. sum_mono ts n m l)
  where
    of : Dec (m < n) → (n ≤ m → sum_to ts n ≤ sum_to ts m) → sum_to ts n ≤ sum_to ts m + count_at ts m
    of (yes l) r = let e : n ≡ suc m = omega arith in rw e (le_refl (sum_to ts m + count_at ts m))
    of (no l) r = let g = r (omega arith) in omega arith

pub sum-le : (ts : List Tensor) (n : ℕ) → n ≤ length ts → sum_to ts n ≤ sum_to ts (length ts)
sum-le ts n h = sum_mono ts n (length ts) h

-- of all of a list, from the front
unfoldable together : List Tensor → ℕ
together [] = 0
together (t ∷ ts) = t.count + together ts

sum-front : (t : Tensor) (ts : List Tensor) (n : ℕ) → sum_to (t ∷ ts) (suc n) ≡ t.count + sum_to ts n
unfolding sum_to count_at
sum-front t ts zero = omega arith
sum-front t ts (suc n) = omega (arith, sum-front t ts n)

sum-all : (ts : List Tensor) → sum_to ts (length ts) ≡ together ts
unfolding sum_to together
sum-all [] = refl
sum-all (t ∷ ts) = sum-front t ts (length ts) ∙ ap (λ (n : ℕ). t.count + n) (sum-all ts)

together-append : (a b : List Tensor) → together (a ++ b) ≡ together a + together b
unfolding together
together-append [] b = omega arith
together-append (t ∷ a) b = omega (arith, together-append a b)

together-table : (p : List ℕ) (t : Table) → together (tensors_of p t) ≡ floats t
unfolding together
together-table p [] = refl
together-table p (x ∷ t) = ap (λ (n : ℕ). x.1 + n) (together-table p t)

-- ---- a list of which each has floats, and at most 2^26

abbrev Fair : ℕ → Type 0
Fair n = (0 < n) × (n ≤ 67108864)

abbrev Each : List Tensor → Type 0
Each ts = (i : ℕ) → i < length ts → Fair (count_at ts i)

each_none : Each []
each_none i h = absurd (omega arith)

each_more : (t : Tensor) (ts : List Tensor) → Fair t.count → Each ts → Each (t ∷ ts)
unfolding count_at
each_more t ts f e zero h = f
each_more t ts f e (suc i) h = e i (omega arith)

each_append : (a b : List Tensor) → Each a → Each b → Each (a ++ b)
each_append a b f g i h = of (dec_lt i (length a))
  where
    of : Dec (i < length a) → Fair (count_at (a ++ b) i)
    of (yes l) = rw (count_left a b i l) (f i l)
    of (no l) = rw (count-right a b i (i - length a) (omega arith)) (g (i - length a) (omega (arith, length-append a b)))

each_rows : (n : ℕ) (f : ℕ → List Tensor) → ((i : ℕ) → Each (f i)) → Each (rows n f)
unfolding rows
each_rows zero f e = each_none
each_rows (suc n) f e = each_append (rows n f) (f n) (each_rows n f e) (e n)

-- as the table of all weights adds its three parts
whole : {x y z : ℕ} (a b c : ℕ) → a ≡ x → b ≡ y → c ≡ z → a + (b + c) ≡ x + (y + (z + 0))
whole a b c d e f = omega arith

-- ---- the tensors that are asked for

module _ (s : EncoderSettings) where
  layers-length : (n : ℕ) → length (rows n (layer_tensors s)) ≡ n * 9
  layers-length n = length-rows (layer_tensors s) 9 (λ l. refl) n

  -- part j of layer l has the count of layer 0's
  layer-count : (n l j : ℕ) → l < n → j < 9 → count_at (rows n (layer_tensors s)) (l * 9 + j) ≡ count_at (layer_tensors s 0) j
  layer-count n l j h k =
      count-is (rows n (layer_tensors s)) (l * 9 + j) ∙ ap (λ (t : Tensor). t.count) (get_d_rows (layer_tensors s) 9 (λ i. refl) n l j nowhere h k)
      ∙ sym (count-is (layer_tensors s l) j) ∙ count-named (in_layer l) (in_layer 0) (layer s.hidden_size s.intermediate_size) j

  pub in-embedding : (i : ℕ) → i < 2 → count_at (tensors s) i ≡ count_at (embedding_tensors s) i
  unfolding tensors
  in-embedding i h = count_left (embedding_tensors s) (rows s.num_layers (layer_tensors s) ++ projector_tensors s) i h

  pub in-layers : (i k : ℕ) → i ≡ 2 + k → k / 9 < s.num_layers → count_at (tensors s) i ≡ count_at (layer_tensors s 0) (k % 9)
  unfolding tensors
  in-layers i k e h =
      let d : k ≡ k / 9 * 9 + k % 9 = omega arith in
      count-right (embedding_tensors s) (rows s.num_layers (layer_tensors s) ++ projector_tensors s) i k e
      ∙ count_left (rows s.num_layers (layer_tensors s)) (projector_tensors s) k (omega (arith, layers-length s.num_layers))
      ∙ ap (λ (x : ℕ). count_at (rows s.num_layers (layer_tensors s)) x) d
      ∙ layer-count s.num_layers (k / 9) (k % 9) h (omega arith)

  pub in-projector : (i k : ℕ) → i ≡ 2 + k → s.num_layers ≤ k / 9 → count_at (tensors s) i ≡ count_at (projector_tensors s) (k - 9 * s.num_layers)
  unfolding tensors
  in-projector i k e h =
      count-right (embedding_tensors s) (rows s.num_layers (layer_tensors s) ++ projector_tensors s) i k e
      ∙ count-right (rows s.num_layers (layer_tensors s)) (projector_tensors s) k (k - 9 * s.num_layers) (omega (arith, layers-length s.num_layers))

  -- the four square matrices of a layer, and the two that widen
  pub part-square : (i : ℕ) → 1 ≤ i → i < 5 → count_at (layer_tensors s 0) i ≡ s.hidden_size * s.hidden_size
  unfolding count_at
  part-square zero h k = absurd (omega arith)
  part-square (suc zero) h k = refl
  part-square (suc (suc zero)) h k = refl
  part-square (suc (suc (suc zero))) h k = refl
  part-square (suc (suc (suc (suc zero)))) h k = refl
  part-square (suc (suc (suc (suc (suc i))))) h k = absurd (omega arith)

  pub part-wide : (i : ℕ) → 6 ≤ i → i < 8 → count_at (layer_tensors s 0) i ≡ s.intermediate_size * s.hidden_size
  unfolding count_at
  part-wide i h k = of (dec_lt i 7)
    where
      of : Dec (i < 7) → count_at (layer_tensors s 0) i ≡ s.intermediate_size * s.hidden_size
      of (yes l) = let e : i ≡ 6 = omega arith in rw e refl
      of (no l) = let e : i ≡ 7 = omega arith in rw e refl

  -- a projector's tensors, by whether it has a bias
  abbrev projector_by : Bool → List Tensor
  projector_by b = tensors_of [] (projector s.hidden_size (s.hidden_size * (s.picture.spatial_merge_size * s.picture.spatial_merge_size)) s.text_hidden_size b)

  pub by-bias : (b : Bool) (i n : ℕ) → has_bias s ≡ b → n ≡ count_at (projector_by b) i → n ≡ count_at (projector_tensors s) i
  by-bias b i n e f = f ∙ ap (λ (x : Bool). count_at (projector_by x) i) (sym e)

  -- without a bias the projector has four, and with one six
  projector-length : (b : ℕ) → b ≤ 1 → length (projector_by (eqb b 1)) ≡ 4 + 2 * b
  projector-length zero h = refl
  projector-length (suc zero) h = refl
  projector-length (suc (suc b)) h = absurd (omega arith)

  pub how-many : s.projector_bias ≤ 1 → length (tensors s) ≡ 6 + 9 * s.num_layers + 2 * s.projector_bias
  unfolding tensors
  how-many h =
      omega (
        arith,
        length-append (embedding_tensors s) (rows s.num_layers (layer_tensors s) ++ projector_tensors s),
        length-append (rows s.num_layers (layer_tensors s)) (projector_tensors s),
        layers-length s.num_layers,
        projector-length s.projector_bias h,
      )

  together-layers : (n : ℕ) → together (rows n (layer_tensors s)) ≡ n * floats (layer s.hidden_size s.intermediate_size)
  unfolding rows together
  together-layers zero = sym (zero-mul (floats (layer s.hidden_size s.intermediate_size)))
  together-layers (suc n) =
      together-append (rows n (layer_tensors s)) (layer_tensors s n)
      ∙ ap (λ (k : ℕ). k + together (layer_tensors s n)) (together-layers n)
      ∙ ap (λ (k : ℕ). n * floats (layer s.hidden_size s.intermediate_size) + k) (together-table (in_layer n) (layer s.hidden_size s.intermediate_size))
      ∙ sym (suc-mul n (floats (layer s.hidden_size s.intermediate_size)))

  together-tensors : together (tensors s) ≡ weight_floats s
  unfolding tensors
  together-tensors =
      let L = s.num_layers in
      let e = together-append (embedding_tensors s) (rows L (layer_tensors s) ++ projector_tensors s) in
      let f = together-append (rows L (layer_tensors s)) (projector_tensors s) in
      let H = s.hidden_size in
      let m = s.picture.spatial_merge_size in
      let a = together-table [] (embedding H (patch_floats s.picture.patch_size)) in
      let c = together-table [] (projector H (H * (m * m)) s.text_hidden_size (has_bias s)) in
      e ∙ ap (λ (n : ℕ). together (embedding_tensors s) + n) f ∙ whole (together (embedding_tensors s)) (together (rows L (layer_tensors s))) (together (projector_tensors s)) a (together-layers L) c

-- ---- what allowed settings say of them

pub few-tensors : (s : EncoderSettings) → allowed s ≡ true → length (tensors s) ≤ 440
few-tensors s e = let r = (allowed-says s e).ranges in omega (arith, how-many s r.bias)

pub sum_is : (s : EncoderSettings) → allowed s ≡ true → sum_to (tensors s) (length (tensors s)) ≡ weight_floats s
sum_is s e = sum-all (tensors s) ∙ together-tensors s

-- a product of numbers that are not 0
positive : (a b : ℕ) → 1 ≤ a → 1 ≤ b → 0 < a * b
positive a b h k = omega (arith, times 1 1 a b h k)

each-tensor : (s : EncoderSettings) → allowed s ≡ true → Each (tensors s)
unfolding tensors
each-tensor s e =
    let a = allowed-says s e in
    let b = bounds s e in
    let H = s.hidden_size in
    let I = s.intermediate_size in
    let X = s.text_hidden_size in
    let p = s.picture.patch_size in
    let m = s.picture.spatial_merge_size in
    let h : 1 ≤ H = omega (arith, a.ranges.hidden.0) in
    let i : 1 ≤ I = a.ranges.inner.0 in
    let x : 1 ≤ X = a.ranges.text.0 in
    let pp : 1 ≤ 3 * (p * p) = omega (arith, positive p p b.patch-low b.patch-low) in
    let mm = positive H (m * m) h (positive m m b.merge_low b.merge_low) in
    let one : Fair H = (h, omega (arith, b.hidden-high)) in
    let text : Fair X = (x, omega (arith, b.text-high)) in
    let square : Fair (H * H) = (positive H H h h, omega (arith, b.squares)) in
    let wide : Fair (I * H) = (positive I H i h, omega (arith, b.inner)) in
    let back : Fair (H * I) = (positive H I h i, omega (arith, b.outer)) in
    let patch : Fair (H * (3 * (p * p))) = (positive H (3 * (p * p)) h pp, omega (arith, b.projection)) in
    let merging : Fair (H * (H * (m * m))) = (positive H (H * (m * m)) h mm, b.merging) in
    let first : Fair (X * H) = (positive X H x h, omega (arith, b.linear-1)) in
    let second : Fair (X * X) = (positive X X x x, b.linear-2) in
    each_append (embedding_tensors s) (rows s.num_layers (layer_tensors s) ++ projector_tensors s)
    (each_more _ _ patch (each_more _ _ one each_none))
    (each_append (rows s.num_layers (layer_tensors s)) (projector_tensors s)
    (each_rows s.num_layers (layer_tensors s)
    (λ l. each_more _ _ one (each_more _ _ square (each_more _ _ square (each_more _ _ square (each_more _ _ square (each_more _ _ one (each_more _ _ wide (each_more _ _ wide (each_more _ _ back each_none))))))))))
    (each_more _ _ one (each_more _ _ merging (each_more _ _ first (ending (has_bias s) text second)))))
  where
    ending : (b : Bool) → Fair s.text_hidden_size → Fair (s.text_hidden_size * s.text_hidden_size) → Each (tensors_of [] (if_there b ("linear_1_bias", s.text_hidden_size) (("linear_2", s.text_hidden_size * s.text_hidden_size) ∷ if_there b ("linear_2_bias", s.text_hidden_size) [])))
    ending true f g = each_more _ _ f (each_more _ _ g (each_more _ _ f each_none))
    ending false f g = each_more _ _ g each_none

pub counts-positive : (s : EncoderSettings) → allowed s ≡ true → (i : ℕ) → i < length (tensors s) → (0 < count_at (tensors s) i) × (count_at (tensors s) i ≤ 67108864)
counts-positive s e = each-tensor s e

-- so that no sum of them wraps
pub sum-high : (s : EncoderSettings) → allowed s ≡ true → weight_floats s ≤ 8589934592
sum-high s e = let b = bounds s e in omega (arith, b.projector-is, b.biases)

-- tensor i ends inside all weights
pub sum_room : (s : EncoderSettings) → allowed s ≡ true → (i : ℕ) → i < length (tensors s) → sum_to (tensors s) i + count_at (tensors s) i ≤ weight_floats s
sum_room s e i h =
    let l : i + 1 ≤ length (tensors s) = omega arith in
    fit (sum_to (tensors s) (length (tensors s))) (weight_floats s) (sum_step (tensors s) i) (sum-le (tensors s) (i + 1) l) (sum_is s e)
  where
    fit : {m n : ℕ} (a b : ℕ) → m ≡ n → m ≤ a → a ≡ b → n ≤ b
    fit a b e h k = omega arith
