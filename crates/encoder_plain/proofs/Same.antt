-- The source's form is the row-wise engine's: the same sums, and every scaled score is finite in the one order exactly when it is
-- in the other. Assumes nothing.
use mathlib.Core.Path.{◌≡◌, refl, sym, ap, ◌∙◌}
use mathlib.Core.List.{List}
use Prim.Native.Nat.{ℕ, zero, suc, ◌+◌, ◌*◌, ◌≤◌, ◌<◌}
use native.Mathlib.Nat.{add_assoc, zero-add}
use native.Mathlib.Omega.{arith}
use lib.ListN.{length, get_or}
use lib.Ieee.{Float, nan, binary32, mul}
use Rattle.number_floats.specs.Constants.{zero32}
use Rattle.buffers.specs.Rows.{tab, rows}
use Rattle.buffers.specs.Region.{region, put_rows}
use Rattle.buffers.proofs.Regions.{put_all, length-region, get_or-region}
use Rattle.buffers.proofs.Lists.{fit, length-tab, tab-ext, length-rows, get_d_rows, rows_ext, piece-at}
use Rattle.buffers.proofs.Puts.{puts-joined, puts-ext}
use Rattle.encoder_linear.specs.Linear.{sum_of, column_of, weighed_row}
use Rattle.encoder_linear.proofs.Sums.{sum-ext}
use Rattle.encoder_kernels.specs.Kernels.{all_finite}
use Rattle.encoder_softmax.specs.Softmax.{softmax_of}
use Rattle.encoder_softmax.proofs.Lengths.{length-softmax}
use Rattle.encoder_attention.specs.Attention.{score_row, head_scores, head_sums, token_scores, token_sums, scores_of, attention_of}
use Rattle.encoder_attention.proofs.Bands.{puts_none, puts-more, all-finite-turned}
use Rattle.encoder_plain.specs.Plain.{floats, off, score, scores, soft_rows, sums, attn_output, all_scores, plain_of}
use Rattle.encoder_plain.proofs.Loops.{inside, length-sums}

module _ (t heads hd : ℕ) (sc : Float) (q k v : List Float) where
  abbrev dim : ℕ
  dim = heads * hd

  -- the sums of query i in head h
  abbrev pub F : ℕ → ℕ → List Float
  F i h = sums t heads hd v (soft_rows t (scores t heads hd sc q k h)) h i

  -- head after head in their places is query after query
  bands : (h : ℕ) → h ≤ heads → attn_output t heads hd sc q k v h ≡ put_rows (tab (floats t heads hd) (λ _. zero32)) t (λ i. 0 + i * dim) (λ i. rows h (F i))
  unfolding attn_output rows
  bands zero l = sym (puts_none (tab (floats t heads hd) (λ _. zero32)) (λ i. 0 + i * dim) t)
  bands (suc h) l =
      let Z = tab (floats t heads hd) (λ _. zero32) in
      let b : h * hd + hd ≤ dim = fit hd (omega arith) in
      puts-ext (attn_output t heads hd sc q k v h) (λ i. off t heads hd i h) (λ i. 0 + (i * dim + h * hd)) (λ i. F i h) (λ i. F i h) t (λ i _. sym (zero-add (i * dim + h * hd))) (λ _ _. refl)
      ∙ ap (λ (x : List Float). put_rows x t (λ i. 0 + (i * dim + h * hd)) (λ i. F i h)) (bands h (omega arith))
      ∙ puts-more F hd (λ i j. length-sums t heads hd v (soft_rows t (scores t heads hd sc q k j)) j i) Z 0 dim h t b

  pub by-tokens : plain_of t heads hd sc q k v ≡ rows t (λ i. rows heads (F i))
  by-tokens =
      let Z = tab (floats t heads hd) (λ _. zero32) in
      let R : ℕ → List Float = λ i. rows heads (F i) in
      let len : (i : ℕ) → length (R i) ≡ dim = λ i. length-rows (F i) hd (λ j. length-sums t heads hd v (soft_rows t (scores t heads hd sc q k j)) j i) heads in
      bands heads (omega arith)
      ∙ puts-joined Z (λ i. 0 + i * dim) R dim 0 t len (λ i _. refl)
      ∙ put_all Z (rows t R) (length-rows R dim len t ∙ sym (length-tab (floats t heads hd) (λ _. zero32)))

  module _ (l : length q ≡ floats t heads hd) where
    -- a row of the matrix has the query's scores
    row_is : (h i : ℕ) → h < heads → i < t → tab t (score t heads hd sc q k h i) ≡ head_scores t dim hd sc q k i (h * hd)
    unfolding score_row
    row_is h i b c =
        let o = off t heads hd i h in
        let n = inside t heads hd i h b c in
        let w : length (region q o hd) ≡ hd = length-region q o hd (omega (arith, n, l)) in
        tab-ext t _ _ (λ j _. ap (λ (z : Float). mul binary32 z sc)
        (sum-ext hd _ _ (λ d z. rw (get_or-region q o hd d nan z, get_or-region k (off t heads hd j h) hd d nan z) refl)
        ∙ ap (λ (m : ℕ). sum_of m (λ d. mul binary32 (get_or (region q o hd) d nan) (get_or (region k (off t heads hd j h) hd) d nan))) (sym w)))

    matrix-row : (h i : ℕ) → h < heads → i < t → region (scores t heads hd sc q k h) (i * t) t ≡ head_scores t dim hd sc q k i (h * hd)
    unfolding scores
    matrix-row h i b c = piece-at t t i (λ j. tab t (score t heads hd sc q k h j)) (λ j _. length-tab t (score t heads hd sc q k h j)) c ∙ row_is h i b c

    sums-are : (h i : ℕ) → h < heads → i < t → F i h ≡ head_sums t dim hd sc q k v i (h * hd)
    unfolding sums soft_rows weighed_row column_of
    sums-are h i b c =
        let M = scores t heads hd sc q k h in
        let P : ℕ → List Float = λ j. softmax_of t (region M (j * t) t) in
        tab-ext hd _ _ (λ d _. sum-ext t _ _ (λ j z.
        rw (get_d_rows P t (λ m. length-softmax t (region M (m * t) t)) t i j nan c z, matrix-row h i b c, add_assoc (j * dim) (h * hd) d) refl))

    -- the same sums
    pub plain-is : plain_of t heads hd sc q k v ≡ attention_of t heads hd sc q k v
    unfolding attention_of token_sums
    plain-is = by-tokens ∙ rows_ext t _ _ (λ i c. rows_ext heads _ _ (λ h b. sums-are h i b c))

    -- and every scaled score is finite here exactly when it is there
    pub finite-is : all_finite (all_scores t heads hd sc q k) ≡ all_finite (scores_of t heads hd sc q k)
    unfolding all_scores scores scores_of token_scores
    finite-is =
        ap all_finite (rows_ext heads _ _ (λ h b. rows_ext t _ _ (λ i c. row_is h i b c)))
        ∙ all-finite-turned t heads (λ i h. head_scores t dim hd sc q k i (h * hd))
