-- The turns of the loops that write row after row, or one value after another, in the scratch; and what is said of
-- a scratch with a part blanked out. Assumes nothing.
use mathlib.Core.Path.{◌≡◌, refl, sym, ap, ◌∙◌}
use mathlib.Core.List.{List, ◌++◌}
use Prim.Native.Nat.{ℕ, ◌+◌, ◌*◌, ◌≤◌, ◌<◌}
use native.Mathlib.Nat.{add_assoc}
use native.Mathlib.Omega.{arith}
use lib.ListN.{length, set, get_or, take, drop}
use lib.Seq.{drop-drop}
use Rattle.buffers.specs.Rows.{tab}
use Rattle.buffers.specs.Region.{region, put}
use Rattle.buffers.specs.inner.Apart.{Apart, after}
use Rattle.buffers.proofs.Regions.{apart-sub, put-append, put-put, put-comm, put-split, region-put, region-region, length-region, get_or-put, get_or-region}
use Rattle.buffers.proofs.Lists.{fit, length-tab, tab-ext, tab-add, put-tab, length-rows, put-rows}
use Rattle.buffers.specs.Each.{each_row, blank}

module _ {A : Type 0} where
  -- a turn that reads row r at x, apart from what is written so far, and writes F r of it at y
  pub row_step : (s : List A) (x y n nin nout r : ℕ) (F : ℕ → List A → List A) → ((i : ℕ) (l : List A) → length (F i l) ≡ nout)
      → Apart (x + r * nin) nin y (r * nout) → r < n
      → (let t = put s y (each_row r nin F (region s x (n * nin))) in put t (y + r * nout) (F r (region t (x + r * nin) nin)))
      ≡ put s y (each_row (r + 1) nin F (region s x (n * nin)))
  row_step s x y n nin nout r F h a l =
      let h₁ = fit nin l in
      let G : ℕ → List A = λ i. F i (region (region s x (n * nin)) (i * nin) nin) in
      let g : (i : ℕ) → length (G i) ≡ nout = λ i. h i (region (region s x (n * nin)) (i * nin) nin) in
      let k = length-rows G nout g r in
      rw (region-put s y (each_row r nin F (region s x (n * nin))) (x + r * nin) nin (rw k a), ← region-region s x (n * nin) (r * nin) nin)
      (put-rows G nout g s y r)

  -- a turn that puts F i of the elements at y + i and z + i at y + i
  pub elem-step : (s : List A) (y z n i : ℕ) (d : A) (F : ℕ → A → A → A) → i < n → Apart (z + i) 1 y i
      → (let t = put s y (tab i (λ j. F j (get_or (region s y n) j d) (get_or (region s z n) j d))) in set t (y + i) (F i (get_or t (y + i) d) (get_or t (z + i) d)))
      ≡ put s y (tab (i + 1) (λ j. F j (get_or (region s y n) j d) (get_or (region s z n) j d)))
  elem-step s y z n i d F h a =
      let G : ℕ → A = λ j. F j (get_or (region s y n) j d) (get_or (region s z n) j d) in
      let e = length-tab i G in
      rw (
        get_or-put s y (tab i G) (y + i) d (rw e (after (omega arith))),
        get_or-put s y (tab i G) (z + i) d (rw e a),
        ← get_or-region s y n i d h,
        ← get_or-region s z n i d h,
      )
      (put-tab s y i G)

  -- a turn that does so for k of them at once
  pub elems-step : (s : List A) (y z n i k : ℕ) (d : A) (F : A → A → A) → i + k ≤ n → Apart (z + i) k y i
      → (let t = put s y (tab i (λ j. F (get_or (region s y n) j d) (get_or (region s z n) j d))) in put t (y + i) (tab k (λ j. F (get_or t (y + i + j) d) (get_or t (z + i + j) d))))
      ≡ put s y (tab (i + k) (λ j. F (get_or (region s y n) j d) (get_or (region s z n) j d)))
  elems-step s y z n i k d F h a =
      let G : ℕ → A = λ j. F (get_or (region s y n) j d) (get_or (region s z n) j d) in
      let e = length-tab i G in
      let t = put s y (tab i G) in
      ap (put t (y + i)) (tab-ext k _ (λ j. G (i + j))
      (λ j l. rw (
        get_or-put s y (tab i G) (y + i + j) d (rw e (after (omega arith))),
        get_or-put s y (tab i G) (z + i + j) d (rw e (apart-sub a (omega arith) (omega arith) (omega arith) (omega arith))),
        add_assoc y i j,
        add_assoc z i j,
        ← get_or-region s y n (i + j) d (omega arith),
        ← get_or-region s z n (i + j) d (omega arith),
      )))
      ∙ put-append s y (tab i G) (tab k (λ j. G (i + j))) (y + i) (rw e refl)
      ∙ ap (put s y) (sym (tab-add i k G))

  -- a write in the blank does not show
  pub blank-same : (d : A) (at n : ℕ) (s ys : List A) → length ys ≡ n → blank d at n (put s at ys) ≡ blank d at n s
  blank-same d at n s ys e = put-put s at ys (tab n (λ _. d)) (e ∙ sym (length-tab n (λ _. d)))

  -- a write elsewhere does
  pub blank-put : (d : A) (at n : ℕ) (s : List A) (y : ℕ) (ys : List A) → Apart y (length ys) at n → blank d at n (put s y ys) ≡ put (blank d at n s) y ys
  blank-put d at n s y ys h = sym (put-comm s at (tab n (λ _. d)) y ys (rw (length-tab n (λ _. d)) h))

  pub blank-region : (d : A) (at n : ℕ) (s : List A) (x m : ℕ) → Apart x m at n → region (blank d at n s) x m ≡ region s x m
  blank-region d at n s x m h = region-put s at (tab n (λ _. d)) x m (rw (length-tab n (λ _. d)) h)

  -- a part that was blanked by itself
  pub blank_part : (d : A) (at n k : ℕ) (s ys : List A) → k ≡ n → at + n ≤ length s → ys ≡ tab (length (region s at k)) (λ _. d)
      → take at s ++ (ys ++ drop k (drop at s)) ≡ blank d at n s
  blank_part d at n k s ys g b h =
      let T = tab n (λ _. d) in
      let l = length-tab n (λ _. d) in
      let e : ys ≡ T = h ∙ ap (λ m. tab m (λ _. d)) (ap (λ j. length (region s at j)) g ∙ length-region s at n b) in
      rw (e, g, drop-drop n at s) (sym (put-split s at T (rw l b) ∙ ap (λ m. take at s ++ (T ++ drop (at + m) s)) l))

  -- what is apart from the blank and from the write is as it was
  pub blank-rest : (d : A) (at n : ℕ) (s t : List A) (y : ℕ) (ys : List A) → blank d at n t ≡ put (blank d at n s) y ys
      → (x m : ℕ) → Apart x m at n → Apart x m y (length ys) → region t x m ≡ region s x m
  blank-rest d at n s t y ys e x m h k =
      sym (blank-region d at n t x m h) ∙ ap (λ (l : List A). region l x m) e ∙ region-put (blank d at n s) y ys x m k ∙ blank-region d at n s x m h
