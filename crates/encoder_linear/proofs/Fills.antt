-- Laws of `spread` and `filled`: columns written one after another are rows written one after another. Assumes nothing.
use mathlib.Core.Path.{◌≡◌, refl, sym, ap, ◌∙◌}
use mathlib.Core.List.{List}
use Prim.Native.Nat.{ℕ, zero, suc, ◌+◌, ◌*◌, ◌≤◌, ◌<◌}
use native.Mathlib.Nat.{add-zero, add-suc, add_assoc, mul-one, suc-mul, mul-le-mul_right}
use native.Mathlib.Decide.{dec_lt}
use native.Mathlib.Numerals.{add-one}
use native.Mathlib.Omega.{arith}
use lib.ListN.{length, length-set, get_or}
use Rattle.buffers.specs.Rows.{tab, rows, grid}
use Rattle.buffers.specs.Region.{region, put}
use Rattle.buffers.specs.inner.Apart.{Apart, before, after}
use Rattle.buffers.proofs.Regions.{region-set, apart-sub, put-set, length-put, get_or-put, get_or-put-same}
use Rattle.buffers.proofs.Lists.{fit, length-tab, get_or-tab, put-tab, put-rows}
use Rattle.encoder_linear.specs.inner.Lanes.{spread, filled}

module _ {A : Type 0} where
  pub spread-ext : (s : List A) (at m n : ℕ) (v u : ℕ → A) → ((i : ℕ) → i < n → v i ≡ u i) → spread s at m n v ≡ spread s at m n u
  unfolding spread
  spread-ext s at m zero v u h = refl
  spread-ext s at m (suc n) v u h = let e = spread-ext s at m n v u (λ i l. h i (omega arith)) in let e' = h n (omega arith) in cc

  -- one after another
  pub spread-one : (s : List A) (at n : ℕ) (v : ℕ → A) → spread s at 1 n v ≡ put s at (tab n v)
  unfolding spread put tab
  spread-one s at zero v = refl
  spread-one s at (suc n) v = rw (spread-one s at n v, mul-one) (put-tab s at n v ∙ ap (λ k. put s at (tab k v)) (add-one n))

  -- what is written behind may be written first
  spread-put : (s : List A) (b m r : ℕ) (v : ℕ → A) (a : ℕ) (ys : List A) → ((l : ℕ) → l < r → b + l * m < a)
      → spread (put s a ys) b m r v ≡ put (spread s b m r v) a ys
  unfolding spread
  spread-put s b m zero v a ys h = refl
  spread-put s b m (suc r) v a ys h =
      let l = h r (omega arith) in
      rw (spread-put s b m r v a ys (λ l k. h l (omega arith))) (put-set (spread s b m r v) a ys (b + r * m) (v r) (before (omega arith)))

  -- what lies apart from each place is as it was
  pub spread-apart : (s : List A) (at m n : ℕ) (v : ℕ → A) (x k : ℕ) → ((l : ℕ) → l < n → Apart x k (at + l * m) 1) → region (spread s at m n v) x k ≡ region s x k
  unfolding spread
  spread-apart s at m zero v x k h = refl
  spread-apart s at m (suc n) v x k h =
      region-set (spread s at m n v) (at + n * m) (v n) x k (h n (omega arith)) ∙ spread-apart s at m n v x k (λ l g. h l (omega arith))

  pub length-spread : (s : List A) (at m n : ℕ) (v : ℕ → A) → length (spread s at m n v) ≡ length s
  unfolding spread
  length-spread s at m zero v = refl
  length-spread s at m (suc n) v = length-set (spread s at m n v) (at + n * m) (v n) ∙ length-spread s at m n v

  pub filled-ext : (s : List A) (y m r c : ℕ) (f g : ℕ → ℕ → A) → ((l i : ℕ) → l < r → i < c → f l i ≡ g l i) → filled s y m r c f ≡ filled s y m r c g
  unfolding filled
  filled-ext s y m r zero f g h = refl
  filled-ext s y m r (suc c) f g h =
      ap (λ t. spread t (y + c) m r (λ l. f l c)) (filled-ext s y m r c f g (λ l i p q. h l i p (omega arith)))
      ∙ spread-ext (filled s y m r c g) (y + c) m r (λ l. f l c) (λ l. g l c) (λ l p. h l c p (omega arith))

  module _ (s : List A) (y m : ℕ) (f : ℕ → ℕ → A) where
    pub none : (c : ℕ) → filled s y m zero c f ≡ s
    unfolding filled spread
    none zero = refl
    none (suc c) = none c

    -- the last row by itself
    pub filled_row : (r c : ℕ) → c ≤ m → filled s y m (suc r) c f ≡ put (filled s y m r c f) (y + r * m) (tab c (f r))
    unfolding filled spread put tab
    filled_row r zero h = refl
    filled_row r (suc c) h =
        let F = filled s y m r c f in
        let T = tab c (f r) in
        let p : y + c + r * m ≡ y + r * m + c = omega arith in
        ap (λ u. spread u (y + c) m (suc r) (λ l. f l c)) (filled_row r c (omega arith))
        ∙ rw (spread-put F (y + c) m r (λ l. f l c) (y + r * m) T (λ l k. let b = fit m k in omega arith), p)
        (put-tab (spread F (y + c) m r (λ l. f l c)) (y + r * m) c (f r) ∙ ap (λ k. put (spread F (y + c) m r (λ l. f l c)) (y + r * m) (tab k (f r))) (add-one c))

    pub filled-all : (r : ℕ) → filled s y m r m f ≡ put s y (grid r m f)
    unfolding put rows
    filled-all zero = none m
    filled-all (suc r) =
        rw (filled_row r m (omega arith), filled-all r)
        (put-rows (λ i. tab m (f i)) m (λ i. length-tab m (f i)) s y r ∙ ap (λ k. put s y (grid k m f)) (add-one r))

    pub length-filled : (r c : ℕ) → c ≤ m → length (filled s y m r c f) ≡ length s
    length-filled zero c h = ap length (none c)
    length-filled (suc r) c h = rw (filled_row r c h) (length-put (filled s y m r c f) (y + r * m) (tab c (f r)) ∙ length-filled r c h)

    -- a cell that is filled
    pub filled_in : (r c i j : ℕ) (d : A) → c ≤ m → i < r → j < c → y + r * m ≤ length s → get_or (filled s y m r c f) (y + i * m + j) d ≡ f i j
    filled_in zero c i j d h k l b = absurd (omega arith)
    filled_in (suc r) c i j d h k l b = rw (filled_row r c h) (last (dec_lt i r) (λ q. filled_in r c i j d h q l room))
      where
        F : List A
        F = filled s y m r c f

        T : List A
        T = tab c (f r)

        room : y + r * m ≤ length s
        room = let t : r * m ≤ suc r * m = mul-le-mul_right m (omega arith) in omega arith

        last : Dec (i < r) → (i < r → get_or F (y + i * m + j) d ≡ f i j) → get_or (put F (y + r * m) T) (y + i * m + j) d ≡ f i j
        last (yes q) g = let t = fit m q in get_or-put F (y + r * m) T (y + i * m + j) d (before (omega arith)) ∙ g q
        last (no q) g =
            let e : i ≡ r = omega arith in
            let b' : suc r * m ≡ r * m + m = suc-mul r m in
            rw e (get_or-put-same F (y + r * m) T j d (rw (length-tab c (f r)) l) (rw (length-tab c (f r), length-filled r c h) (omega arith)) ∙ get_or-tab c j (f r) d l)

    -- and one that is not, in a later column
    pub filled-out : (r c i j : ℕ) (d : A) → c ≤ j → j < m → get_or (filled s y m r c f) (y + j + i * m) d ≡ get_or s (y + j + i * m) d
    filled-out zero c i j d h k = rw (none c)
    filled-out (suc r) c i j d h k =
        rw (filled_row r c (omega arith)) (get_or-put (filled s y m r c f) (y + r * m) (tab c (f r)) (y + j + i * m) d (rw (length-tab c (f r)) (apart (dec_lt i r))) ∙ filled-out r c i j d h k)
      where
        apart : Dec (i < r) → Apart (y + j + i * m) 1 (y + r * m) c
        apart (yes q) = let t = fit m q in before (omega arith)
        apart (no q) = let t : r * m ≤ i * m = mul-le-mul_right m (omega arith) in after (omega arith)

    -- what lies apart from the rows is as it was
    pub filled_apart : (r c x k : ℕ) → c ≤ m → Apart x k y (r * m) → region (filled s y m r c f) x k ≡ region s x k
    unfolding filled
    filled_apart r zero x k h a = refl
    filled_apart r (suc c) x k h a =
        spread-apart (filled s y m r c f) (y + c) m r (λ l. f l c) x k (λ l g. let b = fit m g in apart-sub a (omega arith) (omega arith) (omega arith) (omega arith))
        ∙ filled_apart r c x k (omega arith) a

    -- q columns more
    pub filled-add : (r c q : ℕ) → filled (filled s y m r c f) (y + c) m r q (λ l i. f l (c + i)) ≡ filled s y m r (c + q) f
    unfolding filled
    filled-add r c zero = ap (λ n. filled s y m r n f) (sym (add-zero c))
    filled-add r c (suc q) = rw (filled-add r c q, add-suc c q, add_assoc y c q)
