-- Laws of `tab`, `rows`, `grid`, `all` and `first`. Assumes nothing.
use mathlib.Core.Path.{◌≡◌, refl, sym, ap, ◌∙◌}
use mathlib.Core.Bool.{Bool, true, false, ◌&&◌, cond, true≢false}
use mathlib.Core.List.{List, [], ◌∷◌, ◌++◌, append_assoc, append-nil}
use Prim.Native.Nat.{ℕ, zero, suc, ◌+◌, ◌*◌, ◌-◌, ◌≤◌, ◌<◌}
use native.Mathlib.Nat.{suc-mul, zero-mul, mul-le-mul_right, add-zero, zero-add, add-suc}
use native.Mathlib.Omega.{arith}
use native.Mathlib.Numerals.{add-one}
use native.Mathlib.Decide.{dec_lt}
use lib.ListN.{length, take, drop, set, get_or, replicate, length-append, get_or-append}
use lib.Seq.{get_or_at, get_or-append-add, ext_get_or, take-add, take_at, drop_at}
use Rattle.std.proofs.lemmas.List.{replicate_more}
use Rattle.buffers.specs.Region.{put, region}
use Rattle.buffers.specs.Rows.{tab, rows, grid, all, first}
use Rattle.buffers.proofs.Regions.{put_one, put-append, put_all}

-- row c of m rows of n ends inside them
pub fit : {c m : ℕ} (n : ℕ) → c < m → c * n + n ≤ m * n
fit {c} {m} n h = rw suc-mul at (mul-le-mul_right n h)

module _ {A : Type 0} where
  pub length-tab : (n : ℕ) (f : ℕ → A) → length (tab n f) ≡ n
  unfolding tab
  length-tab zero f = refl
  length-tab (suc n) f = simp (length-append, length-tab n f) (omega arith)

  -- as many of one value
  pub tab-one : (n : ℕ) (d : A) → tab n (λ _. d) ≡ replicate n d
  unfolding tab
  tab-one zero d = refl
  tab-one (suc n) d = ap (λ (l : List A). l ++ (d ∷ [])) (tab-one n d) ∙ replicate_more n d ∙ ap (λ (k : ℕ). replicate k d) (add-one n)

  pub get_or-tab : (n i : ℕ) (f : ℕ → A) (d : A) → i < n → get_or (tab n f) i d ≡ f i
  unfolding tab
  get_or-tab zero i f d h = absurd (omega arith)
  get_or-tab (suc n) i f d h = last (dec_lt i n) (λ l. get_or-tab n i f d l)
    where
      last : Dec (i < n) → (i < n → get_or (tab n f) i d ≡ f i) → get_or (tab n f ++ (f n ∷ [])) i d ≡ f i
      last (yes l) r = get_or-append (tab n f) (f n ∷ []) d i (simp length-tab l) ∙ r l
      last (no m) r = let e : i ≡ n = omega arith in rw e (get_or_at (tab n f) (f n) [] d n (length-tab n f))

  pub tab-ext : (n : ℕ) (f g : ℕ → A) → ((i : ℕ) → i < n → f i ≡ g i) → tab n f ≡ tab n g
  unfolding tab
  tab-ext zero f g h = refl
  tab-ext (suc n) f g h = let e = tab-ext n f g (λ i l. h i (omega arith)) in let e' = h n (omega arith) in cc

  -- a turn of a loop that writes f 0, f 1, .. from y on
  pub put-tab : (s : List A) (y c : ℕ) (f : ℕ → A) → set (put s y (tab c f)) (y + c) (f c) ≡ put s y (tab (c + 1) f)
  unfolding tab
  put-tab s y c f = rw (add-one, ← put_one) (put-append s y (tab c f) (f c ∷ []) (y + c) (ap (λ (k : ℕ). y + k) (sym (length-tab c f))))

  pub tab-step : (s t : List A) (y c : ℕ) (f : ℕ → A) (v : A) → t ≡ put s y (tab c f) → v ≡ f c → set t (y + c) v ≡ put s y (tab (c + 1) f)
  tab-step s t y c f v e g = cc (put-tab s y c f)

  pub tab-step-0 : (s t : List A) (c : ℕ) (f : ℕ → A) (v : A) → t ≡ put s 0 (tab c f) → v ≡ f c → set t c v ≡ put s 0 (tab (c + 1) f)
  tab-step-0 s t c f v e g = ap (λ (k : ℕ). set t k v) (sym (zero-add c)) ∙ tab-step s t 0 c f v e g

  -- and its end, where they are as many as s has
  pub tab-all : (s t : List A) (n c : ℕ) (f : ℕ → A) → length s ≡ n → c ≤ n → n ≤ c → t ≡ put s 0 (tab c f) → t ≡ tab n f
  tab-all s t n c f e h k g =
      let m : c ≡ n = omega arith in
      g ∙ ap (λ (i : ℕ). put s 0 (tab i f)) m ∙ put_all s (tab n f) (length-tab n f ∙ sym e)

  module _ (f : ℕ → List A) (m : ℕ) (len : (i : ℕ) → length (f i) ≡ m) where
    pub length-rows : (n : ℕ) → length (rows n f) ≡ n * m
    unfolding rows
    length-rows zero = sym (zero-mul m)
    length-rows (suc n) = simp (length-append, length-rows n, len, suc-mul)

    -- a turn of a loop that writes piece after piece from y on
    pub put-rows : (s : List A) (y r : ℕ) → put (put s y (rows r f)) (y + r * m) (f r) ≡ put s y (rows (r + 1) f)
    unfolding rows
    put-rows s y r = rw add-one (put-append s y (rows r f) (f r) (y + r * m) (ap (λ (k : ℕ). y + k) (sym (length-rows r))))

    pub rows_step : (s t u : List A) (y o r : ℕ) → t ≡ put s y (rows r f) → o ≡ y + r * m → u ≡ put t o (f r) → u ≡ put s y (rows (r + 1) f)
    rows_step s t u y o r e g k = cc (put-rows s y r)

    pub get_d_rows : (n i j : ℕ) (d : A) → i < n → j < m → get_or (rows n f) (i * m + j) d ≡ get_or (f i) j d
    unfolding rows
    get_d_rows zero i j d h k = absurd (omega arith)
    get_d_rows (suc n) i j d h k = last (dec_lt i n) (λ l. get_d_rows n i j d l k)
      where
        last : Dec (i < n) → (i < n → get_or (rows n f) (i * m + j) d ≡ get_or (f i) j d) → get_or (rows n f ++ f n) (i * m + j) d ≡ get_or (f i) j d
        last (yes l) r =
            get_or-append (rows n f) (f n) d (i * m + j) (let b : i * m + m ≤ n * m = rw suc-mul at (mul-le-mul_right m l) in rw (length-rows n) (omega arith)) ∙ r l
        last (no t) r =
            let e : i ≡ n = omega arith in
            rw e (ap (λ (k : ℕ). get_or (rows n f ++ f n) (k + j) d) (sym (length-rows n)) ∙ get_or-append-add (rows n f) (f n) j d)

  pub rows_ext : (n : ℕ) (f g : ℕ → List A) → ((i : ℕ) → i < n → f i ≡ g i) → rows n f ≡ rows n g
  unfolding rows
  rows_ext zero f g h = refl
  rows_ext (suc n) f g h = let e = rows_ext n f g (λ i l. h i (omega arith)) in let e' = h n (omega arith) in cc

  pub rows-add : (n m : ℕ) (f : ℕ → List A) → rows (n + m) f ≡ rows n f ++ rows m (λ j. f (n + j))
  unfolding rows
  rows-add n zero f = ap (λ (k : ℕ). rows k f) (add-zero n) ∙ sym (append-nil (rows n f))
  rows-add n (suc m) f =
      ap (λ (k : ℕ). rows k f) (add-suc n m)
      ∙ ap (λ (l : List A). l ++ f (n + m)) (rows-add n m f)
      ∙ append_assoc (rows n f) (rows m (λ j. f (n + j))) (f (n + m))

  -- a turn that writes k pieces at once
  pub rows_more : (f : ℕ → List A) (m : ℕ) → ((i : ℕ) → length (f i) ≡ m) → (s t u : List A) (y o r k : ℕ) → t ≡ put s y (rows r f) → o ≡ y + r * m → u ≡ put t o (rows k (λ i. f (r + i))) → u ≡ put s y (rows (r + k) f)
  rows_more f m len s t u y o r k e g h =
      h ∙ ap (λ (l : List A). put l o (rows k (λ i. f (r + i)))) e
      ∙ put-append s y (rows r f) (rows k (λ i. f (r + i))) o (g ∙ ap (λ (n : ℕ). y + n) (sym (length-rows f m len r)))
      ∙ ap (put s y) (sym (rows-add r k f))

  -- n pieces of m each, of which nothing is known behind them: how long they are together, and the one at its place
  pub length-pieces : (n m : ℕ) (f : ℕ → List A) → ((i : ℕ) → i < n → length (f i) ≡ m) → length (rows n f) ≡ n * m
  unfolding rows
  length-pieces zero m f h = sym (zero-mul m)
  length-pieces (suc n) m f h = simp (length-append, length-pieces n m f (λ i l. h i (omega arith)), h n (omega arith), suc-mul)

  pub piece-at : (n m i : ℕ) (f : ℕ → List A) → ((j : ℕ) → j < n → length (f j) ≡ m) → i < n → region (rows n f) (i * m) m ≡ f i
  unfolding rows
  piece-at n m i f h l =
      let k = n - (i + 1) in
      let q : n ≡ (i + 1) + k = omega arith in
      let rest = rows k (λ j. f (i + 1 + j)) in
      let s : rows n f ≡ rows i f ++ (f i ++ rest) =
      ap (λ (x : ℕ). rows x f) q ∙ rows-add (i + 1) k f ∙ ap (λ (x : ℕ). rows x f ++ rest) (add-one i) ∙ append_assoc (rows i f) (f i) rest in
      ap (λ (x : List A). region x (i * m) m) s
      ∙ ap (take m) (drop_at (rows i f) (f i ++ rest) (i * m) (length-pieces i m f (λ j r. h j (omega arith))))
      ∙ take_at (f i) rest m (h i l)

  -- a list cut into pieces of m and joined again
  pub equal-rows : (n m : ℕ) (l : List A) → rows n (λ i. region l (i * m) m) ≡ take (n * m) l
  unfolding rows
  equal-rows zero m l = ap (λ (k : ℕ). take k l) (sym (zero-mul m))
  equal-rows (suc n) m l = rw (equal-rows n m l) (sym (take-add (n * m) m l) ∙ ap (λ (k : ℕ). take k l) (sym (suc-mul n m)))

  -- pieces in groups of b
  pub rows-mul : (a b : ℕ) (f : ℕ → List A) → rows (a * b) f ≡ rows a (λ i. rows b (λ j. f (i * b + j)))
  unfolding rows
  rows-mul zero b f = ap (λ (k : ℕ). rows k f) (zero-mul b)
  rows-mul (suc a) b f = ap (λ (k : ℕ). rows k f) (suc-mul a b) ∙ rows-add (a * b) b f ∙ ap (λ (l : List A). l ++ rows b (λ j. f (a * b + j))) (rows-mul a b f)

  pub tab-add : (n m : ℕ) (f : ℕ → A) → tab (n + m) f ≡ tab n f ++ tab m (λ j. f (n + j))
  unfolding tab
  tab-add n zero f = ap (λ (k : ℕ). tab k f) (add-zero n) ∙ sym (append-nil (tab n f))
  tab-add n (suc m) f =
      ap (λ (k : ℕ). tab k f) (add-suc n m)
      ∙ ap (λ (l : List A). l ++ (f (n + m) ∷ [])) (tab-add n m f)
      ∙ append_assoc (tab n f) (tab m (λ j. f (n + j))) (f (n + m) ∷ [])

  -- elements in groups of b
  pub tab-mul : (a b : ℕ) (f : ℕ → A) → tab (a * b) f ≡ rows a (λ i. tab b (λ j. f (i * b + j)))
  unfolding tab rows
  tab-mul zero b f = ap (λ (k : ℕ). tab k f) (zero-mul b)
  tab-mul (suc a) b f = ap (λ (k : ℕ). tab k f) (suc-mul a b) ∙ tab-add (a * b) b f ∙ ap (λ (l : List A). l ++ tab b (λ j. f (a * b + j))) (tab-mul a b f)

  -- a list by its elements
  pub tab-self : (l : List A) (n : ℕ) (d : A) → length l ≡ n → tab n (λ k. get_or l k d) ≡ l
  tab-self l n d e =
      ext_get_or d (tab n (λ k. get_or l k d)) l (length-tab n (λ k. get_or l k d) ∙ sym e)
      (λ i h. get_or-tab n i (λ k. get_or l k d) d (omega (arith, h, length-tab n (λ k. get_or l k d))))

pub and_left : (a b : Bool) → a && b ≡ true → a ≡ true
and_left true b e = refl
and_left false b e = e

pub and_right : (a b : Bool) → a && b ≡ true → b ≡ true
and_right true b e = e
and_right false b e = absurd (true≢false (sym e))

pub and_both : (a b : Bool) → a ≡ true → b ≡ true → a && b ≡ true
and_both true b e g = g
and_both false b e g = absurd (true≢false (sym e))

pub and-true : (a : Bool) → (a && true) ≡ a
and-true true = refl
and-true false = refl

and_assoc : (a b c : Bool) → (a && b && c) ≡ (a && (b && c))
and_assoc true b c = refl
and_assoc false b c = refl

pub all-at : (n : ℕ) (f : ℕ → Bool) → all n f ≡ true → (i : ℕ) → i < n → f i ≡ true
unfolding all
all-at zero f t i h = absurd (omega arith)
all-at (suc n) f t i h = last (dec_lt i n) (λ l. all-at n f (and_left (all n f) (f n) t) i l)
  where
    last : Dec (i < n) → (i < n → f i ≡ true) → f i ≡ true
    last (yes l) r = r l
    last (no m) r = let e : i ≡ n = omega arith in rw e (and_right (all n f) (f n) t)

pub all_of : (n : ℕ) (f : ℕ → Bool) → ((i : ℕ) → i < n → f i ≡ true) → all n f ≡ true
unfolding all
all_of zero f h = refl
all_of (suc n) f h = and_both (all n f) (f n) (all_of n f (λ i l. h i (omega arith))) (h n (omega arith))

pub all-step : (n : ℕ) (f : ℕ → Bool) → all n f ≡ true → f n ≡ true → all (n + 1) f ≡ true
unfolding all
all-step n f e g = rw add-one (and_both (all n f) (f n) e g)

-- one that fails
-- a loop that joins one test after another
pub all_more : (n : ℕ) (f : ℕ → Bool) (a b : Bool) → a ≡ all n f → b ≡ f n → a && b ≡ all (n + 1) f
unfolding all
all_more n f a b d e = rw (add-one n, d, e) refl

pub all_end : (n k : ℕ) (f : ℕ → Bool) (a : Bool) → k ≤ n → n ≤ k → a ≡ all k f → a ≡ all n f
all_end n k f a l m e = let i : k ≡ n = omega arith in e ∙ ap (λ (j : ℕ). all j f) i

pub all-fails : (n : ℕ) (f : ℕ → Bool) (i : ℕ) → i < n → f i ≡ false → all n f ≡ false
unfolding all
all-fails n f i h e = go (all n f) refl
  where
    go : (b : Bool) → all n f ≡ b → b ≡ false
    go true t = absurd (true≢false (sym (all-at n f t i h) ∙ e))
    go false t = refl

pub all-add : (n m : ℕ) (f : ℕ → Bool) → all (n + m) f ≡ (all n f && all m (λ j. f (n + j)))
unfolding all
all-add n zero f = ap (λ (k : ℕ). all k f) (add-zero n) ∙ sym (and-true (all n f))
all-add n (suc m) f =
    ap (λ (k : ℕ). all k f) (add-suc n m) ∙ ap (λ (b : Bool). b && f (n + m)) (all-add n m f) ∙ and_assoc (all n f) (all m (λ j. f (n + j))) (f (n + m))

-- tests in groups of b
pub all-mul : (a b : ℕ) (f : ℕ → Bool) → all (a * b) f ≡ all a (λ i. all b (λ j. f (i * b + j)))
unfolding all
all-mul zero b f = ap (λ (k : ℕ). all k f) (zero-mul b)
all-mul (suc a) b f = ap (λ (k : ℕ). all k f) (suc-mul a b) ∙ all-add (a * b) b f ∙ ap (λ (c : Bool). c && all b (λ j. f (a * b + j))) (all-mul a b f)

pub all-ext : (n : ℕ) (f g : ℕ → Bool) → ((i : ℕ) → i < n → f i ≡ g i) → all n f ≡ all n g
unfolding all
all-ext zero f g h = refl
all-ext (suc n) f g h = let e = all-ext n f g (λ i l. h i (omega arith)) in let e' = h n (omega arith) in cc

-- the only place where the test passes
pub first-at : (n : ℕ) (f : ℕ → Bool) (k : ℕ) → k < n → f k ≡ true → ((j : ℕ) → j < k → f j ≡ false) → first n f ≡ k
unfolding first
first-at zero f k h t u = absurd (omega arith)
first-at (suc n) f zero h t u = rw t
first-at (suc n) f (suc k) h t u = rw (u zero (omega arith)) (ap suc (first-at n (λ j. f (suc j)) k (omega arith) t (λ j l. u (suc j) (omega arith))))

pub first-none : (n : ℕ) (f : ℕ → Bool) → ((j : ℕ) → j < n → f j ≡ false) → first n f ≡ n
unfolding first
first-none zero f u = refl
first-none (suc n) f u = rw (u zero (omega arith)) (ap suc (first-none n (λ j. f (suc j)) (λ j l. u (suc j) (omega arith))))

pub first-le : (n : ℕ) (f : ℕ → Bool) → first n f ≤ n
unfolding first
first-le zero f = omega arith
first-le (suc n) f = go (f zero) (first-le n (λ k. f (suc k)))
  where
    go : (b : Bool) → first n (λ k. f (suc k)) ≤ n → cond b zero (suc (first n (λ k. f (suc k)))) ≤ suc n
    go true h = omega arith
    go false h = omega arith

-- where it is below n, the test passes there
pub first_passes : (n : ℕ) (f : ℕ → Bool) → first n f < n → f (first n f) ≡ true
unfolding first
first_passes zero f h = absurd (omega arith)
first_passes (suc n) f h = go (f zero) refl h (λ l. first_passes n (λ k. f (suc k)) l)
  where
    go : (b : Bool) → f zero ≡ b → cond b zero (suc (first n (λ k. f (suc k)))) < suc n → (first n (λ k. f (suc k)) < n → f (suc (first n (λ k. f (suc k)))) ≡ true) → f (cond b zero (suc (first n (λ k. f (suc k))))) ≡ true
    go true e l r = e
    go false e l r = r (omega arith)
