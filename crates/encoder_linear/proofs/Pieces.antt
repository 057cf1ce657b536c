-- Laws of sums that run on piece after piece, and of the linear layer made of them. Assumes nothing.
use mathlib.Core.Path.{◌≡◌, refl, sym, ap, ◌∙◌}
use mathlib.Core.List.{List, ◌++◌}
use Prim.Native.Nat.{ℕ, zero, suc, ◌+◌, ◌*◌, ◌/◌, ◌%◌, ◌≤◌, ◌<◌}
use native.Mathlib.Nat.{add-zero, add-suc, add-mul, mul-le-mul_right}
use native.Mathlib.Numerals.{add-one}
use native.Mathlib.Omega.{arith}
use lib.Arith.{digits_div, digits_mod}
use lib.ListN.{length, get_or}
use lib.Ieee.{Float, nan, binary32, add, mul}
use Rattle.buffers.specs.Rows.{tab, rows, grid}
use Rattle.buffers.specs.Region.{region, put}
use Rattle.number_floats.specs.Constants.{zero32}
use Rattle.buffers.proofs.Regions.{get_or-put-same, put-put, put-append, region-put-same, region-region, length-region, get_or-region}
use Rattle.buffers.proofs.Lists.{fit, length-tab, get_or-tab, tab-ext, tab-mul, length-rows, get_d_rows, rows_ext, rows-add}
use Rattle.buffers.specs.Each.{blank}
use Rattle.encoder_linear.specs.Linear.{sum_of, linear_row, linear_of}
use Rattle.encoder_linear.specs.inner.Lanes.{sum_from, lane_of, cell_of, gone_sum, spread, filled, product, begun, gone_on}
use Rattle.encoder_linear.specs.inner.Fits.{ColumnAt, WideAt}
use Rattle.encoder_linear.proofs.Sums.{sum-ext, length-linear}
use Rattle.encoder_linear.proofs.Fills.{spread-ext, spread-one, filled-ext, filled_in, filled-out, filled-add}

pub from-ext : (a : Float) (n : ℕ) (f g : ℕ → Float) → ((k : ℕ) → k < n → f k ≡ g k) → sum_from a n f ≡ sum_from a n g
unfolding sum_from
from-ext a zero f g h = refl
from-ext a (suc n) f g h = let e = from-ext a n f g (λ k l. h k (omega arith)) in let e' = h n (omega arith) in cc

-- the sum of n, gone on by m
sum_more : (n m : ℕ) (f : ℕ → Float) → sum_from (sum_of n f) m (λ k. f (n + k)) ≡ sum_of (n + m) f
unfolding sum_from sum_of
sum_more n zero f = ap (λ k. sum_of k f) (sym (add-zero n))
sum_more n (suc m) f = rw (sum_more n m f) (ap (λ k. sum_of k f) (sym (add-suc n m)))

-- a lane with one product more
pub lane-step : (k : ℕ) (a xt w b r : List Float) → b ≡ tab 16 (lane_of k a xt w)
    → r ≡ tab 16 (λ l. add binary32 (get_or b l nan) (mul binary32 (get_or xt (k * 16 + l) nan) (get_or w k nan))) → r ≡ tab 16 (lane_of (k + 1) a xt w)
unfolding sum_from
lane-step k a xt w b r e g =
    g ∙ tab-ext 16 (λ l. add binary32 (get_or b l nan) (mul binary32 (get_or xt (k * 16 + l) nan) (get_or w k nan))) (lane_of (k + 1) a xt w)
    (λ l h. rw (e, add-one k, get_or-tab 16 l (lane_of k a xt w) nan h))

-- a cell with one product more
pub cell-step : (k at nin : ℕ) (a xt w b r : List Float) → b ≡ tab 16 (cell_of k a xt w at nin)
    → r ≡ tab 16 (λ i. add binary32 (get_or b i nan) (mul binary32 (get_or xt (k * 16 + i % 4) nan) (get_or w (at + k + i / 4 * nin) nan)))
    → r ≡ tab 16 (cell_of (k + 1) a xt w at nin)
unfolding sum_from
cell-step k at nin a xt w b r e g =
    g ∙ tab-ext 16 (λ i. add binary32 (get_or b i nan) (mul binary32 (get_or xt (k * 16 + i % 4) nan) (get_or w (at + k + i / 4 * nin) nan))) (cell_of (k + 1) a xt w at nin)
    (λ i h. rw (e, add-one k, get_or-tab 16 i (cell_of k a xt w at nin) nan h))

-- r rows of n behind i rows end inside m rows
pub fit-more : {m : ℕ} (i r n : ℕ) → i + r ≤ m → i * n + r * n ≤ m * n
fit-more i r n h = rw add-mul at (mul-le-mul_right n h)

pub grid-ext : (r m : ℕ) (f g : ℕ → ℕ → Float) → ((i j : ℕ) → i < r → j < m → f i j ≡ g i j) → grid r m f ≡ grid r m g
grid-ext r m f g h = rows_ext r (λ i. tab m (f i)) (λ i. tab m (g i)) (λ i p. tab-ext m (f i) (g i) (λ j q. h i j p q))

pub length-grid : (r m : ℕ) (f : ℕ → ℕ → Float) → length (grid r m f) ≡ r * m
length-grid r m f = length-rows (λ i. tab m (f i)) m (λ i. length-tab m (f i)) r

pub get_or-grid : (r m : ℕ) (f : ℕ → ℕ → Float) (i j : ℕ) → i < r → j < m → get_or (grid r m f) (i * m + j) nan ≡ f i j
get_or-grid r m f i j p q = get_d_rows (λ i. tab m (f i)) m (λ i. length-tab m (f i)) r i j nan p q ∙ get_or-tab m j (f i) nan q

module _ (r nin nout : ℕ) (w : List Float) where
  pub begun-none : (x : List Float) → tab (r * nout) (λ _. zero32) ≡ begun 0 r nin nout w x
  unfolding sum_of
  begun-none x = tab-mul r nout (λ _. zero32)

  begun_more : (k n : ℕ) (x : List Float) → gone_on k n r nin nout w x (begun k r nin nout w x) ≡ begun (k + n) r nin nout w x
  begun_more k n x =
      grid-ext r nout
      (λ l c. sum_from (get_or (begun k r nin nout w x) (l * nout + c) nan) n (λ j. product nin w x l c (k + j)))
      (λ l c. sum_of (k + n) (product nin w x l c))
      (λ l c p q.
      ap (λ a. sum_from a n (λ j. product nin w x l c (k + j))) (get_or-grid r nout (λ l c. sum_of k (product nin w x l c)) l c p q)
      ∙ sum_more k n (product nin w x l c))

  pub begun_all : (x : List Float) → r * nin ≤ length x → begun nin r nin nout w x ≡ linear_of r nin nout w x
  unfolding linear_of linear_row
  begun_all x h =
      grid-ext r nout
      (λ l c. sum_of nin (product nin w x l c))
      (λ l c. sum_of (length (region x (l * nin) nin)) (λ k. mul binary32 (get_or (region x (l * nin) nin) k nan) (get_or (region w (c * nin) nin) k nan)))
      (λ l c p q.
      let b = fit nin p in
      rw (length-region x (l * nin) nin (omega arith))
      (sum-ext nin (product nin w x l c) (λ k. mul binary32 (get_or (region x (l * nin) nin) k nan) (get_or (region w (c * nin) nin) k nan))
      (λ k g. rw (get_or-region x (l * nin) nin k nan g, get_or-region w (c * nin) nin k nan g))))

  -- a turn of the loop over pieces
  pub block-turn : (s u v x : List Float) (y k n : ℕ) → y + r * nout ≤ length s → u ≡ put s y (begun k r nin nout w x)
      → v ≡ put u y (gone_on k n r nin nout w x (region u y (r * nout))) → v ≡ put s y (begun (k + n) r nin nout w x)
  block-turn s u v x y k n h e g =
      let B = begun k r nin nout w x in
      let l : length B ≡ r * nout = length-grid r nout (λ l c. sum_of k (product nin w x l c)) in
      let l' : length (begun (k + n) r nin nout w x) ≡ r * nout = length-grid r nout (λ l c. sum_of (k + n) (product nin w x l c)) in
      let b : region u y (r * nout) ≡ B = ap (λ t. region t y (r * nout)) e ∙ region-put-same s y B (r * nout) (sym l) (rw l h) in
      g ∙ ap (λ t. put u y (gone_on k n r nin nout w x t)) b ∙ rw (begun_more k n x, e) (put-put s y B (begun (k + n) r nin nout w x) (l ∙ sym l'))

  -- the lanes of a piece are the rows
  pub piece-lanes : (s t t' S : List Float) (x y k n : ℕ) → r ≤ 16 → n * 16 ≤ length t → k + n ≤ nin
      → t' ≡ filled t 0 16 n r (λ j l. get_or S (x + k + l * nin + j) nan)
      → grid r nout (λ l c. sum_from (get_or s (y + (l * nout + c)) nan) n (λ j. mul binary32 (get_or t' (j * 16 + l) nan) (get_or w (c * nin + (k + j)) nan)))
      ≡ gone_on k n r nin nout w (region S x (r * nin)) (region s y (r * nout))
  piece-lanes s t t' S x y k n a b d e =
      grid-ext r nout
      (λ l c. sum_from (get_or s (y + (l * nout + c)) nan) n (λ j. mul binary32 (get_or t' (j * 16 + l) nan) (get_or w (c * nin + (k + j)) nan)))
      (λ l c. sum_from (get_or (region s y (r * nout)) (l * nout + c) nan) n (λ j. product nin w (region S x (r * nin)) l c (k + j)))
      (λ l c p q.
      let h = fit nout p in
      rw (get_or-region s y (r * nout) (l * nout + c) nan (omega arith))
      (from-ext (get_or s (y + (l * nout + c)) nan) n (λ j. mul binary32 (get_or t' (j * 16 + l) nan) (get_or w (c * nin + (k + j)) nan)) (λ j. product nin w (region S x (r * nin)) l c (k + j))
      (λ j g. ap (λ v. mul binary32 v (get_or w (c * nin + (k + j)) nan)) (lane l j p g))))
    where
      lane : (l j : ℕ) → l < r → j < n → get_or t' (j * 16 + l) nan ≡ get_or (region S x (r * nin)) (l * nin + (k + j)) nan
      lane l j p g =
          let h = fit nin p in
          ap (λ u. get_or u (j * 16 + l) nan) e
          ∙ ap (λ i. get_or (filled t 0 16 n r (λ j l. get_or S (x + k + l * nin + j) nan)) i nan) (omega arith)
          ∙ filled_in t 0 16 (λ j l. get_or S (x + k + l * nin + j) nan) n r j l nan a g p (omega arith)
          ∙ ap (λ i. get_or S i nan) (omega arith)
          ∙ sym (get_or-region S x (r * nin) (l * nin + (k + j)) nan (omega arith))

  linear-add : (i : ℕ) (x : List Float) → linear_of (i + r) nin nout w x ≡ linear_of i nin nout w x ++ linear_of r nin nout w (region x (i * nin) (r * nin))
  unfolding linear_of
  linear-add i x =
      let f : ℕ → List Float = λ j. linear_row nin nout w (region x (j * nin) nin) in
      rows-add i r f
      ∙ ap (λ t. rows i f ++ t)
      (rows_ext r (λ j. f (i + j)) (λ j. linear_row nin nout w (region (region x (i * nin) (r * nin)) (j * nin) nin))
      (λ j p. ap (linear_row nin nout w) (ap (λ m. region x m nin) (add-mul i j nin) ∙ sym (region-region x (i * nin) (r * nin) (j * nin) nin (fit nin p)))))

  -- a turn of the loop over blocks
  pub rows-turn : (s u v x : List Float) (y i : ℕ) → u ≡ put s y (linear_of i nin nout w x)
      → v ≡ put u (y + i * nout) (linear_of r nin nout w (region x (i * nin) (r * nin))) → v ≡ put s y (linear_of (i + r) nin nout w x)
  rows-turn s u v x y i e g =
      rw (g, e, linear-add i x)
      (put-append s y (linear_of i nin nout w x) (linear_of r nin nout w (region x (i * nin) (r * nin))) (y + i * nout) (ap (λ m. y + m) (sym (length-linear i nin nout w x))))

  -- u is s with the block cleared: no product is summed yet
  pub cleared-start : (s u x : List Float) (y : ℕ) → u ≡ blank zero32 y (r * nout) s → u ≡ put u y (begun 0 r nin nout w x)
  cleared-start s u x y e =
      let Z = tab (r * nout) (λ _. zero32) in
      e ∙ sym (ap (λ t. put t y (begun 0 r nin nout w x)) e ∙ rw (← begun-none x) (put-put s y Z Z refl))

  -- every product is
  pub block-done : (s u v x : List Float) (y : ℕ) → r * nin ≤ length x → u ≡ blank zero32 y (r * nout) s → v ≡ put u y (begun nin r nin nout w x)
      → v ≡ put s y (linear_of r nin nout w x)
  block-done s u v x y h e g =
      let L = linear_of r nin nout w x in
      g ∙ rw (begun_all x h, e) (put-put s y (tab (r * nout) (λ _. zero32)) L (length-tab (r * nout) (λ _. zero32) ∙ sym (length-linear r nin nout w x)))

-- ---- columns of sums

-- row l of column c is inside s, and the next floats of its weights are inside w
module _ {lens lenw lent y r nin nout k n c : ℕ} (f : ColumnAt lens lenw lent y r nin nout k n c) where
  pub cell : (l : ℕ) → l < r → y + c + l * nout < lens
  cell l h = let g = fit nout h in omega (arith, f.column, f.fits.yin)

  pub room : c * nin + k + n ≤ lenw
  room = omega (arith, fit nin f.column, f.fits.win, f.fits.kin)

  -- the column before

  pub before-it : {d : ℕ} → c ≡ d + 1 → ColumnAt lens lenw lent y r nin nout k n d
  before-it e = record { fits = f.fits; column = omega (arith, f.column) }

module _ {lens lenw lent y r nin nout k n c : ℕ} (f : WideAt lens lenw lent y r nin nout k n c) where
  pub first_of : ColumnAt lens lenw lent y r nin nout k n c
  first_of = record { fits = f.fits; column = omega (arith, f.columns) }

  pub column-of : (o : ℕ) → o < 4 → ColumnAt lens lenw lent y r nin nout k n (c + o)
  column-of o h = record { fits = f.fits; column = omega (arith, f.columns) }

module _ (w xt : List Float) (y r nin nout k n : ℕ) where
  -- column c gathered into lanes and gone on
  pub column-lane : (s z a v b : List Float) (c : ℕ) → r ≤ 16 → length z ≡ 16 → c * nin + k + n ≤ length w
      → a ≡ spread z 0 1 r (λ i. get_or s (y + c + i * nout) nan) → v ≡ region w (c * nin + k) n → b ≡ tab 16 (lane_of n a xt v)
      → (l : ℕ) → l < r → get_or b (0 + l * 1) nan ≡ gone_sum s w xt y nin nout k n l c
  column-lane s z a v b c q lz room e₂ e₃ e₄ l m =
      let g : ℕ → Float = λ i. get_or s (y + c + i * nout) nan in
      let start : get_or a l nan ≡ get_or s (y + (l * nout + c)) nan =
      ap (λ u. get_or u l nan) (e₂ ∙ spread-one z 0 r g)
      ∙ ap (λ i. get_or (put z 0 (tab r g)) i nan) (omega arith)
      ∙ get_or-put-same z 0 (tab r g) l nan (rw (length-tab r g) m) (rw (length-tab r g, lz) (omega arith))
      ∙ get_or-tab r l g nan m
      ∙ ap (λ i. get_or s i nan) (omega arith) in
      ap (λ i. get_or b i nan) (omega arith)
      ∙ ap (λ u. get_or u l nan) e₄ ∙ get_or-tab 16 l (lane_of n a xt v) nan (omega arith)
      ∙ rw start
      (from-ext (get_or s (y + (l * nout + c)) nan) n (λ j. mul binary32 (get_or xt (j * 16 + l) nan) (get_or v j nan)) (λ j. mul binary32 (get_or xt (j * 16 + l) nan) (get_or w (c * nin + (k + j)) nan))
      (λ j h. ap (λ f. mul binary32 (get_or xt (j * 16 + l) nan) f) (ap (λ u. get_or u j nan) e₃ ∙ get_or-region w (c * nin + k) n j nan h ∙ ap (λ i. get_or w i nan) (omega arith))))

  -- a later column is as it was, and so are its sums
  column-same : (s u : List Float) (c d : ℕ) → u ≡ filled s y nout r c (gone_sum s w xt y nin nout k n) → c ≤ d → d < nout
      → (l : ℕ) → l < r → gone_sum u w xt y nin nout k n l d ≡ gone_sum s w xt y nin nout k n l d
  column-same s u c d e h q l m =
      let o : get_or u (y + (l * nout + d)) nan ≡ get_or s (y + (l * nout + d)) nan =
      ap (λ i. get_or u i nan) (omega arith)
      ∙ ap (λ x. get_or x (y + d + l * nout) nan) e
      ∙ filled-out s y nout (gone_sum s w xt y nin nout k n) r c l d nan h q
      ∙ ap (λ i. get_or s i nan) (omega arith) in
      rw o refl

  pub column-turn : (s u z : List Float) (c : ℕ) → c < nout → u ≡ filled s y nout r c (gone_sum s w xt y nin nout k n)
      → z ≡ spread u (y + c) nout r (λ l. gone_sum u w xt y nin nout k n l c) → z ≡ filled s y nout r (c + 1) (gone_sum s w xt y nin nout k n)
  unfolding filled
  column-turn s u z c h e g =
      g ∙ spread-ext u (y + c) nout r (λ l. gone_sum u w xt y nin nout k n l c) (λ l. gone_sum s w xt y nin nout k n l c) (column-same s u c c e (omega arith) h)
      ∙ rw (add-one c, e)

  pub pair_turn : (s u z : List Float) (c : ℕ) → c + 1 < nout → u ≡ filled s y nout r c (gone_sum s w xt y nin nout k n)
      → z ≡ spread (spread u (y + c) nout r (λ l. gone_sum u w xt y nin nout k n l c)) (y + (c + 1)) nout r (λ l. gone_sum u w xt y nin nout k n l (c + 1))
      → z ≡ filled s y nout r (c + 2) (gone_sum s w xt y nin nout k n)
  unfolding filled
  pair_turn s u z c h e g =
      let x = spread u (y + c) nout r (λ l. gone_sum u w xt y nin nout k n l c) in
      let f : x ≡ filled s y nout r (c + 1) (gone_sum s w xt y nin nout k n) = column-turn s u x c (omega arith) e refl in
      let two : c + 2 ≡ suc (c + 1) = omega arith in
      g ∙ spread-ext x (y + (c + 1)) nout r (λ l. gone_sum u w xt y nin nout k n l (c + 1)) (λ l. gone_sum s w xt y nin nout k n l (c + 1)) (column-same s u c (c + 1) e (omega arith) h)
      ∙ rw (two, f)

  -- four columns, each the lanes of its own, spread one after another
  pub four-spread : (s b₀ b₁ b₂ b₃ : List Float) (c : ℕ) (F : ℕ → ℕ → Float)
      → ((l : ℕ) → l < r → get_or b₀ (0 + l * 1) nan ≡ F l 0) → ((l : ℕ) → l < r → get_or b₁ (0 + l * 1) nan ≡ F l 1)
      → ((l : ℕ) → l < r → get_or b₂ (0 + l * 1) nan ≡ F l 2) → ((l : ℕ) → l < r → get_or b₃ (0 + l * 1) nan ≡ F l 3)
      → spread (spread (spread (spread s (y + c) nout r (λ l. get_or b₀ l nan)) (y + c + 1) nout r (λ l. get_or b₁ l nan)) (y + c + 2) nout r (λ l. get_or b₂ l nan)) (y + c + 3) nout r (λ l. get_or b₃ l nan)
      ≡ filled s (y + c) nout r 4 F
  unfolding filled
  four-spread s b₀ b₁ b₂ b₃ c F h₀ h₁ h₂ h₃ =
      let at = y + c in
      let turn : (u b : List Float) (o : ℕ) → u ≡ filled s at nout r o F → ((l : ℕ) → l < r → get_or b (0 + l * 1) nan ≡ F l o)
      → spread u (at + o) nout r (λ l. get_or b l nan) ≡ filled s at nout r (suc o) F =
      λ u b o e h.
      spread-ext u (at + o) nout r (λ l. get_or b l nan) (λ l. F l o) (λ l p. ap (λ i. get_or b i nan) (omega arith) ∙ h l p) ∙ ap (λ x. spread x (at + o) nout r (λ l. F l o)) e in
      let z₁ : spread s at nout r (λ l. get_or b₀ l nan) ≡ filled s at nout r 1 F = ap (λ a. spread s a nout r (λ l. get_or b₀ l nan)) (omega arith) ∙ turn s b₀ 0 refl h₀ in
      turn (spread (spread (spread s at nout r (λ l. get_or b₀ l nan)) (at + 1) nout r (λ l. get_or b₁ l nan)) (at + 2) nout r (λ l. get_or b₂ l nan)) b₃ 3
      (turn (spread (spread s at nout r (λ l. get_or b₀ l nan)) (at + 1) nout r (λ l. get_or b₁ l nan)) b₂ 2 (turn (spread s at nout r (λ l. get_or b₀ l nan)) b₁ 1 z₁ h₁) h₂) h₃

  -- four columns gathered into cells and gone on
  pub four-cells : (s z a b : List Float) (c : ℕ) → r ≤ 4 → length z ≡ 16
      → a ≡ filled z 0 4 4 r (λ o l. get_or s (y + c + l * nout + o) nan) → b ≡ tab 16 (cell_of n a xt w (c * nin + k) nin)
      → (l o : ℕ) → l < r → o < 4 → get_or b (l + o * 4) nan ≡ gone_sum s w xt y nin nout k n l (c + o)
  four-cells s z a b c q lz e g l o p h =
      let F : ℕ → ℕ → Float = λ o l. get_or s (y + c + l * nout + o) nan in
      let l4 : l < 4 = omega arith in
      let start : get_or a (o * 4 + l) nan ≡ get_or s (y + (l * nout + (c + o))) nan =
      ap (λ u. get_or u (o * 4 + l) nan) e
      ∙ ap (λ i. get_or (filled z 0 4 4 r F) i nan) (omega arith)
      ∙ filled_in z 0 4 F 4 r o l nan q h p (omega arith)
      ∙ ap (λ i. get_or s i nan) (omega arith) in
      ap (λ i. get_or b i nan) (omega arith)
      ∙ ap (λ u. get_or u (o * 4 + l) nan) g
      ∙ get_or-tab 16 (o * 4 + l) (cell_of n a xt w (c * nin + k) nin) nan (omega arith)
      ∙ rw start
      (from-ext (get_or s (y + (l * nout + (c + o))) nan) n
      (λ j. mul binary32 (get_or xt (j * 16 + (o * 4 + l) % 4) nan) (get_or w (c * nin + k + j + (o * 4 + l) / 4 * nin) nan))
      (λ j. mul binary32 (get_or xt (j * 16 + l) nan) (get_or w ((c + o) * nin + (k + j)) nan))
      (λ j _. rw (digits_mod o {m = 4} {r = l} l4, digits_div o {m = 4} {r = l} l4)
      (ap (λ i. mul binary32 (get_or xt (j * 16 + l) nan) (get_or w i nan)) (let d = add-mul c o nin in omega arith))))

  pub four-turn : (s u z : List Float) (c : ℕ) → c + 4 ≤ nout → u ≡ filled s y nout r c (gone_sum s w xt y nin nout k n)
      → z ≡ filled u (y + c) nout r 4 (λ l o. gone_sum u w xt y nin nout k n l (c + o)) → z ≡ filled s y nout r (c + 4) (gone_sum s w xt y nin nout k n)
  four-turn s u z c h e g =
      let F = gone_sum s w xt y nin nout k n in
      g ∙ filled-ext u (y + c) nout r 4 (λ l o. gone_sum u w xt y nin nout k n l (c + o)) (λ l o. F l (c + o)) (λ l o p q. column-same s u c (c + o) e (omega arith) (omega arith) l p)
      ∙ ap (λ x. filled x (y + c) nout r 4 (λ l o. F l (c + o))) e
      ∙ filled-add s y nout F r c 4
