-- Laws of weighted sums that run side by side, one for each of sixteen places. Assumes nothing.
use mathlib.Core.Path.{◌≡◌, refl, sym, ap, ◌∙◌}
use mathlib.Core.List.{List, ◌++◌}
use Prim.Native.Nat.{ℕ, ◌+◌, ◌*◌}
use native.Mathlib.Nat.{add_assoc, zero-add, mul-one}
use native.Mathlib.Numerals.{add-one}
use lib.ListN.{get_or}
use lib.Ieee.{Float, nan, binary32, add, mul}
use Rattle.buffers.specs.Rows.{tab}
use Rattle.buffers.specs.Region.{put}
use Rattle.buffers.proofs.Lists.{get_or-tab, tab-ext, tab-add}
use Rattle.encoder_linear.specs.Linear.{sum_of, column_of, weighed_row}
use Rattle.encoder_linear.specs.inner.Lanes.{spread}
use Rattle.encoder_linear.proofs.Fills.{spread-one}
use Rattle.encoder_linear.proofs.Products.{product-comm}

-- a column's sum of j products
abbrev pub begun_column : ℕ → ℕ → ℕ → List Float → List Float → ℕ → Float
begun_column j dim o p v l = sum_of j (λ k. mul binary32 (get_or p k nan) (get_or v (k * dim + (o + l)) nan))

-- each lane with one product more
pub column-step : (j dim o a : ℕ) (p v b r : List Float) → a ≡ j * dim + o → b ≡ tab 16 (begun_column j dim o p v)
    → r ≡ tab 16 (λ l. add binary32 (get_or b l nan) (mul binary32 (get_or v (a + l) nan) (get_or p j nan))) → r ≡ tab 16 (begun_column (j + 1) dim o p v)
unfolding sum_of
column-step j dim o a p v b r d e g =
    g ∙ tab-ext 16 _ (begun_column (j + 1) dim o p v)
    (λ l h. rw (e, d, add-one j, get_or-tab 16 l (begun_column j dim o p v) nan h, product-comm binary32 (get_or v (j * dim + o + l) nan) (get_or p j nan), add_assoc (j * dim) o l) refl)

-- sixteen lanes, stored side by side
pub lanes_put : (u b : List Float) (at : ℕ) (G : ℕ → Float) → b ≡ tab 16 G → spread u at 1 16 (λ i. get_or b (0 + i * 1) nan) ≡ put u at (tab 16 G)
lanes_put u b at G e =
    spread-one u at 16 (λ i. get_or b (0 + i * 1) nan) ∙ ap (put u at) (tab-ext 16 _ G (λ l k. rw (e, mul-one l, zero-add l) (get_or-tab 16 l G nan k)))

-- d sums, and m more behind them
pub weighed-add : (t dim o d m : ℕ) (p q : List Float) → weighed_row t dim d o p q ++ weighed_row t dim m (o + d) p q ≡ weighed_row t dim (d + m) o p q
unfolding weighed_row
weighed-add t dim o d m p q =
    let G : ℕ → Float = λ i. column_of t dim (o + i) p q in
    ap (λ x. tab d G ++ x) (tab-ext m (λ i. column_of t dim (o + d + i) p q) (λ i. G (d + i)) (λ i l. rw (add_assoc o d i) refl)) ∙ sym (tab-add d m G)
