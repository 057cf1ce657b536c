-- Where each sample of the patches lies. Assumes nothing.
use mathlib.Core.Path.{◌≡◌, sym, ap, ◌∙◌}
use mathlib.Core.List.{List}
use Prim.Native.Nat.{ℕ, ◌+◌, ◌*◌, ◌/◌, ◌%◌, ◌<◌}
use native.Mathlib.Nat.{div-lt_iff_lt-mul, mod-lt, add-mul, mul_assoc, div-add-mod'}
use native.Mathlib.Omega.{arith}
use lib.ListN.{length, get_or}
use lib.Ieee.{Float, nan}
use Rattle.buffers.specs.Rows.{tab}
use Rattle.buffers.proofs.Lists.{fit, length-tab, get_or-tab, get_d_rows, rows_ext, tab-ext, rows-mul, tab-mul, tab-self}
use Rattle.picture_limits.specs.Places.{patch_floats, sample_place}
use Rattle.picture_limits.proofs.Places.{place-of}
use Rattle.picture_patches.specs.Patches.{patch_row, patch_channel, patch_at, patch_line, patches}
use Rattle.picture_patches.proofs.Patches.{length-channel, length-patch, length-line}

-- ---- what stands at a place
module _ {A : Type 0} (p gh gw : ℕ) (v : ℕ → ℕ → ℕ → A) (d : A) where
  -- patch (a, b), channel c, row i and column j of the patch
  pub patch-at : (a b c i j : ℕ) → a < gh → b < gw → c < 3 → i < p → j < p
      → get_or (patches p gh gw v) ((a * gw + b) * patch_floats p + c * (p * p) + (i * p + j)) d ≡ v (a * p + i) (b * p + j) c
  patch-at a b c i j ha hb hc hi hj =
      let n = patch_floats p in
      let k₁ = i * p + j in
      let k₂ = c * (p * p) + k₁ in
      let k₃ = b * n + k₂ in
      let l₁ : k₁ < p * p = omega (arith, fit p hi) in
      let l₂ : k₂ < n = omega (arith, fit (p * p) hc) in
      let l₃ : k₃ < gw * n = omega (arith, fit n hb) in
      let e : (a * gw + b) * n + c * (p * p) + k₁ ≡ a * (gw * n) + k₃ = omega (arith, add-mul (a * gw) b n, mul_assoc a gw n) in
      ap (λ (k : ℕ). get_or (patches p gh gw v) k d) e
      ∙ get_d_rows (λ i. patch_line p gw v (i * p)) (gw * n) (λ i. length-line p v gw (i * p)) gh a k₃ d ha l₃
      ∙ get_d_rows (λ i. patch_at p v (a * p) (i * p)) n (λ i. length-patch p v (a * p) (i * p)) gw b k₂ d hb l₂
      ∙ get_d_rows (λ i. patch_channel p v (a * p) (b * p) i) (p * p) (λ i. length-channel p v (a * p) (b * p) i) 3 c k₁ d hc l₁
      ∙ get_d_rows (λ i. patch_row p v (a * p + i) (b * p) c) p (λ i. length-tab p (λ j. v (a * p + i) (b * p + j) c)) p i j d hi hj
      ∙ get_or-tab p j (λ j. v (a * p + i) (b * p + j) c) d hj

  -- the paper's sentence: the sample at row r, column x, channel c
  pub sample-at : (r x c : ℕ) → 0 < p → r < gh * p → x < gw * p → c < 3 → get_or (patches p gh gw v) (sample_place p gw r x c) d ≡ v r x c
  sample-at r x c h hr hx hc =
      patch-at (r / p) (x / p) c (r % p) (x % p) ((div-lt_iff_lt-mul h).1 hr) ((div-lt_iff_lt-mul h).1 hx) hc (mod-lt r h) (mod-lt x h)
      ∙ ap (λ (k : ℕ). v k (x / p * p + x % p) c) (div-add-mod' r p) ∙ ap (λ (k : ℕ). v r k c) (div-add-mod' x p)

-- ---- the patches of a list's own samples are the list
pub patches-self : (p gh gw : ℕ) (l : List Float) → 0 < p → length l ≡ gh * gw * patch_floats p → patches p gh gw (λ y x c. get_or l (sample_place p gw y x c) nan) ≡ l
patches-self p gh gw l h e =
    let n = patch_floats p in
    let g : ℕ → Float = λ k. get_or l k nan in
    rows_ext gh _ _ (λ a ha. rows_ext gw _ _ (λ b hb. patch-self a b))
    ∙ sym (rows-mul gh gw (λ q. tab n (λ t. g (q * n + t))))
    ∙ sym (tab-mul (gh * gw) n g) ∙ tab-self l (gh * gw * n) nan e
  where
    patch-self : (a b : ℕ) → patch_at p (λ y x c. get_or l (sample_place p gw y x c) nan) (a * p) (b * p) ≡ tab (patch_floats p) (λ t. get_or l ((a * gw + b) * patch_floats p + t) nan)
    patch-self a b =
        let q = (a * gw + b) * patch_floats p in
        rows_ext 3 _ _ (λ c hc.
        rows_ext p _ _ (λ i hi. tab-ext p _ _ (λ j hj. ap (λ (k : ℕ). get_or l k nan) (place-of p h gw a b c i j hi hj)))
        ∙ sym (tab-mul p p (λ k. get_or l (q + (c * (p * p) + k)) nan)))
        ∙ sym (tab-mul 3 (p * p) (λ t. get_or l (q + t) nan))
