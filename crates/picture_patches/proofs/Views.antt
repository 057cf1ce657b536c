-- A view is read straight: a row of samples is that of its own bytes, and behind them that of zero bytes. The view of a whole
-- picture is the picture resized to its own sides. Assumes nothing.
use mathlib.Core.Path.{◌≡◌, refl, sym, ap, ◌∙◌}
use mathlib.Core.Bool.{Bool, true, false, cond}
use mathlib.Core.List.{List, ◌++◌}
use Prim.Native.Nat.{ℕ, ◌+◌, ◌*◌, ◌-◌, ◌≤◌, ◌<◌, min}
use native.Mathlib.Nat.{zero-add}
use native.Mathlib.Omega.{arith}
use borrow.Author.Tests.{lt-ltb, le-ltb, ltb-true}
use lib.Dec.{ltb}
use lib.ListN.{length, get_or}
use lib.Ieee.{Float}
use Rattle.buffers.specs.Rows.{tab}
use Rattle.buffers.specs.Region.{put}
use Rattle.buffers.specs.Lent.{Bytes}
use Rattle.buffers.proofs.Lists.{fit, length-tab, tab-ext, tab-add, and_left, and_right, and_both}
use Rattle.buffers.proofs.Regions.{put-append}
use Rattle.picture_limits.specs.declared.View.{View}
use Rattle.picture_limits.specs.View.{has}
use Rattle.picture_samples.specs.Samples.{value}
use Rattle.picture_resize.specs.Resize.{pixel, resized_at}
use Rattle.picture_resize.proofs.Same.{pixel-same}
use Rattle.picture_patches.specs.Patches.{patch_row}
use Rattle.picture_patches.specs.Viewed.{view_at}
use Rattle.picture_patches.specs.inner.Frame.{own}

-- ---- of the p columns from x on, those before `own` are the view's, and no others
module _ (v : View) (p r x : ℕ) where
  pub own-le : own v p r x ≤ p
  unfolding own
  own-le = go (ltb r v.height)
    where
      go : (b : Bool) → cond b (min p (v.width - x)) 0 ≤ p
      go true = omega arith
      go false = omega arith

  pub own-has : (j : ℕ) → j < own v p r x → has v r (x + j) ≡ true
  unfolding own
  own-has j = go (ltb r v.height) refl
    where
      go : (b : Bool) → ltb r v.height ≡ b → j < cond b (min p (v.width - x)) 0 → has v r (x + j) ≡ true
      go true e h = let l : x + j < v.width = omega arith in and_both (ltb r v.height) (ltb (x + j) v.width) e (lt-ltb (x + j) v.width l)
      go false e h = absurd (omega arith)

  pub own-not : (j : ℕ) → own v p r x ≤ j → j < p → has v r (x + j) ≡ false
  unfolding own
  own-not j = go (ltb r v.height) refl
    where
      go : (b : Bool) → ltb r v.height ≡ b → cond b (min p (v.width - x)) 0 ≤ j → j < p → has v r (x + j) ≡ false
      go true e h l = let m : v.width ≤ x + j = omega arith in rw (e, le-ltb (x + j) v.width m)
      go false e h l = rw e

-- a row and a column that a view has
pub has-says : (v : View) (y x : ℕ) → has v y x ≡ true → (y < v.height) × (x < v.width)
has-says v y x e =
    let A = ltb y v.height in
    let B = ltb x v.width in
    (ltb-true y v.height (and_left A B e), ltb-true x v.width (and_right A B e))

module _ (rgb : List ℕ) (w : ℕ) (v : View) (p r x c n : ℕ) (e : n ≡ own v p r x) where
  -- where the row is read from
  abbrev from : ℕ
  from = ((v.top + r) * w + (v.left + x)) * 3 + c

  -- each of its own bytes lies in the picture
  pub view_in : (h : ℕ) → length rgb ≡ h * w * 3 → v.top + v.height ≤ h → v.left + v.width ≤ w → c < 3 → (j : ℕ) → j < n → from + j * 3 < length rgb
  view_in h m tall wide hc j hj =
      let u = has-says v r (x + j) (own-has v p r x j (rw (← e) hj)) in
      let a : v.top + r < h = omega (arith, u.0) in
      omega (arith, m, fit w a, u.1)

  -- the pixels of a row stand 3 apart
  own-pixel : (j : ℕ) → j < n → get_or rgb (from + j * 3) 0 ≡ view_at rgb w v r (x + j) c
  unfolding view_at
  own-pixel j hj =
      let k : from + j * 3 ≡ ((v.top + r) * w + (v.left + (x + j))) * 3 + c = omega arith in
      ap (λ (i : ℕ). get_or rgb i 0) k ∙ rw (own-has v p r x j (rw (← e) hj)) refl

  zero-pixel : (j : ℕ) → j < p - n → 0 ≡ view_at rgb w v r (x + (n + j)) c
  unfolding view_at
  zero-pixel j hj = let l : own v p r x ≤ n + j = omega (arith, e) in let m : n + j < p = omega arith in rw (own-not v p r x (n + j) l m) refl

  -- both parts, written one behind the other
  pub view-wrote : (k : ℕ → ℕ → ℕ) (s : List Float) (at : ℕ) → put (put s at (tab n (λ j. value k c (get_or rgb (from + j * 3) 0)))) (at + n) (tab (p - n) (λ _. value k c 0)) ≡ put s at (patch_row p (λ y x c. value k c (view_at rgb w v y x c)) r x c)
  view-wrote k s at =
      let f : ℕ → Float = λ j. value k c (view_at rgb w v r (x + j) c) in
      let a : List Float = tab n (λ j. value k c (get_or rgb (from + j * 3) 0)) in
      let b : List Float = tab (p - n) (λ _. value k c 0) in
      let m : n + (p - n) ≡ p = omega (arith, e, own-le v p r x) in
      let x : a ≡ tab n f = tab-ext n _ _ (λ j hj. ap (value k c) (own-pixel j hj)) in
      let y : b ≡ tab (p - n) (λ j. f (n + j)) = tab-ext (p - n) _ _ (λ j hj. ap (value k c) (zero-pixel j hj)) in
      put-append s at a b (at + n) (ap (λ (i : ℕ). at + i) (sym (length-tab n _)))
      ∙ ap (put s at) (ap (λ (l : List Float). l ++ b) x ∙ ap (λ (l : List Float). tab n f ++ l) y ∙ sym (tab-add n (p - n) f) ∙ ap (λ (i : ℕ). tab i f) m)

-- ---- the view of a whole picture is the picture resized to its own sides
abbrev pub full : ℕ → ℕ → View
full h w = record { top = 0; left = 0; height = h; width = w }

pub full-same : (rgb : List ℕ) (h w th tw y x c : ℕ) → Bytes rgb → h ≤ 8192 → w ≤ 8192 → th ≡ h → tw ≡ w → y < th → x < tw → view_at rgb w (full h w) y x c ≡ resized_at rgb h w th tw y x c
unfolding view_at
full-same rgb h w th tw y x c b hh hw e f hy hx =
    let hy : y < h = omega arith in
    let hx : x < w = omega arith in
    rw (lt-ltb y h hy, lt-ltb x w hx)
    (ap (λ (n : ℕ). pixel rgb w n (0 + x) c) (zero-add y) ∙ ap (λ (n : ℕ). pixel rgb w y n c) (zero-add x)
    ∙ sym (pixel-same rgb h w y x c b (omega arith) (omega arith) hy hx) ∙ sym (ap (λ (n : ℕ). resized_at rgb h w n tw y x c) e ∙ ap (λ (n : ℕ). resized_at rgb h w h n y x c) f))
