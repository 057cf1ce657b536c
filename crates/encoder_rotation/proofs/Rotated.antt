-- Laws of the rotation, and a turn of the loop that rotates a head vector in place. Assumes nothing.
use mathlib.Core.Path.{◌≡◌, sym, ap, ◌∙◌}
use mathlib.Core.List.{List}
use Prim.Native.Nat.{ℕ, ◌+◌, ◌*◌, ◌/◌, ◌%◌, ◌≤◌, ◌<◌}
use native.Mathlib.Nat.{div-lt_iff_lt-mul, mod-lt}
use native.Mathlib.Omega.{arith}
use lib.ListN.{length, get_or, set, length-append}
use lib.Ieee.{Float, nan, binary32, add, mul, neg}
use Rattle.buffers.specs.Rows.{tab}
use Rattle.buffers.specs.Region.{region, put}
use Rattle.buffers.specs.inner.Apart.{before, after}
use Rattle.buffers.proofs.Regions.{put-set, put-append, get_or-put, get_or-region}
use Rattle.buffers.proofs.Lists.{fit, length-tab, put-tab, length-rows}
use Rattle.encoder_rotation.specs.Rotate.{low_of, high_of, rotated_head, rotated_token, position, rotate_of}

pub length-head : (half : ℕ) (cos sin x : List Float) → length (rotated_head half cos sin x) ≡ half + half
unfolding rotated_head
length-head half cos sin x = simp (length-append, length-tab)

pub length-token : (heads half : ℕ) (cos sin x : List Float) → length (rotated_token heads half cos sin x) ≡ heads * (half + half)
unfolding rotated_token
length-token heads half cos sin x =
    length-rows (λ i. rotated_head half cos sin (region x (i * (half + half)) (half + half))) (half + half) (λ i. length-head half cos sin (region x (i * (half + half)) (half + half))) heads

pub length-rotate : (tokens heads half gw side : ℕ) (cos sin x : List Float) → length (rotate_of tokens heads half gw side cos sin x) ≡ tokens * (heads * (half + half))
unfolding rotate_of
length-rotate tokens heads half gw side cos sin x =
    let hd = half + half in
    let p : ℕ → ℕ = λ i. position gw side i * hd in
    length-rows (λ i. rotated_token heads half (region cos (p i) hd) (region sin (p i) hd) (region x (i * (heads * hd)) (heads * hd))) (heads * hd)
    (λ i. length-token heads half (region cos (p i) hd) (region sin (p i) hd) (region x (i * (heads * hd)) (heads * hd))) tokens

-- a position is inside the tables
pub position-lt : (i gw side : ℕ) → 0 < gw → gw ≤ side → i < side * gw → position gw side i < side * side
position-lt i gw side g w h =
    let a : i / gw < side = (div-lt_iff_lt-mul g).1 h in
    let b : i % gw < gw = mod-lt i g in
    let f = fit side a in
    omega arith

module _ (s cos sin : List Float) (x half : ℕ) where
  abbrev head : List Float
  head = region s x (half + half)

  -- the scratch with the first j of both halves rotated
  abbrev pub rotating : ℕ → List Float
  rotating j = put (put s x (tab j (low_of half head cos sin))) (x + half) (tab j (high_of half head cos sin))

  first : (j : ℕ) → j < half → get_or (rotating j) (x + j) nan ≡ get_or head j nan
  first j h =
      get_or-put (put s x (tab j (low_of half head cos sin))) (x + half) (tab j (high_of half head cos sin)) (x + j) nan (rw (length-tab j (high_of half head cos sin)) (before (omega arith)))
      ∙ get_or-put s x (tab j (low_of half head cos sin)) (x + j) nan (rw (length-tab j (low_of half head cos sin)) (after (omega arith)))
      ∙ sym (get_or-region s x (half + half) j nan (omega arith))

  second : (j : ℕ) → j < half → get_or (rotating j) (x + half + j) nan ≡ get_or head (j + half) nan
  second j h =
      get_or-put (put s x (tab j (low_of half head cos sin))) (x + half) (tab j (high_of half head cos sin)) (x + half + j) nan (rw (length-tab j (high_of half head cos sin)) (after (omega arith)))
      ∙ get_or-put s x (tab j (low_of half head cos sin)) (x + half + j) nan (rw (length-tab j (low_of half head cos sin)) (after (omega arith)))
      ∙ ap (λ (k : ℕ). get_or s k nan) (omega arith)
      ∙ sym (get_or-region s x (half + half) (j + half) nan (omega arith))

  pub rotate-step : (j : ℕ) → j < half
      → (let t = rotating j in
      let x1 = get_or t (x + j) nan in
      let x2 = get_or t (x + half + j) nan in
      set (set t (x + j) (add binary32 (mul binary32 x1 (get_or cos j nan)) (mul binary32 (neg x2) (get_or sin j nan))))
      (x + half + j) (add binary32 (mul binary32 x2 (get_or cos (j + half) nan)) (mul binary32 x1 (get_or sin (j + half) nan))))
      ≡ rotating (j + 1)
  rotate-step j h =
      let l = low_of half head cos sin in
      let u = high_of half head cos sin in
      rw (first j h, second j h, put-set (put s x (tab j l)) (x + half) (tab j u) (x + j) (l j) (rw (length-tab j u) (before (omega arith))), put-tab s x j l)
      (put-tab (put s x (tab (j + 1) l)) (x + half) j u)

  pub rotated-all : rotating half ≡ put s x (rotated_head half cos sin head)
  unfolding rotated_head
  rotated-all =
      put-append s x (tab half (low_of half head cos sin)) (tab half (high_of half head cos sin)) (x + half) (ap (λ (k : ℕ). x + k) (sym (length-tab half (low_of half head cos sin))))
