-- Laws of the smaller tables: the row that is built is that of the full table. Assumes nothing.
use mathlib.Core.Path.{◌≡◌, refl, sym, ap, ◌∙◌}
use mathlib.Core.List.{List, ◌++◌, append_assoc}
use Prim.Native.Nat.{ℕ, ◌+◌, ◌*◌, ◌/◌, ◌%◌, ◌≤◌, ◌<◌}
use native.Mathlib.Nat.{add-mul, mul_assoc, div-lt_iff_lt-mul, mod-lt}
use native.Mathlib.Omega.{arith}
use lib.ListN.{length, length-append}
use lib.Ieee.{Float}
use Rattle.buffers.specs.Rows.{tab, rows}
use Rattle.buffers.specs.Region.{region, put}
use Rattle.buffers.proofs.Regions.{put-append, region-put-same, region-region, length-region}
use Rattle.buffers.proofs.Lists.{fit, length-tab, rows_ext, length-pieces, piece-at}
use Rattle.buffers.specs.Each.{each_row}
use Rattle.buffers.specs.inner.Apart.{after}
use Rattle.buffers.proofs.Steps.{row_step}
use Rattle.encoder_rotation.specs.Rotate.{rotated_token, position, rotated_at}
use Rattle.encoder_rotation.proofs.Rotated.{length-token}
use Rattle.encoder_rotation.specs.Axes.{twice, axis_row, expand, axis, precomputed}

pub length-twice : (q : ℕ) (r c : List Float) → length r ≡ q → length c ≡ q → length (twice r c) ≡ q + q + (q + q)
length-twice q r c d e = simp (length-append, d, e)

-- the quarters one behind the other
pub built : (t r c : List Float) (q : ℕ) → length r ≡ q → length c ≡ q → put (put (put (put t 0 r) q c) (q + q) r) (q + q + q) c ≡ put t 0 (twice r c)
built t r c q d e =
    let l = length-append r c in
    let m = length-append (r ++ c) r in
    ap (λ (s : List Float). put (put s (q + q) r) (q + q + q) c) (put-append t 0 r c q (omega (arith, d)))
    ∙ ap (λ (s : List Float). put s (q + q + q) c) (put-append t 0 (r ++ c) r (q + q) (omega (arith, d, e, l)))
    ∙ put-append t 0 ((r ++ c) ++ r) c (q + q + q) (omega (arith, d, e, l, m))
    ∙ ap (put t 0) (append_assoc (r ++ c) r c)

-- and the row that is read there
pub front : (t : List Float) {u p : List Float} (r c : List Float) (q : ℕ) → length r ≡ q → length c ≡ q → q + q + (q + q) ≤ length t
    → u ≡ put t 0 (twice r c) → p ≡ region u 0 (q + q + (q + q)) → p ≡ twice r c
front t r c q d e h g k =
    let n = length-twice q r c d e in
    k ∙ ap (λ (s : List Float). region s 0 (q + q + (q + q))) g ∙ region-put-same t 0 (twice r c) (q + q + (q + q)) (sym n) (omega (arith, h, n))

-- ---- tables of side * q values each

module _ (side q : ℕ) (r c : List Float) (d : length r ≡ side * q) (e : length c ≡ side * q) where
  pub length-axis-row : (h w : ℕ) → h < side → w < side → length (axis_row q r c h w) ≡ q + q + (q + q)
  length-axis-row h w l m =
      let f = fit q l in
      let g = fit q m in
      length-twice q (region r (h * q) q) (region c (w * q) q) (length-region r (h * q) q (omega arith)) (length-region c (w * q) q (omega arith))

  length-row : (h : ℕ) → h < side → length (rows side (axis_row q r c h)) ≡ side * (q + q + (q + q))
  length-row h l = length-pieces side (q + q + (q + q)) (axis_row q r c h) (λ w m. length-axis-row h w l m)

  pub length-expand : length (expand side q r c) ≡ side * (side * (q + q + (q + q)))
  unfolding expand
  length-expand = length-pieces side (side * (q + q + (q + q))) (λ h. rows side (axis_row q r c h)) length-row

  -- the row of the position of a row and a column
  pub row_at : (h w : ℕ) → h < side → w < side → region (expand side q r c) ((h * side + w) * (q + q + (q + q))) (q + q + (q + q)) ≡ axis_row q r c h w
  unfolding expand
  row_at h w l m =
      let n = q + q + (q + q) in
      let R : ℕ → List Float = λ h. rows side (axis_row q r c h) in
      let p : (h * side + w) * n ≡ h * (side * n) + w * n = add-mul (h * side) w n ∙ ap (λ (k : ℕ). k + w * n) (mul_assoc h side n) in
      let i : w * n + n ≤ side * n = fit n m in
      ap (λ (k : ℕ). region (rows side R) k n) p
      ∙ sym (region-region (rows side R) (h * (side * n)) (side * n) (w * n) n i)
      ∙ ap (λ (s : List Float). region s (w * n) n) (piece-at side (side * n) h R length-row l)
      ∙ piece-at side n w (axis_row q r c h) (λ w m. length-axis-row h w l m) m

-- a token of the grid has its row and its column below side
pub row_lt : (i gw side : ℕ) → 0 < gw → i < side * gw → i / gw < side
row_lt i gw side g h = (div-lt_iff_lt-mul g).1 h

pub column-lt : (i gw side : ℕ) → 0 < gw → gw ≤ side → i % gw < side
column-lt i gw side g w = let b : i % gw < gw = mod-lt i g in omega arith

-- a turn of the loop over the tokens, by the quarters of the rows in hand
module _ (tokens heads q gw side : ℕ) (rc rs cc cs : List Float) (d : length rc ≡ side * q) (d' : length rs ≡ side * q) (e : length cc ≡ side * q) (e' : length cs ≡ side * q) where
  abbrev dim : ℕ
  dim = heads * (q + q + (q + q))

  abbrev C : List Float
  C = expand side q rc cc

  abbrev S : List Float
  S = expand side q rs cs

  pub axes-step : (s t u : List Float) (x xa i : ℕ) (r r' c c' : List Float) → i < tokens → i / gw < side → i % gw < side → xa ≡ x + i * dim
      → t ≡ put s x (each_row i dim (rotated_at heads (q + q) gw side C S) (region s x (tokens * dim)))
      → r ≡ region rc (i / gw * q) q → r' ≡ region rs (i / gw * q) q → c ≡ region cc (i % gw * q) q → c' ≡ region cs (i % gw * q) q
      → u ≡ put t xa (rotated_token heads (q + q) (twice r c) (twice r' c') (region t xa dim))
      → u ≡ put s x (each_row (i + 1) dim (rotated_at heads (q + q) gw side C S) (region s x (tokens * dim)))
  axes-step s t u x xa i r r' c c' l h w a b f f' g g' k =
      let hd = q + q + (q + q) in
      let p : ℕ → ℕ = λ i. position gw side i * hd in
      let m : twice r c ≡ region C (p i) hd = rw (f, g) (sym (row_at side q rc cc d e (i / gw) (i % gw) h w)) in
      let m' : twice r' c' ≡ region S (p i) hd = rw (f', g') (sym (row_at side q rs cs d' e' (i / gw) (i % gw) h w)) in
      k ∙ rw (m, m', a, b)
      (row_step s x x tokens dim dim i (rotated_at heads (q + q) gw side C S) (λ i z. length-token heads (q + q) (region C (p i) hd) (region S (p i) hd) z) (after (omega arith)) l)

-- ---- a full table of the form that `precompute_2d_rope` makes is that of its rows and its columns

axis-at : (side q h : ℕ) (f : ℕ → ℕ → Float) → h < side → region (axis side q f) (h * q) q ≡ tab q (f h)
axis-at side q h f l = piece-at side q h (λ h. tab q (f h)) (λ j m. length-tab q (f j)) l

pub precomputed-is : (side q : ℕ) (f g : ℕ → ℕ → Float) → precomputed side q f g ≡ expand side q (axis side q f) (axis side q g)
unfolding precomputed expand
precomputed-is side q f g =
    rows_ext side _ _ (λ h l. rows_ext side _ _ (λ w m. rw (axis-at side q h f l, axis-at side q w g m) refl))
