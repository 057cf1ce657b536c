-- How long each piece is that the loops of restore write, how they make rows, and that, of known samples, the rows are the
-- definition's. Assumes nothing.
use mathlib.Core.Path.{◌≡◌, refl, sym, ap, ◌∙◌}
use mathlib.Core.Bool.{true}
use mathlib.Core.List.{List, ◌++◌}
use Prim.Native.Nat.{ℕ, ◌+◌, ◌*◌, ◌-◌, ◌/◌, ◌%◌, ◌≤◌, ◌<◌, min}
use native.Mathlib.Nat.{mul_assoc, add-mul, mul-le-mul_left}
use native.Mathlib.Omega.{arith}
use borrow.Author.Tests.{lt-ltb}
use lib.Dec.{T}
use lib.ListN.{length, get_or}
use lib.Ieee.{Float, nan, binary32, fits, to_bits}
use Rattle.buffers.specs.Rows.{tab, rows}
use Rattle.buffers.specs.Region.{put, put_rows}
use Rattle.buffers.specs.inner.Apart.{after}
use Rattle.buffers.proofs.Lists.{fit, length-tab, length-rows, get_or-tab, get_d_rows, rows_ext, rows-add, tab-ext}
use Rattle.buffers.proofs.Regions.{get_or-put-same}
use Rattle.buffers.proofs.Puts.{puts-ext}
use Rattle.picture_samples.specs.Samples.{byte_of, entry}
use Rattle.picture_samples.proofs.Finds.{Same, byte-same}
use Rattle.picture_limits.specs.Places.{patch_floats, sample_place}
use Rattle.picture_limits.proofs.Places.{turn, quotient, remainder, patch-in, place-in-patch, at_in}
use Rattle.picture_spot.specs.declared.Way.{Way}
use Rattle.picture_spot.specs.declared.Way.TheVariants.{Guess}
use Rattle.picture_spot.specs.inner.Spot.{guessed_by, spotted, Spots}
use Rattle.picture_spot.proofs.Spots.{spot-byte}
use Rattle.picture_view.specs.Known.{known}
use Rattle.picture_view.specs.inner.Rows.{run_by, patch_by, pixels_of, piece_by, line_by, row_by}
use Rattle.picture_view.proofs.Known.{known_at}
use Rattle.picture_view.proofs.Columns.{puts-longer, puts-more}

-- where bytes are spotted by arithmetic, guesses are what is spotted
pub by-arithmetic : (w : Way) (slope shift : List Float) (k : ℕ → ℕ → ℕ) → w ≡ Guess slope shift → (c : ℕ) → c < 3 → (n : ℕ) (l : List Float) (from : ℕ) → run_by (guessed_by slope shift) c n l from ≡ run_by (spotted w k) c n l from
unfolding spotted
by-arithmetic w slope shift k e c h n l from = tab-ext n _ _ (λ i _. rw (e, lt-ltb c 3 h) refl)

-- a loop that goes on by p, and ends at m: where it stands after a turn
pub record Next (a y p m n : ℕ) : Type 0 where
  pub passed : a ≤ y
  pub some : 0 < n
  pub few : n ≤ p
  pub inside : y + n ≤ m
  pub goes_on : y + n < m → y + n ≡ (a + 1) * p

pub next : (a y p m n : ℕ) → 0 < p → y < m → y ≡ a * p → n ≡ min p (m - y) → Next a y p m n
next a y p m n h k e f = record {
  passed = omega (arith, mul-le-mul_left a h);
  some = omega arith;
  few = omega arith;
  inside = omega arith;
  goes_on = λ l. omega (arith, turn a p);
}

module _ (g : ℕ → Float → ℕ) (p : ℕ) (l : List Float) where
  -- ---- how long each piece is
  pub length-piece_by : (n from i : ℕ) → length (piece_by g p n l from i) ≡ n * 3
  length-piece_by n from i = length-rows _ 3 (λ j. length-tab 3 _) n

  pub length-line_by : (n from i : ℕ) → length (line_by g p n l from i) ≡ n * 3
  length-line_by n from i = length-rows _ 3 (λ j. length-tab 3 _) n

  -- ---- a row of a patch, taken from its bytes
  pub piece_of : (s u : List ℕ) (n from i : ℕ) → u ≡ put s 0 (patch_by g (p * p) l from) → 3 * (p * p) ≤ length s → i < p → n ≤ p → pixels_of u (p * p) n (i * p) ≡ piece_by g p n l from i
  piece_of s u n from i e room hi hn = rows_ext n _ _ (λ j hj. tab-ext 3 _ _ (λ c hc. byte j c (omega (arith, hj, hn, fit p hi)) hc))
    where
      long : (c : ℕ) → length (run_by g c (p * p) l (from + c * (p * p))) ≡ p * p
      long c = length-tab (p * p) _

      byte : (j c : ℕ) → i * p + j < p * p → c < 3 → get_or u (i * p + j + c * (p * p)) 0 ≡ g c (get_or l (from + c * (p * p) + (i * p + j)) nan)
      byte j c hj hc =
          let k = i * p + j in
          let f : ℕ → List ℕ = λ c. run_by g c (p * p) l (from + c * (p * p)) in
          let o : k + c * (p * p) ≡ 0 + (c * (p * p) + k) = omega arith in
          let z = length-rows f (p * p) long 3 in
          let m : c * (p * p) + k < length (patch_by g (p * p) l from) = omega (arith, fit (p * p) hc) in
          ap (λ (q : ℕ). get_or u q 0) o
          ∙ ap (λ (q : List ℕ). get_or q (0 + (c * (p * p) + k)) 0) e
          ∙ get_or-put-same s 0 (patch_by g (p * p) l from) (c * (p * p) + k) 0 m (omega (arith, z))
          ∙ get_d_rows f (p * p) long 3 c k 0 hc hj
          ∙ get_or-tab (p * p) k _ 0 hj

  -- ---- a row of patches side by side, and of the picture
  module _ (h : 0 < p) where
    pub line-more : (b n from i : ℕ) → n ≤ p → line_by g p (b * p) l from i ++ piece_by g p n l (from + b * patch_floats p) i ≡ line_by g p (b * p + n) l from i
    line-more b n from i hn =
        ap (λ (z : List ℕ). line_by g p (b * p) l from i ++ z) (rows_ext n _ _ (λ j hj. let k : j < p = omega arith in tab-ext 3 _ _ (λ c _. rw (quotient p h b j k, remainder p h b j k))))
        ∙ sym (rows-add (b * p) n _)

    pub line_row : (gw a n i : ℕ) → i < p → line_by g p n l (a * (gw * patch_floats p)) i ≡ row_by g p gw n l (a * p + i)
    line_row gw a n i hi =
        rows_ext n _ _ (λ x _. tab-ext 3 _ _ (λ c _. ap (λ (k : ℕ). g c (get_or l k nan))
        (rw (quotient p h a i hi, remainder p h a i hi) (omega (arith, add-mul (a * gw) (x / p) (patch_floats p), mul_assoc a gw (patch_floats p))))))

    -- a turn of the loop over patches side by side
    pub line-turn : (s t u : List ℕ) (tall at stride from b x n : ℕ) → x ≡ b * p → n ≤ p → (x + n) * 3 ≤ stride → t ≡ put_rows s tall (λ i. at + i * stride) (λ i. line_by g p x l from i)
        → u ≡ put_rows t tall (λ i. at + x * 3 + i * stride) (λ i. piece_by g p n l (from + b * patch_floats p) i) → u ≡ put_rows s tall (λ i. at + i * stride) (λ i. line_by g p (x + n) l from i)
    line-turn s t u tall at stride from b x n e hn hs et eu =
        let f : ℕ → List ℕ = λ i. line_by g p x l from i in
        let k : ℕ → List ℕ = λ i. piece_by g p n l (from + b * patch_floats p) i in
        eu
        ∙ ap (λ (z : List ℕ). put_rows z tall (λ i. at + x * 3 + i * stride) k) et
        ∙ puts-longer s tall (λ i. at + i * stride) (λ i. at + x * 3 + i * stride) f k (λ i _. omega (arith, length-line_by x from i))
        (λ i j hj _. after (omega (arith, length-piece_by n (from + b * patch_floats p) i, fit stride hj)))
        ∙ puts-ext s (λ i. at + i * stride) (λ i. at + i * stride) (λ i. f i ++ k i) (λ i. line_by g p (x + n) l from i) tall (λ i _. refl) (λ i _. rw e (line-more b n from i hn))

    -- and of that over lines of patches
    pub rows-turn : (s t u : List ℕ) (gw wide at stride a y n : ℕ) → y ≡ a * p → n ≤ p → t ≡ put_rows s y (λ i. at + i * stride) (λ i. row_by g p gw wide l i)
        → u ≡ put_rows t n (λ i. at + y * stride + i * stride) (λ i. line_by g p wide l (a * (gw * patch_floats p)) i) → u ≡ put_rows s (y + n) (λ i. at + i * stride) (λ i. row_by g p gw wide l i)
    rows-turn s t u gw wide at stride a y n e hn et eu =
        eu
        ∙ ap (λ (z : List ℕ). put_rows z n (λ i. at + y * stride + i * stride) (λ i. line_by g p wide l (a * (gw * patch_floats p)) i)) et
        ∙ puts-ext _ (λ i. at + y * stride + i * stride) (λ i. at + (y + i) * stride) _ (λ i. row_by g p gw wide l (y + i)) n (λ i _. omega (arith, add-mul y i stride))
        (λ i hi. let k : i < p = omega arith in rw e (line_row gw a wide i k))
        ∙ puts-more s y n (λ i. at + i * stride) (λ i. row_by g p gw wide l i)

-- ---- what the loops write, of known samples
module _ (t : List ℕ) (g : ℕ → Float → ℕ) (k : ℕ → ℕ → ℕ) (p gh gw : ℕ) (l : List Float) (s : Spots t g) (eq : Same (entry t) k) (h : 0 < p) (seen : known k p l ≡ true)
    (len : length l ≡ gh * gw * patch_floats p) (ok : (i : ℕ) → i < length l → T (fits binary32 (get_or l i nan))) where
  pub spotted-row : (n y : ℕ) → y < gh * p → n ≤ gw * p → row_by g p gw n l y ≡ rows n (λ x. tab 3 (λ c. byte_of k c (to_bits binary32 (get_or l (sample_place p gw y x c) nan))))
  spotted-row n y hy hn = rows_ext n _ _ (λ x hx. tab-ext 3 _ _ (λ c hc. let z : x < gw * p = omega arith in same x c z hc))
    where
      same : (x c : ℕ) → x < gw * p → c < 3 → g c (get_or l (sample_place p gw y x c) nan) ≡ byte_of k c (to_bits binary32 (get_or l (sample_place p gw y x c) nan))
      same x c hx hc =
          let u = patch-in p gh gw y x h hy hx in
          let w = place-in-patch p y x h in
          let at = sample_place p gw y x c in
          let m : at < length l = omega (arith, len, at_in p (gh * gw) (y / p * gw + x / p) c (y % p * p + x % p) u hc w) in
          let v = get_or l at nan in
          let z = byte-same (entry t) k eq c (to_bits binary32 v) hc in
          spot-byte t g s c hc v (ok at m) (rw z (known_at k p (gh * gw) l len seen (y / p * gw + x / p) c (y % p * p + x % p) u hc w)) ∙ z
