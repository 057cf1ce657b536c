-- Laws of turned keys: the scores over them are the source's, and turned back they are the keys. Assumes nothing.
use mathlib.Core.Path.{◌≡◌, sym, ap, ◌∙◌}
use mathlib.Core.List.{List}
use Prim.Native.Nat.{ℕ, ◌+◌, ◌*◌, ◌≤◌, ◌<◌}
use native.Mathlib.Nat.{add-mul, mul_comm}
use native.Mathlib.Omega.{arith}
use lib.ListN.{length, get_or}
use lib.Ieee.{Float, nan, binary32, mul}
use Rattle.buffers.specs.Rows.{tab}
use Rattle.buffers.specs.Region.{region, put}
use Rattle.number_floats.specs.Constants.{zero32}
use Rattle.buffers.specs.inner.Apart.{Apart}
use Rattle.buffers.specs.Each.{blank}
use Rattle.buffers.proofs.Regions.{get_or-region, region-put, region-put-same, length-region, apart-sym}
use Rattle.buffers.proofs.Steps.{blank-put, blank-rest}
use Rattle.buffers.proofs.Lists.{fit, get_or-tab, tab-ext, tab-mul, tab-self}
use Rattle.encoder_linear.specs.Linear.{sum_of, column_of, weighed_row}
use Rattle.encoder_linear.proofs.Sums.{sum-ext}
use Rattle.encoder_linear.proofs.Pieces.{grid-ext, length-grid, get_or-grid}
use Rattle.encoder_attention.specs.Attention.{score_row, scores_of, attention_of}
use Rattle.encoder_softmax.specs.Softmax.{scaled}
use Rattle.encoder_attention.specs.inner.Fits.{KeysFit}
use Rattle.encoder_attention.specs.inner.Keys.{turned_keys, keys_of}
use Rattle.encoder_attention.proofs.Bands.{blank-back}

pub keys-back : (t dim : ℕ) (k : List Float) → length k ≡ t * dim → keys_of t dim (turned_keys t dim k) ≡ k
unfolding keys_of turned_keys
keys-back t dim k e =
    grid-ext t dim (λ j d. get_or (turned_keys t dim k) (d * t + j) nan) (λ j d. get_or k (j * dim + d) nan)
    (λ j d p q. get_or-grid dim t (λ d j. get_or k (j * dim + d) nan) d j q p)
    ∙ sym (tab-mul t dim (λ i. get_or k i nan))
    ∙ tab-self k (t * dim) nan e

-- place d of key j in the head at o
place : (t dim hd o : ℕ) (K : List Float) (j d : ℕ) → o + hd ≤ dim → j < t → d < hd
    → get_or (region K (o * t) (hd * t)) (d * t + (0 + j)) nan ≡ get_or (region (keys_of t dim K) (j * dim + o) hd) d nan
unfolding keys_of
place t dim hd o K j d h p q =
    let b = fit t q in
    get_or-region K (o * t) (hd * t) (d * t + (0 + j)) nan (omega arith)
    ∙ ap (λ i. get_or K i nan) (let e = add-mul o d t in omega arith)
    ∙ sym (get_or-grid t dim (λ j d. get_or K (d * t + j) nan) j (o + d) p (omega arith))
    ∙ ap (λ i. get_or (keys_of t dim K) i nan) (omega arith)
    ∙ sym (get_or-region (keys_of t dim K) (j * dim + o) hd d nan q)

pub turned-scores : (t dim hd o : ℕ) (sc : Float) (q K : List Float) → length q ≡ hd → o + hd ≤ dim
    → scaled t sc (weighed_row hd t t 0 q (region K (o * t) (hd * t))) ≡ score_row t dim hd o sc q (keys_of t dim K)
unfolding scaled weighed_row column_of score_row
turned-scores t dim hd o sc q K e h =
    let T = region K (o * t) (hd * t) in
    let W : ℕ → Float = λ j. sum_of hd (λ d. mul binary32 (get_or q d nan) (get_or T (d * t + (0 + j)) nan)) in
    tab-ext t (λ i. mul binary32 (get_or (tab t W) i nan) sc) _
    (λ j p. ap (λ v. mul binary32 v sc) (get_or-tab t j W nan p
    ∙ sum-ext hd (λ d. mul binary32 (get_or q d nan) (get_or T (d * t + (0 + j)) nan)) (λ d. mul binary32 (get_or q d nan) (get_or (region (keys_of t dim K) (j * dim + o) hd) d nan))
    (λ d g. ap (λ v. mul binary32 (get_or q d nan) v) (place t dim hd o K j d h p g))
    ∙ ap (λ n. sum_of n (λ d. mul binary32 (get_or q d nan) (get_or (region (keys_of t dim K) (j * dim + o) hd) d nan))) (sym e)))

pub length-turned : (t dim : ℕ) (k : List Float) → length (turned_keys t dim k) ≡ t * dim
unfolding turned_keys
length-turned t dim k = length-grid dim t (λ d j. get_or k (j * dim + d) nan) ∙ mul_comm dim t

-- once the keys are turned at kt, the attention reads the queries, keys and values that stood there
module _ (s u : List Float) (q k v kt row out t heads hd : ℕ) (f : KeysFit (length s) q k v kt row out t heads hd)
    (e : u ≡ put s kt (turned_keys t (heads * hd) (region s k (t * (heads * hd))))) where
  abbrev n : ℕ
  n = t * (heads * hd)

  abbrev T : List Float
  T = turned_keys t (heads * hd) (region s k n)

  pub same_at : (x : ℕ) → Apart x n kt n → region u x n ≡ region s x n
  same_at x a = ap (λ l. region l x n) e ∙ region-put s kt T x n (rw (length-turned t (heads * hd) (region s k n)) a)

  pub same_keys : keys_of t (heads * hd) (region u kt n) ≡ region s k n
  same_keys =
      let l = length-turned t (heads * hd) (region s k n) in
      ap (λ x. keys_of t (heads * hd) (region x kt n)) e
      ∙ ap (keys_of t (heads * hd)) (region-put-same s kt T n (sym l) (rw l f.turn.kt_in))
      ∙ keys-back t (heads * hd) (region s k n) (length-region s k n f.turn.k_in)

  -- they stand in both places
  pub stands : region u k n ≡ keys_of t (heads * hd) (region u kt n)
  stands = same_at k f.turn.apart ∙ sym same_keys

  pub same-scores : (sc : Float) → scores_of t heads hd sc (region u q n) (keys_of t (heads * hd) (region u kt n)) ≡ scores_of t heads hd sc (region s q n) (region s k n)
  same-scores sc = rw (same_at q f.qkt, same_keys)

  same-sums : (sc : Float) → attention_of t heads hd sc (region u q n) (keys_of t (heads * hd) (region u kt n)) (region u v n) ≡ attention_of t heads hd sc (region s q n) (region s k n) (region s v n)
  same-sums sc = rw (same_at q f.qkt, same_at v f.vkt, same_keys)

  -- what the loops leave, once the score row is cleared
  pub same_left : (sc : Float) (m w : List Float) → w ≡ blank zero32 row t m
      → blank zero32 row t m ≡ put (blank zero32 row t u) out (attention_of t heads hd sc (region u q n) (keys_of t (heads * hd) (region u kt n)) (region u v n))
      → w ≡ put (blank zero32 row t (put s kt T)) out (attention_of t heads hd sc (region s q n) (region s k n) (region s v n))
  same_left sc m w a b =
      a ∙ b ∙ ap (put (blank zero32 row t u) out) (same-sums sc)
      ∙ ap (λ x. put (blank zero32 row t x) out (attention_of t heads hd sc (region s q n) (region s k n) (region s v n))) e

-- and turned back, they stand again at k, where the sums of each head left something else
module _ (s u z : List Float) (q k v kt row out t heads hd : ℕ) (f : KeysFit (length s) q k v kt row out t heads hd)
    (aside : Apart out (t * (heads * hd)) k (t * (heads * hd)))
    (stood : region s k (t * (heads * hd)) ≡ keys_of t (heads * hd) (region s kt (t * (heads * hd))))
    (back : z ≡ put u k (turned_keys (heads * hd) t (region u kt (heads * hd * t)))) where
  pub turned-back : (l : List Float) → length l ≡ t * (heads * hd)
      → blank zero32 k (t * (heads * hd)) u ≡ put (blank zero32 k (t * (heads * hd)) s) out l → blank zero32 row t z ≡ put (blank zero32 row t s) out l
  unfolding turned_keys keys_of
  turned-back l e b =
      let m = t * (heads * hd) in
      let same : region u kt m ≡ region s kt m =
      blank-rest zero32 k m s u out l b kt m (apart-sym f.turn.apart) (rw e f.turned.kout) in
      let c : heads * hd * t ≡ m = mul_comm (heads * hd) t in
      let z' : z ≡ put u k (keys_of t (heads * hd) (region u kt m)) = back ∙ ap (λ i. put u k (keys_of t (heads * hd) (region u kt i))) c in
      let y : z ≡ put s out l =
      z' ∙ ap (λ r. put u k (keys_of t (heads * hd) r)) same ∙ ap (put u k) (sym stood) ∙ blank-back zero32 k m out s u l f.turn.k_in (rw e aside) b in
      ap (blank zero32 row t) y ∙ blank-put zero32 row t s out l (rw e f.turned.outrow)
