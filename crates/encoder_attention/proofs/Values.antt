-- Laws of a head's values that lie together, and the turn of the loop over heads. Assumes nothing.
use mathlib.Core.Path.{◌≡◌, refl, sym, ap, ◌∙◌}
use mathlib.Core.Bool.{Bool, ◌&&◌}
use mathlib.Core.List.{List}
use Prim.Native.Nat.{ℕ, ◌+◌, ◌*◌, ◌≤◌, ◌<◌}
use native.Mathlib.Nat.{mul-le-mul_right}
use native.Mathlib.Omega.{arith}
use native.Mathlib.Numerals.{add-one}
use lib.ListN.{length, get_or}
use lib.Ieee.{Float, nan, binary32, mul}
use Rattle.buffers.specs.Rows.{tab, rows}
use Rattle.buffers.specs.Region.{region, put, put_rows}
use Rattle.buffers.specs.Each.{blank}
use Rattle.buffers.specs.inner.Apart.{Apart, before}
use Rattle.buffers.proofs.Regions.{region-put, region-put-same, apart-sub, apart-sym}
use Rattle.buffers.proofs.Lists.{fit, length-tab, length-rows, tab-ext}
use Rattle.buffers.proofs.Puts.{puts-ext}
use Rattle.number_floats.specs.Constants.{zero32}
use Rattle.encoder_kernels.specs.Kernels.{all_finite}
use Rattle.encoder_linear.specs.Linear.{sum_of, column_of, weighed_row}
use Rattle.encoder_linear.proofs.Sums.{sum-ext, length-weighed}
use Rattle.encoder_linear.proofs.Pieces.{length-grid, get_or-grid}
use Rattle.encoder_attention.specs.Attention.{head_scores}
use Rattle.encoder_softmax.specs.Softmax.{softmax_of}
use Rattle.encoder_attention.specs.inner.Keys.{keys_of}
use Rattle.encoder_attention.specs.inner.Values.{head_values}
use Rattle.encoder_attention.specs.inner.Fits.{QueriesAt, HeadsFit}
use Rattle.encoder_attention.proofs.Attends.{sums_at, scores_at, length-sums_at, all-finite-more}
use Rattle.encoder_attention.proofs.Bands.{puts-put, puts_seen, puts-more, blank-in}

pub length-values : (t dim hd o : ℕ) (v : List Float) → length (head_values t dim hd o v) ≡ t * hd
unfolding head_values
length-values t dim hd o v = length-grid t hd (λ j d. get_or v (j * dim + (o + d)) nan)

-- the sums over them are those over the head's places of all values
pub together : (t dim hd o : ℕ) (p v : List Float) → weighed_row t hd hd 0 p (head_values t dim hd o v) ≡ weighed_row t dim hd o p v
unfolding weighed_row column_of head_values
together t dim hd o p v =
    let H = head_values t dim hd o v in
    tab-ext hd (λ d. sum_of t (λ j. mul binary32 (get_or p j nan) (get_or H (j * hd + (0 + d)) nan))) _
    (λ d l. sum-ext t (λ j. mul binary32 (get_or p j nan) (get_or H (j * hd + (0 + d)) nan)) (λ j. mul binary32 (get_or p j nan) (get_or v (j * dim + (o + d)) nan))
    (λ j m. ap (mul binary32 (get_or p j nan))
    (ap (λ i. get_or H i nan) (omega arith) ∙ get_or-grid t hd (λ j d. get_or v (j * dim + (o + d)) nan) j d m l)))

-- the queries of head h, whose values lie together at v
module _ (s : List Float) (q k v row out t heads hd h : ℕ) (sc : Float) where
  -- the scores of query i, its sums, and where they go
  abbrev pub scored : ℕ → List Float
  scored i = head_scores t (heads * hd) hd sc (region s q (t * (heads * hd))) (keys_of t (heads * hd) (region s k (t * (heads * hd)))) i (h * hd)

  abbrev pub summed : ℕ → List Float
  summed i = weighed_row t hd hd 0 (softmax_of t (scored i)) (region s v (t * hd))

  abbrev pub goes : ℕ → ℕ
  goes i = out + (i * (heads * hd) + h * hd)

  pub length-summed : (i : ℕ) → length (summed i) ≡ hd
  length-summed i = length-weighed t hd hd 0 (softmax_of t (scored i)) (region s v (t * hd))

-- what the queries of a head ask, with its values at g and two rows behind them
pub queries-fit : {len q k v g out t heads hd : ℕ} (h : ℕ) → HeadsFit len q k v g out t heads hd → h < heads → QueriesAt len q k g (g + t * hd) out t heads hd h
queries-fit {len} {q} {k} {v} {g} {out} {t} {heads} {hd} h w l =
    let r = w.spare in
    let i = w.g_in in
    record {
      fits = record {
        q_in = w.q_in;
        k_in = w.k_in;
        v_in = omega arith;
        row_in = omega arith;
        out_in = w.out_in;
        dim_in = w.dim_in;
        qrow = apart-sub w.qg (omega arith) (omega arith) (omega arith) (omega arith);
        krow = apart-sub w.kg (omega arith) (omega arith) (omega arith) (omega arith);
        vrow = before (omega arith);
        outrow = apart-sub w.outg (omega arith) (omega arith) (omega arith) (omega arith);
        qout = w.qout;
        kout = w.kout;
        vout = apart-sub (apart-sym w.outg) (omega arith) (omega arith) (omega arith) (omega arith);
      };
      head = l;
      rows_in = omega arith;
      qrows = apart-sub w.qg (omega arith) (omega arith) (omega arith) (omega arith);
      krows = apart-sub w.kg (omega arith) (omega arith) (omega arith) (omega arith);
      vrows = before (omega arith);
      outrows = apart-sub w.outg (omega arith) (omega arith) (omega arith) (omega arith);
    }

module _ (s : List Float) (q k v g out t heads hd : ℕ) (sc : Float) (w : HeadsFit (length s) q k v g out t heads hd) where
  abbrev dim : ℕ
  dim = heads * hd

  abbrev n : ℕ
  n = t * (heads * hd)

  abbrev row : ℕ
  row = g + t * hd

  abbrev S : ℕ → ℕ → List Float
  S = scores_at s q k v g out t heads hd sc

  abbrev F : ℕ → ℕ → List Float
  F = sums_at s q k v g out t heads hd sc

  -- the bands that are written lie inside the sums
  band : (h i x : ℕ) → h ≤ heads → i < t → Apart x n out n → Apart x n (out + i * dim) (length (rows h (F i)))
  band h i x l m a =
      let b : h * hd ≤ dim = mul-le-mul_right hd l in
      let f = fit dim m in
      rw (length-rows (F i) hd (length-sums_at s q k v g out t heads hd sc i) h) (apart-sub a (omega arith) (omega arith) (omega arith) (omega arith))

  pub heads-turn : (h : ℕ) → h < heads → (u u₁ u₂ : List Float) (ok here : Bool)
      → ok ≡ all_finite (rows h (λ j. rows t (λ i. S i j)))
      → blank zero32 g n u ≡ put_rows (blank zero32 g n s) t (λ i. out + i * dim) (λ i. rows h (F i))
      → length u ≡ length s
      → u₁ ≡ put u g (head_values t dim hd (h * hd) (region u v n))
      → here ≡ all_finite (rows t (λ i. head_scores t dim hd sc (region u₁ q n) (keys_of t dim (region u₁ k n)) i (h * hd)))
      → blank zero32 row (t + t) u₂ ≡ put_rows (blank zero32 row (t + t) u₁) t (λ i. out + (i * dim + h * hd))
      (λ i. weighed_row t hd hd 0 (softmax_of t (head_scores t dim hd sc (region u₁ q n) (keys_of t dim (region u₁ k n)) i (h * hd))) (region u₁ g (t * hd)))
      → (ok && here ≡ all_finite (rows (h + 1) (λ j. rows t (λ i. S i j))))
      × (blank zero32 g n u₂ ≡ put_rows (blank zero32 g n s) t (λ i. out + i * dim) (λ i. rows (h + 1) (F i)))
  heads-turn h l u u₁ u₂ ok here a b c d e z =
      let o = h * hd in
      let H = head_values t dim hd o (region u v n) in
      let lh = length-values t dim hd o (region u v n) in
      let room = w.spare in
      let seen : (x : ℕ) → Apart x n g n → Apart x n out n → region u x n ≡ region s x n =
      λ x ag ao. puts_seen zero32 g n s u (λ i. out + i * dim) (λ i. rows h (F i)) t x n b ag (λ i m. band h i x (omega arith) m ao) in
      let seen₁ : (x : ℕ) → Apart x n g n → Apart x n out n → region u₁ x n ≡ region s x n =
      λ x ag ao. ap (λ y. region y x n) d ∙ region-put u g H x n (rw lh (apart-sub ag (omega arith) (omega arith) (omega arith) (omega arith))) ∙ seen x ag ao in
      let q₁ = seen₁ q w.qg w.qout in
      let k₁ = seen₁ k w.kg w.kout in
      let v₁ : region u₁ g (t * hd) ≡ head_values t dim hd o (region s v n) =
      ap (λ y. region y g (t * hd)) d
      ∙ region-put-same u g H (t * hd) (sym lh) (rw (lh, c) (omega (arith, w.g_in)))
      ∙ ap (head_values t dim hd o) (seen v w.vg w.vout) in
      let G : ℕ → List Float = λ i. weighed_row t hd hd 0 (softmax_of t (head_scores t dim hd sc (region u₁ q n) (keys_of t dim (region u₁ k n)) i o)) (region u₁ g (t * hd)) in
      let same : (i : ℕ) → G i ≡ F i h =
      λ i. rw (q₁, k₁, v₁) (together t dim hd o (softmax_of t (S i h)) (region s v n)) in
      let at : ℕ → ℕ = λ i. out + (i * dim + o) in
      let T = tab (t + t) (λ _. zero32) in
      let lt = length-tab (t + t) (λ _. zero32) in
      let N = tab n (λ _. zero32) in
      let ln = length-tab n (λ _. zero32) in
      let rowed : (x : List Float) → blank zero32 g n (blank zero32 row (t + t) x) ≡ blank zero32 g n x =
      λ x. blank-in zero32 g n row x T (omega arith) (rw lt (omega arith)) in
      let gathered : blank zero32 g n u₁ ≡ blank zero32 g n u = ap (blank zero32 g n) d ∙ blank-in zero32 g n g u H (omega arith) (rw lh (omega arith)) in
      let f' = fit hd l in
      let outs : (i : ℕ) → i < t → Apart (at i) (length (G i)) g (length N) =
      λ i m. let f = fit dim m in
      rw (length-weighed t hd hd 0 (softmax_of t (head_scores t dim hd sc (region u₁ q n) (keys_of t dim (region u₁ k n)) i o)) (region u₁ g (t * hd)), ln)
      (apart-sub w.outg (omega arith) (omega arith) (omega arith) (omega arith)) in (
        rw (all-finite-more s q k v g out t heads hd sc h (λ j. rows t (λ i. S i j)), a, e, q₁, k₁),
        sym (rowed u₂)
            ∙ ap (blank zero32 g n) z
            ∙ sym (puts-put (blank zero32 row (t + t) u₁) at G t g N outs)
            ∙ ap (λ x. put_rows x t at G) (rowed u₁ ∙ gathered ∙ b)
            ∙ puts-ext _ at at G (λ i. F i h) t (λ _ _. refl) (λ i _. same i)
            ∙ puts-more F hd (length-sums_at s q k v g out t heads hd sc) (blank zero32 g n s) out dim h t f'
            ∙ ap (λ j. put_rows (blank zero32 g n s) t (λ i. out + i * dim) (λ i. rows j (F i))) (sym (add-one h)),
      )
