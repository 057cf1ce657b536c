-- Laws of attention: lengths, what one head's steps leave in the scratch, and a turn of the loops over heads and
-- tokens. Assumes nothing.
use mathlib.Core.Path.{◌≡◌, sym, ap, ◌∙◌}
use mathlib.Core.Bool.{Bool, ◌&&◌}
use mathlib.Core.List.{List}
use Prim.Native.Nat.{ℕ, ◌+◌, ◌*◌, ◌≤◌, ◌<◌}
use native.Mathlib.Nat.{add-mul, mul_comm, mul-le-mul_right}
use native.Mathlib.Omega.{arith}
use native.Mathlib.Numerals.{add-one}
use lib.ListN.{length}
use lib.Ieee.{Float}
use Rattle.buffers.specs.Rows.{rows}
use Rattle.buffers.specs.Region.{region, put}
use Rattle.number_floats.specs.Constants.{zero32}
use Rattle.buffers.specs.inner.Apart.{Apart}
use Rattle.buffers.proofs.Regions.{put-put, region-put, region-put-same, region-region, length-region, apart-sub}
use Rattle.buffers.proofs.Lists.{fit, length-tab, length-rows, put-rows}
use Rattle.buffers.specs.Each.{blank}
use Rattle.encoder_kernels.specs.Kernels.{all_finite}
use Rattle.encoder_attention.specs.Attention.{score_row, head_scores, head_sums, token_scores, token_sums, attention_of}
use Rattle.encoder_softmax.specs.Softmax.{scaled, softmax_of}
use Rattle.encoder_linear.specs.Linear.{weighed_row}
use Rattle.encoder_attention.specs.inner.Keys.{keys_of}
use Rattle.encoder_attention.proofs.Keys.{turned-scores}
use Rattle.encoder_attention.specs.inner.Fits.{AttendFits, HeadAt, TokenAt}
use Rattle.buffers.proofs.Steps.{blank-same, blank-put, blank-rest}
use Rattle.encoder_kernels.proofs.Finites.{all-finite-append}
use Rattle.encoder_linear.proofs.Sums.{length-weighed}
use Rattle.encoder_softmax.proofs.Lengths.{length-softmax}

pub length-score_row : (t dim hd o : ℕ) (scaling : Float) (q k : List Float) → length (score_row t dim hd o scaling q k) ≡ t
unfolding score_row
length-score_row t dim hd o scaling q k = simp length-tab

pub length-token_sums : (t heads hd : ℕ) (scaling : Float) (q k v : List Float) (i : ℕ) → length (token_sums t heads hd scaling q k v i) ≡ heads * hd
unfolding token_sums
length-token_sums t heads hd scaling q k v i =
    length-rows (λ h. head_sums t (heads * hd) hd scaling q k v i (h * hd)) hd
    (λ h. length-weighed t (heads * hd) hd (h * hd) (softmax_of t (head_scores t (heads * hd) hd scaling q k i (h * hd))) v) heads

pub length-attention : (t heads hd : ℕ) (scaling : Float) (q k v : List Float) → length (attention_of t heads hd scaling q k v) ≡ t * (heads * hd)
unfolding attention_of
length-attention t heads hd scaling q k v = length-rows (λ i. token_sums t heads hd scaling q k v i) (heads * hd) (λ i. length-token_sums t heads hd scaling q k v i) t

-- a head's rows of the turned keys are inside them
pub head_rows : (t heads hd h : ℕ) → h < heads → h * hd * t + hd * t ≤ t * (heads * hd)
head_rows t heads hd h b = rw (← add-mul (h * hd) hd t, mul_comm t (heads * hd)) (mul-le-mul_right t (fit hd b))

module _ (s : List Float) (q k v row out t heads hd : ℕ) (sc : Float) where
  abbrev dim : ℕ
  dim = heads * hd

  abbrev n : ℕ
  n = t * (heads * hd)

  abbrev qs : List Float
  qs = region s q n

  -- the keys, turned at k
  abbrev ks : List Float
  ks = keys_of t dim (region s k n)

  abbrev vs : List Float
  vs = region s v n

  -- a head's part of a row is inside the row, and the row inside the region
  pub inside : (i h : ℕ) → i < t → h < heads → i * dim + h * hd + hd ≤ n
  inside i h a b = let f = fit dim a in let f' = fit hd b in omega arith

  -- the scaled sums of a query over the turned keys are its scores
  pub row-scores : (i h : ℕ) → i < t → h < heads → q + n ≤ length s
      → scaled t sc (weighed_row hd t t 0 (region s (q + (i * dim + h * hd)) hd) (region s (k + h * hd * t) (hd * t))) ≡ head_scores t dim hd sc qs ks i (h * hd)
  row-scores i h a b q_in =
      let f = inside i h a b in
      let o = h * hd in
      let Q = region qs (i * dim + o) hd in
      let lq : length Q ≡ hd = length-region qs (i * dim + o) hd (rw (length-region s q n q_in) f) in
      ap (λ z. scaled t sc (weighed_row hd t t 0 z (region s (k + o * t) (hd * t)))) (sym (region-region s q n (i * dim + o) hd (omega arith)))
      ∙ ap (λ z. scaled t sc (weighed_row hd t t 0 Q z)) (sym (region-region s k n (o * t) (hd * t) (head_rows t heads hd h b)))
      ∙ turned-scores t dim hd o sc Q (region s k n) lq (fit hd b)

  -- the values stand at e of each of t rows of w
  pub head-run : (w e i h : ℕ) → HeadAt (length s) q k v row out t heads hd i h w e → (s₁ s₂ s₃ : List Float)
      → s₁ ≡ put s row (scaled t sc (weighed_row hd t t 0 (region s (q + (i * dim + h * hd)) hd) (region s (k + h * hd * t) (hd * t))))
      → s₂ ≡ put s₁ row (softmax_of t (region s₁ row t))
      → s₃ ≡ put s₂ (out + (i * dim + h * hd)) (weighed_row t w hd e (region s₂ row t) (region s₂ v (t * w)))
      → (region s₁ row t ≡ head_scores t dim hd sc qs ks i (h * hd))
      × (blank zero32 row t s₃ ≡ put (blank zero32 row t s) (out + (i * dim + h * hd)) (weighed_row t w hd e (softmax_of t (head_scores t dim hd sc qs ks i (h * hd))) (region s v (t * w))))
  head-run w e i h g s₁ s₂ s₃ e₁ e₂ e₃ =
      let f = inside i h g.token g.head in
      let o = h * hd in
      let S = head_scores t dim hd sc qs ks i o in
      let ls = length-score_row t dim hd o sc (region qs (i * dim + o) hd) ks in
      let lp = length-softmax t S in
      let W = weighed_row t w hd e (softmax_of t S) (region s v (t * w)) in
      let lw = length-weighed t w hd e (softmax_of t S) (region s v (t * w)) in
      let x = g.fits in
      let e₁' : s₁ ≡ put s row S = e₁ ∙ ap (put s row) (row-scores i h g.token g.head x.q_in) in
      let r₁ : region s₁ row t ≡ S = ap (λ l. region l row t) e₁' ∙ region-put-same s row S t (sym ls) (rw ls x.row_in) in
      let e₂' : s₂ ≡ put s row (softmax_of t S) = e₂ ∙ rw (r₁, e₁') (put-put s row S (softmax_of t S) (ls ∙ sym lp)) in
      let r₂ : region s₂ row t ≡ softmax_of t S = ap (λ l. region l row t) e₂' ∙ region-put-same s row (softmax_of t S) t (sym lp) (rw lp x.row_in) in
      let v₂ : region s₂ v (t * w) ≡ region s v (t * w) = ap (λ l. region l v (t * w)) e₂' ∙ region-put s row (softmax_of t S) v (t * w) (rw lp x.vrow) in
      let e₃' : s₃ ≡ put s₂ (out + (i * dim + o)) W = e₃ ∙ rw (r₂, v₂) in (
        r₁,
        rw (
          e₃',
          blank-put zero32 row t s₂ (out + (i * dim + o)) W (rw lw (apart-sub x.outrow (omega arith) (omega arith) (omega arith) (omega arith))),
          e₂',
          blank-same zero32 row t s (softmax_of t S) lp,
        ),
      )

  -- what a loop wrote so far at y, apart from a region, leaves the region as it was
  seen : (x y m : ℕ) (u ys : List Float) → length ys ≡ m → blank zero32 row t u ≡ put (blank zero32 row t s) y ys
      → Apart x n row t → Apart x n y m → region u x n ≡ region s x n
  seen x y m u ys l e a b = blank-rest zero32 row t s u y ys e x n a (rw l b)

  abbrev pub sums_at : ℕ → ℕ → List Float
  sums_at i h = head_sums t dim hd sc qs ks vs i (h * hd)

  abbrev pub scores_at : ℕ → ℕ → List Float
  scores_at i h = head_scores t dim hd sc qs ks i (h * hd)

  pub length-sums_at : (i h : ℕ) → length (sums_at i h) ≡ hd
  length-sums_at i h = length-weighed t dim hd (h * hd) (softmax_of t (scores_at i h)) vs

  record Seen (u : List Float) : Type 0 where
    q-same : region u q n ≡ qs
    k-same : region u k n ≡ region s k n
    v-same : region u v n ≡ vs

  -- the inputs are as they were once some of the sums at y are written
  all_seen : (y m : ℕ) (u ys : List Float) → length ys ≡ m → blank zero32 row t u ≡ put (blank zero32 row t s) y ys
      → AttendFits (length s) q k v n row out t heads hd → out ≤ y → y + m ≤ out + n → Seen u
  all_seen y m u ys l e w a b =
      record {
        q-same = seen q y m u ys l e w.qrow (apart-sub w.qout (omega arith) (omega arith) a b);
        k-same = seen k y m u ys l e w.krow (apart-sub w.kout (omega arith) (omega arith) a b);
        v-same = seen v y m u ys l e w.vrow (apart-sub w.vout (omega arith) (omega arith) a b);
      }

  pub all-finite-more : (c : ℕ) (f : ℕ → List Float) → all_finite (rows (c + 1) f) ≡ all_finite (rows c f) && all_finite (f c)
  unfolding rows
  all-finite-more c f = rw (add-one, all-finite-append)

  pub token-turn : (i h : ℕ) → HeadAt (length s) q k v row out t heads hd i h dim (h * hd) → (u u' : List Float) (ok here : Bool)
      → ok ≡ all_finite (rows h (scores_at i))
      → blank zero32 row t u ≡ put (blank zero32 row t s) (out + i * dim) (rows h (sums_at i))
      → here ≡ all_finite (head_scores t dim hd sc (region u q n) (keys_of t dim (region u k n)) i (h * hd))
      → blank zero32 row t u' ≡ put (blank zero32 row t u) (out + (i * dim + h * hd)) (head_sums t dim hd sc (region u q n) (keys_of t dim (region u k n)) (region u v n) i (h * hd))
      → (ok && here ≡ all_finite (rows (h + 1) (scores_at i)))
      × (blank zero32 row t u' ≡ put (blank zero32 row t s) (out + i * dim) (rows (h + 1) (sums_at i)))
  token-turn i h g u u' ok here a b c d =
      let f = inside i h g.token g.head in
      let l = length-rows (sums_at i) hd (length-sums_at i) h in
      let z = all_seen (out + i * dim) (h * hd) u (rows h (sums_at i)) l b g.fits (omega arith) (omega arith) in
      let p : out + (i * dim + h * hd) ≡ out + i * dim + h * hd = omega arith in (
        rw (all-finite-more h (scores_at i), a, c, z.q-same, z.k-same),
        rw (d, z.q-same, z.k-same, z.v-same, b, p) (put-rows (sums_at i) hd (length-sums_at i) (blank zero32 row t s) (out + i * dim) h),
      )

  abbrev pub token_at : ℕ → List Float
  token_at i = token_sums t heads hd sc qs ks vs i

  length-token_at : (i : ℕ) → length (token_at i) ≡ dim
  length-token_at i = length-token_sums t heads hd sc qs ks vs i

  pub attend-turn : (i : ℕ) → TokenAt (length s) q k v row out t heads hd i → (u u' : List Float) (ok here : Bool)
      → ok ≡ all_finite (rows i (λ j. token_scores t heads hd sc qs ks j))
      → blank zero32 row t u ≡ put (blank zero32 row t s) out (rows i token_at)
      → here ≡ all_finite (token_scores t heads hd sc (region u q n) (keys_of t dim (region u k n)) i)
      → blank zero32 row t u' ≡ put (blank zero32 row t u) (out + i * dim) (token_sums t heads hd sc (region u q n) (keys_of t dim (region u k n)) (region u v n) i)
      → (ok && here ≡ all_finite (rows (i + 1) (λ j. token_scores t heads hd sc qs ks j)))
      × (blank zero32 row t u' ≡ put (blank zero32 row t s) out (rows (i + 1) token_at))
  attend-turn i g u u' ok here a b c d =
      let f = fit dim g.token in
      let l = length-rows token_at dim length-token_at i in
      let z = all_seen out (i * dim) u (rows i token_at) l b g.fits (omega arith) (omega arith) in (
        rw (all-finite-more i (λ j. token_scores t heads hd sc qs ks j), a, c, z.q-same, z.k-same),
        rw (d, z.q-same, z.k-same, z.v-same, b) (put-rows token_at dim length-token_at (blank zero32 row t s) out i),
      )
