-- Turns of the loops over a matrix of scores, its weights and their sums. Assumes nothing.
use mathlib.Core.Path.{◌≡◌, refl, sym, ap, ◌∙◌}
use mathlib.Core.List.{List}
use Prim.Native.Nat.{ℕ, ◌+◌, ◌*◌, ◌≤◌, ◌<◌}
use native.Mathlib.Nat.{add_assoc, mul-le-mul_right}
use native.Mathlib.Omega.{arith}
use lib.ListN.{length, get_or, set}
use lib.Ieee.{Float, nan, binary32, mul}
use Rattle.number_floats.specs.Constants.{zero32}
use Rattle.buffers.specs.Rows.{tab, rows}
use Rattle.buffers.specs.Region.{region, put, put_rows}
use Rattle.buffers.specs.Each.{blank}
use Rattle.buffers.specs.inner.Apart.{Apart}
use Rattle.buffers.proofs.Regions.{apart-sub, apart-sym, length-put, put-put, region-put, region-put-same, get_or-put, get_or-region}
use Rattle.buffers.proofs.Lists.{fit, length-tab, length-rows, tab-step, rows_step}
use Rattle.buffers.proofs.Puts.{puts-step, puts-ext}
use Rattle.buffers.proofs.Steps.{blank-same}
use Rattle.encoder_linear.specs.Linear.{sum_of}
use Rattle.encoder_linear.proofs.Sums.{sum-ext}
use Rattle.encoder_softmax.specs.Softmax.{max_of, total_of, inverse_of, exp_less, scaled, softened, softmax_of}
use Rattle.encoder_softmax.proofs.Lengths.{length-softened, length-softmax}
use Rattle.encoder_attention.proofs.Bands.{puts-put, puts-region}
use Rattle.encoder_plain.specs.Plain.{floats, off, score, scores, soft_rows, sums}
use Rattle.encoder_plain.specs.inner.Fits.{ScoresFit, SumsFit, PlainFits}

-- what is read beside what was written
read : (s u ys : List Float) (x n at i : ℕ) → u ≡ put s at ys → Apart x n at (length ys) → i < n → get_or u (x + i) nan ≡ get_or (region s x n) i nan
read s u ys x n at i e a l =
    ap (λ (v : List Float). get_or v (x + i) nan) e
    ∙ get_or-put s at ys (x + i) nan (apart-sub a (omega arith) (omega arith) (omega arith) (omega arith))
    ∙ sym (get_or-region s x n i nan l)

pub length-scores : (t heads hd : ℕ) (sc : Float) (q k : List Float) (h : ℕ) → length (scores t heads hd sc q k h) ≡ t * t
unfolding scores
length-scores t heads hd sc q k h = length-rows (λ qi. tab t (score t heads hd sc q k h qi)) t (λ qi. length-tab t (score t heads hd sc q k h qi)) t

pub length-soft : (t : ℕ) (m : List Float) → length (soft_rows t m) ≡ t * t
unfolding soft_rows
length-soft t m = length-rows (λ qi. softmax_of t (region m (qi * t) t)) t (λ qi. length-softmax t (region m (qi * t) t)) t

pub length-sums : (t heads hd : ℕ) (v p : List Float) (h qi : ℕ) → length (sums t heads hd v p h qi) ≡ hd
unfolding sums
length-sums t heads hd v p h qi = length-tab hd _

-- the place of a head's part lies inside
pub inside : (t heads hd i h : ℕ) → h < heads → i < t → off t heads hd i h + hd ≤ floats t heads hd
inside t heads hd i h l m = let f = fit hd l in let g = fit (heads * hd) m in omega arith

-- ---- a row of scores, key after key

module _ (s : List Float) (q k m t heads hd h qi : ℕ) (sc : Float) (f : ScoresFit (length s) q k m t heads hd) (l : h < heads) (l' : qi < t) where
  abbrev qs : List Float
  qs = region s q (floats t heads hd)

  abbrev ks : List Float
  ks = region s k (floats t heads hd)

  -- the row in hand lies apart from queries and keys
  row_apart : (x ki : ℕ) → ki ≤ t → Apart x (floats t heads hd) m (t * t) → Apart x (floats t heads hd) (m + qi * t) ki
  row_apart x ki b a = let g = fit t l' in apart-sub a (omega arith) (omega arith) (omega arith) (omega arith)

  pub score-step : (u : List Float) (ki : ℕ) (v : Float) → ki < t → u ≡ put s (m + qi * t) (tab ki (score t heads hd sc qs ks h qi))
      → v ≡ mul binary32 (sum_of hd (λ d. mul binary32 (get_or u (q + off t heads hd qi h + d) nan) (get_or u (k + off t heads hd ki h + d) nan))) sc
      → set u (m + qi * t + ki) v ≡ put s (m + qi * t) (tab (ki + 1) (score t heads hd sc qs ks h qi))
  score-step u ki v b e g =
      let n = floats t heads hd in
      let w = length-tab ki (score t heads hd sc qs ks h qi) in
      let iq = inside t heads hd qi h l l' in
      let ik = inside t heads hd ki h l b in
      let Q : (d : ℕ) → d < hd → get_or u (q + off t heads hd qi h + d) nan ≡ get_or qs (off t heads hd qi h + d) nan =
      λ d r. ap (λ (j : ℕ). get_or u j nan) (add_assoc q (off t heads hd qi h) d) ∙ read s u _ q n (m + qi * t) (off t heads hd qi h + d) e (rw w (row_apart q ki (omega arith) f.qscores)) (omega (arith, iq, r)) in
      let K : (d : ℕ) → d < hd → get_or u (k + off t heads hd ki h + d) nan ≡ get_or ks (off t heads hd ki h + d) nan =
      λ d r. ap (λ (j : ℕ). get_or u j nan) (add_assoc k (off t heads hd ki h) d) ∙ read s u _ k n (m + qi * t) (off t heads hd ki h + d) e (rw w (row_apart k ki (omega arith) f.kscores)) (omega (arith, ik, r)) in
      tab-step s u (m + qi * t) ki (score t heads hd sc qs ks h qi) v e
      (g ∙ ap (λ (z : Float). mul binary32 z sc) (sum-ext hd _ _ (λ d r. rw (Q d r, K d r) refl)))

-- row after row
module _ (s : List Float) (q k m t heads hd h : ℕ) (sc : Float) (f : ScoresFit (length s) q k m t heads hd) where
  abbrev row : ℕ → List Float
  row qi = tab t (score t heads hd sc (region s q (floats t heads hd)) (region s k (floats t heads hd)) h qi)

  pub scores-step : (u u' : List Float) (qi : ℕ) → qi < t → u ≡ put s m (rows qi row)
      → u' ≡ put u (m + qi * t) (tab t (score t heads hd sc (region u q (floats t heads hd)) (region u k (floats t heads hd)) h qi))
      → u' ≡ put s m (rows (qi + 1) row)
  scores-step u u' qi l e g =
      let n = floats t heads hd in
      let w = length-rows row t (λ i. length-tab t _) qi in
      let b : qi * t ≤ t * t = mul-le-mul_right t (omega arith) in
      let seen : (x : ℕ) → Apart x n m (t * t) → region u x n ≡ region s x n =
      λ x a. ap (λ (v : List Float). region v x n) e ∙ region-put s m (rows qi row) x n (rw w (apart-sub a (omega arith) (omega arith) (omega arith) (omega arith))) in
      rows_step row t (λ i. length-tab t _) s u u' m (m + qi * t) qi e refl (g ∙ rw (seen q f.qscores, seen k f.kscores) refl)

-- ---- a row of sums, place after place

module _ (s : List Float) (v m out t heads hd h qi : ℕ) (f : SumsFit (length s) v m out t heads hd) (l : h < heads) (l' : qi < t) where
  abbrev vs : List Float
  vs = region s v (floats t heads hd)

  abbrev ps : List Float
  ps = region s m (t * t)

  abbrev summed : ℕ → Float
  summed d = sum_of t (λ vi. mul binary32 (get_or ps (qi * t + vi) nan) (get_or vs (off t heads hd vi h + d) nan))

  pub sum_step : (u : List Float) (d : ℕ) (x : Float) → d < hd → u ≡ put s (out + off t heads hd qi h) (tab d summed)
      → x ≡ sum_of t (λ vi. mul binary32 (get_or u (m + qi * t + vi) nan) (get_or u (v + (vi * (heads * hd) + (h * hd + d))) nan))
      → set u (out + off t heads hd qi h + d) x ≡ put s (out + off t heads hd qi h) (tab (d + 1) summed)
  sum_step u d x b e g =
      let n = floats t heads hd in
      let at = out + off t heads hd qi h in
      let w = length-tab d summed in
      let io = inside t heads hd qi h l l' in
      let apart : (y c : ℕ) → Apart y c out n → Apart y c at d = λ y c a. apart-sub a (omega arith) (omega arith) (omega (arith, io)) (omega (arith, io)) in
      let r = fit t l' in
      let P : (vi : ℕ) → vi < t → get_or u (m + qi * t + vi) nan ≡ get_or ps (qi * t + vi) nan =
      λ vi z. ap (λ (j : ℕ). get_or u j nan) (add_assoc m (qi * t) vi) ∙ read s u _ m (t * t) at (qi * t + vi) e (rw w (apart m (t * t) f.scoresout)) (omega (arith, r, z)) in
      let W : (vi : ℕ) → vi < t → get_or u (v + (vi * (heads * hd) + (h * hd + d))) nan ≡ get_or vs (off t heads hd vi h + d) nan =
      λ vi z. let iv = inside t heads hd vi h l z in
      read s u _ v n at (vi * (heads * hd) + (h * hd + d)) e (rw w (apart v n f.vout)) (omega (arith, iv)) ∙ ap (λ (j : ℕ). get_or vs j nan) (sym (add_assoc (vi * (heads * hd)) (h * hd) d)) in
      tab-step s u at d summed x e (g ∙ sum-ext t _ _ (λ vi z. rw (P vi z, W vi z) refl))

-- query after query
module _ (s : List Float) (v m out t heads hd h : ℕ) (f : SumsFit (length s) v m out t heads hd) (l : h < heads) where
  abbrev at : ℕ → ℕ
  at qi = out + off t heads hd qi h

  abbrev sum : ℕ → List Float
  sum = sums t heads hd (region s v (floats t heads hd)) (region s m (t * t)) h

  pub sums-step : (u u' : List Float) (qi : ℕ) → qi < t → u ≡ put_rows s qi at sum
      → u' ≡ put u (at qi) (sums t heads hd (region u v (floats t heads hd)) (region u m (t * t)) h qi) → u' ≡ put_rows s (qi + 1) at sum
  sums-step u u' qi b e g =
      let n = floats t heads hd in
      let seen : (x c : ℕ) → Apart x c out n → region u x c ≡ region s x c =
      λ x c a. ap (λ (y : List Float). region y x c) e
      ∙ puts-region s at sum qi x c (λ i z. let io = inside t heads hd i h l (omega arith) in rw (length-sums t heads hd (region s v n) (region s m (t * t)) h i) (apart-sub a (omega arith) (omega arith) (omega (arith, io)) (omega (arith, io)))) in
      g ∙ rw (seen v n f.vout, seen m (t * t) f.scoresout, e) (puts-step s at sum qi)

-- ---- one head: matrix, weights, sums

module _ (s : List Float) (q k v m out t heads hd h : ℕ) (sc : Float) (f : PlainFits (length s) q k v m out t heads hd) (l : h < heads) where
  abbrev n : ℕ
  n = floats t heads hd

  abbrev M : List Float
  M = scores t heads hd sc (region s q n) (region s k n) h

  pub head-run : (u₁ u₂ u₃ : List Float) → u₁ ≡ put s m M → u₂ ≡ put u₁ m (soft_rows t (region u₁ m (t * t)))
      → u₃ ≡ put_rows u₂ t (λ qi. out + off t heads hd qi h) (sums t heads hd (region u₂ v n) (region u₂ m (t * t)) h)
      → (region u₁ m (t * t) ≡ M)
      × (blank zero32 m (t * t) u₃ ≡ put_rows (blank zero32 m (t * t) s) t (λ qi. out + off t heads hd qi h) (sums t heads hd (region s v n) (soft_rows t M) h))
  head-run u₁ u₂ u₃ e₁ e₂ e₃ =
      let a : ℕ → ℕ = λ qi. out + off t heads hd qi h in
      let T = tab (t * t) (λ _. zero32) in
      let lt = length-tab (t * t) (λ _. zero32) in
      let lm = length-scores t heads hd sc (region s q n) (region s k n) h in
      let P = soft_rows t M in
      let lp = length-soft t M in
      let r₁ : region u₁ m (t * t) ≡ M = ap (λ (x : List Float). region x m (t * t)) e₁ ∙ region-put-same s m M (t * t) (sym lm) (rw lm f.keys.scores_in) in
      let k₁ : length u₁ ≡ length s = ap length e₁ ∙ length-put s m M in
      let e₂' : u₂ ≡ put u₁ m P = e₂ ∙ ap (λ (x : List Float). put u₁ m (soft_rows t x)) r₁ in
      let r₂ : region u₂ m (t * t) ≡ P = ap (λ (x : List Float). region x m (t * t)) e₂' ∙ region-put-same u₁ m P (t * t) (sym lp) (rw (lp, k₁) f.keys.scores_in) in
      let v₂ : region u₂ v n ≡ region s v n =
      ap (λ (x : List Float). region x v n) e₂' ∙ region-put u₁ m P v n (rw lp f.vscores) ∙ ap (λ (x : List Float). region x v n) e₁ ∙ region-put s m M v n (rw lm f.vscores) in
      let b₂ : blank zero32 m (t * t) u₂ ≡ blank zero32 m (t * t) s =
      ap (blank zero32 m (t * t)) e₂' ∙ blank-same zero32 m (t * t) u₁ P lp ∙ ap (blank zero32 m (t * t)) e₁ ∙ blank-same zero32 m (t * t) s M lm in
      let F = sums t heads hd (region u₂ v n) (region u₂ m (t * t)) h in
      let outs : (i : ℕ) → i < t → Apart (a i) (length (F i)) m (length T) =
      λ i z. let io = inside t heads hd i h l z in
      rw (length-sums t heads hd (region u₂ v n) (region u₂ m (t * t)) h i, lt) (apart-sub (apart-sym f.values.scoresout) (omega arith) (omega (arith, io)) (omega arith) (omega arith)) in (
        r₁,
        ap (blank zero32 m (t * t)) e₃ ∙ sym (puts-put u₂ a F t m T outs) ∙ ap (λ (x : List Float). put_rows x t a F) b₂
            ∙ puts-ext (blank zero32 m (t * t) s) a a F (sums t heads hd (region s v n) P h) t (λ _ _. refl) (λ i _. rw (v₂, r₂) refl),
      )

-- ---- the softmax of a row

pub softmax-run : (s s₁ s₂ : List Float) (row n : ℕ) (m sum f : Float) → row + n ≤ length s → m ≡ max_of (region s row n)
    → s₁ ≡ put s row (exp_less n m (region s row n)) → sum ≡ sum_of n (λ i. get_or (exp_less n m (region s row n)) i nan) → f ≡ inverse_of sum
    → s₂ ≡ put s₁ row (scaled n f (region s₁ row n)) → s₂ ≡ put s row (softmax_of n (region s row n))
unfolding softened softmax_of
softmax-run s s₁ s₂ row n m sum f h em e₁ es ef e₂ =
    let l = region s row n in
    let X = softened n l in
    let w = length-softened n l in
    let x : exp_less n m l ≡ X = ap (λ (z : Float). exp_less n z l) em in
    let g : s₁ ≡ put s row X = e₁ ∙ ap (put s row) x in
    let r : region s₁ row n ≡ X = ap (λ (u : List Float). region u row n) g ∙ region-put-same s row X n (sym w) (rw w h) in
    let t : sum ≡ total_of X = es ∙ ap (λ (y : List Float). sum_of n (λ i. get_or y i nan)) x ∙ ap (λ (k : ℕ). sum_of k (λ i. get_or X i nan)) (sym w) in
    e₂ ∙ rw (ef, t, r, g) (put-put s row X (softmax_of n l) (w ∙ sym (length-softmax n l)))

-- the bounds of a head's part of a token, and of a row of the matrix
pub bounds : (t heads hd h qi : ℕ) → h < heads → qi < t → (h * hd + hd ≤ heads * hd) × (qi * (heads * hd) + heads * hd ≤ t * (heads * hd)) × (qi * t + t ≤ t * t)
bounds t heads hd h qi l l' = (fit hd l, fit (heads * hd) l', fit t l')
