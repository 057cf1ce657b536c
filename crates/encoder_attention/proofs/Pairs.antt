-- Laws of two queries at once: two rows side by side, and the turns of the loop over a head's queries. Assumes nothing.
use mathlib.Core.Path.{◌≡◌, refl, sym, ap, ◌∙◌}
use mathlib.Core.Bool.{Bool, true, false, ◌&&◌}
use mathlib.Core.List.{List, ◌++◌}
use Prim.Native.Nat.{ℕ, ◌+◌, ◌*◌, ◌≤◌, ◌<◌}
use native.Mathlib.Nat.{suc-mul}
use native.Mathlib.Omega.{arith}
use native.Mathlib.Numerals.{add-one}
use lib.ListN.{length, length-append}
use lib.Ieee.{Float}
use Rattle.buffers.specs.Rows.{tab, rows}
use Rattle.buffers.specs.Region.{region, put, put_rows}
use Rattle.buffers.specs.Each.{blank}
use Rattle.buffers.specs.inner.Apart.{Apart, before}
use Rattle.buffers.proofs.Regions.{put-append, put-put, length-put, region-put, region-put-same, apart-sub, apart-sym}
use Rattle.buffers.proofs.Lists.{fit, length-tab}
use Rattle.buffers.proofs.Puts.{puts-step}
use Rattle.buffers.proofs.Steps.{blank-same, blank-put}
use Rattle.number_floats.specs.Constants.{zero32}
use Rattle.encoder_kernels.specs.Kernels.{all_finite}
use Rattle.encoder_kernels.proofs.Finites.{all-finite-append}
use Rattle.encoder_linear.specs.Linear.{weighed_row}
use Rattle.encoder_linear.specs.inner.Weighed.{weighed_pair}
use Rattle.encoder_linear.specs.inner.Fits.{WeighPairFits}
use Rattle.encoder_attention.specs.Attention.{head_scores}
use Rattle.encoder_softmax.specs.Softmax.{scaled, softmax_of}
use Rattle.encoder_attention.specs.inner.Keys.{keys_of}
use Rattle.encoder_attention.specs.inner.Fits.{QueriesAt, PairAt}
use Rattle.encoder_attention.proofs.Attends.{row-scores, head_rows, length-score_row, all-finite-more}
use Rattle.encoder_softmax.proofs.Lengths.{length-softmax}
use Rattle.encoder_attention.proofs.Bands.{puts_seen, blank-in}
use Rattle.encoder_attention.proofs.Values.{scored, summed, goes, length-summed}

and_assoc : (a b c : Bool) → (a && b) && c ≡ a && (b && c)
and_assoc true b c = refl
and_assoc false b c = refl

-- A and B in two rows of t
module _ (s : List Float) (row t : ℕ) (h : row + (t + t) ≤ length s) (A B : List Float) (la : length A ≡ t) (lb : length B ≡ t) where
  pub rows-joined : put (put s row A) (row + t) B ≡ put s row (A ++ B)
  rows-joined = put-append s row A B (row + t) (rw la refl)

  pub length_both : length (A ++ B) ≡ t + t
  length_both = length-append A B ∙ rw (la, lb) refl

  pub first-row : region (put (put s row A) (row + t) B) row t ≡ A
  first-row = region-put (put s row A) (row + t) B row t (before (omega arith)) ∙ region-put-same s row A t (sym la) (rw la (omega arith))

  pub second-row : region (put (put s row A) (row + t) B) (row + t) t ≡ B
  second-row = region-put-same (put s row A) (row + t) B t (sym lb) (rw (lb, length-put s row A) (omega arith))

  pub both-rows : region (put (put s row A) (row + t) B) row (t + t) ≡ A ++ B
  both-rows = ap (λ x. region x row (t + t)) rows-joined ∙ region-put-same s row (A ++ B) (t + t) (sym length_both) (rw length_both h)

-- F of each of two rows, one after another
pub rows-each : (t : ℕ) (F : List Float → List Float) → ((l : List Float) → length (F l) ≡ t) → (s u z : List Float) (row : ℕ)
    → u ≡ put s row (F (region s row t)) → z ≡ put u (row + t) (F (region u (row + t) t))
    → z ≡ put (put s row (F (region s row t))) (row + t) (F (region s (row + t) t))
rows-each t F lf s u z row eu ez =
    let A = F (region s row t) in
    let apart : Apart (row + t) t row (length A) = rw (lf (region s row t)) (apart-sym (before (omega arith))) in
    let r : region u (row + t) t ≡ region s (row + t) t = ap (λ x. region x (row + t) t) eu ∙ region-put s row A (row + t) t apart in
    ez ∙ rw (r, eu)

-- and of two that were written before
pub rows_then : (t : ℕ) (F : List Float → List Float) → ((l : List Float) → length (F l) ≡ t) → (s u z A B : List Float) (row : ℕ) → row + (t + t) ≤ length s → length A ≡ t → length B ≡ t
    → u ≡ put (put s row A) (row + t) B → z ≡ put (put u row (F (region u row t))) (row + t) (F (region u (row + t) t))
    → z ≡ put (put s row (F A)) (row + t) (F B)
rows_then t F lf s u z A B row h la lb eu ez =
    let P = put (put s row A) (row + t) B in
    let same : length (A ++ B) ≡ length (F A ++ F B) = length_both s row t h A B la lb ∙ sym (length_both s row t h (F A) (F B) (lf A) (lf B)) in
    let over : put (put P row (F A)) (row + t) (F B) ≡ put (put s row (F A)) (row + t) (F B) =
    put-append P row (F A) (F B) (row + t) (rw (lf A) refl)
    ∙ ap (λ x. put x row (F A ++ F B)) (rows-joined s row t h A B la lb)
    ∙ put-put s row (A ++ B) (F A ++ F B) same
    ∙ sym (rows-joined s row t h (F A) (F B) (lf A) (lf B)) in
    ez ∙ rw (eu, first-row s row t h A B la lb, second-row s row t h A B la lb) over

-- a head's queries, whose values lie together at v
module _ (s : List Float) (q k v row out t heads hd h : ℕ) (sc : Float) where
  abbrev dim : ℕ
  dim = heads * hd

  abbrev n : ℕ
  n = t * (heads * hd)

  -- the scores, the sums and where these go
  abbrev S : ℕ → List Float
  S = scored s q k v row out t heads hd h sc

  abbrev W : ℕ → List Float
  W = summed s q k v row out t heads hd h sc

  abbrev at : ℕ → ℕ
  at = goes s q k v row out t heads hd h sc

  length_w : (i : ℕ) → length (W i) ≡ hd
  length_w = length-summed s q k v row out t heads hd h sc

  -- the scores as the scratch `u` has them, and the sums
  abbrev Su : List Float → ℕ → List Float
  Su u i = head_scores t dim hd sc (region u q n) (keys_of t dim (region u k n)) i (h * hd)

  abbrev Wu : List Float → ℕ → List Float
  Wu u i = weighed_row t hd hd 0 (softmax_of t (Su u i)) (region u v (t * hd))

  module _ (w : QueriesAt (length s) q k v row out t heads hd h) where
    -- a query's sums lie apart from both rows
    beside : (i : ℕ) → i < t → (X : List Float) → length X ≡ hd → Apart (at i) (length X) row (t + t)
    beside i l X e =
        let f = fit dim l in
        let f' = fit hd w.head in
        rw e (apart-sub w.outrows (omega arith) (omega arith) (omega arith) (omega arith))

    pub pair-run : (i : ℕ) → i + 1 < t → (s₁ s₂ s₃ : List Float)
        → s₁ ≡ put (put s row (scaled t sc (weighed_row hd t t 0 (region s (q + (i * dim + h * hd)) hd) (region s (k + h * hd * t) (hd * t)))))
        (row + t) (scaled t sc (weighed_row hd t t 0 (region s (q + ((i + 1) * dim + h * hd)) hd) (region s (k + h * hd * t) (hd * t))))
        → s₂ ≡ put (put s₁ row (softmax_of t (region s₁ row t))) (row + t) (softmax_of t (region s₁ (row + t) t))
        → s₃ ≡ weighed_pair s₂ row (row + t) v (at i) (at (i + 1)) t hd hd 0
        → (region s₁ row (t + t) ≡ S i ++ S (i + 1))
        × (blank zero32 row (t + t) s₃ ≡ put (put (blank zero32 row (t + t) s) (at i) (W i)) (at (i + 1)) (W (i + 1)))
    unfolding weighed_pair
    pair-run i l s₁ s₂ s₃ e₁ e₂ e₃ =
        let l' : i < t = omega arith in
        let A = S i in
        let B = S (i + 1) in
        let la : length A ≡ t = length-score_row t dim hd (h * hd) sc _ _ in
        let lb : length B ≡ t = length-score_row t dim hd (h * hd) sc _ _ in
        let P = softmax_of t A in
        let R = softmax_of t B in
        let lp = length-softmax t A in
        let lr = length-softmax t B in
        let room = w.rows_in in
        let z₁ : s₁ ≡ put (put s row A) (row + t) B = e₁ ∙ rw (row-scores s q k v row out t heads hd sc i h l' w.head w.fits.q_in, row-scores s q k v row out t heads hd sc (i + 1) h l w.head w.fits.q_in) in
        let z₂ = rows_then t (softmax_of t) (length-softmax t) s s₁ s₂ A B row room la lb z₁ e₂ in
        let one : region s₂ row t ≡ P = ap (λ x. region x row t) z₂ ∙ first-row s row t room P R lp lr in
        let two : region s₂ (row + t) t ≡ R = ap (λ x. region x (row + t) t) z₂ ∙ second-row s row t room P R lp lr in
        let j : s₂ ≡ put s row (P ++ R) = z₂ ∙ rows-joined s row t room P R lp lr in
        let lj = length_both s row t room P R lp lr in
        let vs : region s₂ v (t * hd) ≡ region s v (t * hd) = ap (λ x. region x v (t * hd)) j ∙ region-put s row (P ++ R) v (t * hd) (rw lj w.vrows) in
        let z₃ : s₃ ≡ put (put s₂ (at i) (W i)) (at (i + 1)) (W (i + 1)) = e₃ ∙ rw (one, two, vs) in (
          ap (λ x. region x row (t + t)) z₁ ∙ both-rows s row t room A B la lb,
          ap (blank zero32 row (t + t)) z₃
              ∙ blank-put zero32 row (t + t) (put s₂ (at i) (W i)) (at (i + 1)) (W (i + 1)) (beside (i + 1) l (W (i + 1)) (length_w (i + 1)))
              ∙ ap (λ x. put x (at (i + 1)) (W (i + 1))) (blank-put zero32 row (t + t) s₂ (at i) (W i) (beside i l' (W i) (length_w i))
              ∙ ap (λ x. put x (at i) (W i)) (ap (blank zero32 row (t + t)) j ∙ blank-same zero32 row (t + t) s (P ++ R) lj)),
        )

    -- what the scratch has once the sums of i queries are written
    module _ (i : ℕ) (b : i ≤ t) (u : List Float) (e : blank zero32 row (t + t) u ≡ put_rows (blank zero32 row (t + t) s) i at W) where
      seen : (x m : ℕ) → Apart x m row (t + t) → Apart x m out n → region u x m ≡ region s x m
      seen x m ar ao =
          puts_seen zero32 row (t + t) s u at W i x m e ar
          (λ j p. let p' : j < t = omega arith in
          let f = fit dim p' in
          let f' = fit hd w.head in rw (length_w j) (apart-sub ao (omega arith) (omega arith) (omega arith) (omega arith)))

      score-seen : (j : ℕ) → Su u j ≡ S j
      score-seen j = rw (seen q n w.qrows w.fits.qout, seen k n w.krows w.fits.kout)

      sum-seen : (j : ℕ) → Wu u j ≡ W j
      sum-seen j = rw (score-seen j, seen v (t * hd) w.vrows w.fits.vout)

      -- two queries more
      pub pair_turn : i + 1 < t → (u' : List Float) (ok here : Bool) → ok ≡ all_finite (rows i S)
          → here ≡ all_finite (Su u i ++ Su u (i + 1))
          → blank zero32 row (t + t) u' ≡ put (put (blank zero32 row (t + t) u) (at i) (Wu u i)) (at (i + 1)) (Wu u (i + 1))
          → (ok && here ≡ all_finite (rows (i + 2) S)) × (blank zero32 row (t + t) u' ≡ put_rows (blank zero32 row (t + t) s) (i + 2) at W)
      unfolding rows
      pair_turn l u' ok here a c d =
          let two : (i + 1) + 1 ≡ i + 2 = omega arith in
          let B = blank zero32 row (t + t) s in (
            rw (a, c, score-seen i, score-seen (i + 1), all-finite-append (S i) (S (i + 1)))
                (sym (ap (λ m. all_finite (rows m S)) (sym two) ∙ all-finite-more s q k v row out t heads hd sc (i + 1) S
                ∙ ap (λ x. x && all_finite (S (i + 1))) (all-finite-more s q k v row out t heads hd sc i S) ∙ and_assoc (all_finite (rows i S)) (all_finite (S i)) (all_finite (S (i + 1))))),
            d ∙ rw (sum-seen i, sum-seen (i + 1), e)
                (ap (λ x. put x (at (i + 1)) (W (i + 1))) (puts-step B at W i) ∙ puts-step B at W (i + 1) ∙ ap (λ m. put_rows B m at W) two),
          )

      -- one query more, which left only the first row blank
      pub query-turn : i < t → (u' : List Float) (ok here : Bool) → ok ≡ all_finite (rows i S)
          → here ≡ all_finite (Su u i)
          → blank zero32 row t u' ≡ put (blank zero32 row t u) (at i) (Wu u i)
          → (ok && here ≡ all_finite (rows (i + 1) S)) × (blank zero32 row (t + t) u' ≡ put_rows (blank zero32 row (t + t) s) (i + 1) at W)
      query-turn l u' ok here a c d =
          let T = tab t (λ _. zero32) in
          let lt = length-tab t (λ _. zero32) in
          let wider : (x : List Float) → blank zero32 row (t + t) (blank zero32 row t x) ≡ blank zero32 row (t + t) x =
          λ x. blank-in zero32 row (t + t) row x T (omega arith) (rw lt (omega arith)) in
          let d' : blank zero32 row t u' ≡ put (blank zero32 row t u) (at i) (W i) = d ∙ rw (sum-seen i) in (
            rw (all-finite-more s q k v row out t heads hd sc i S, a, c, score-seen i),
            sym (wider u')
                ∙ ap (blank zero32 row (t + t)) d'
                ∙ blank-put zero32 row (t + t) (blank zero32 row t u) (at i) (W i) (beside i l (W i) (length_w i))
                ∙ ap (λ x. put x (at i) (W i)) (wider u ∙ e)
                ∙ puts-step (blank zero32 row (t + t) s) at W i,
          )

-- what the sums of two queries ask: over the keys, and over the values
module _ {len q k v row out t heads hd i h : ℕ} (g : PairAt len q k v row out t heads hd i h) where
  pub scores-fit : WeighPairFits len (q + (i * (heads * hd) + h * hd)) (q + ((i + 1) * (heads * hd) + h * hd)) (k + h * hd * t) row (row + t) hd t t 0
  scores-fit =
      let w = g.queries in
      let x = w.fits in
      let l : i < t = omega (arith, g.token) in
      let f = fit (heads * hd) l in
      let f₁ = fit (heads * hd) g.token in
      let f' = fit hd w.head in
      let r = head_rows t heads hd h w.head in
      let room = w.rows_in in
      let q_in = x.q_in in
      let k_in = x.k_in in
      record {
        first = record {
          v_in = omega arith;
          row_in = omega arith;
          out_in = omega arith;
          o_in = omega arith;
          rowout = apart-sub w.qrows (omega arith) (omega arith) (omega arith) (omega arith);
          vout = apart-sub w.krows (omega arith) (omega arith) (omega arith) (omega arith);
        };
        second = record {
          v_in = omega arith;
          row_in = omega arith;
          out_in = omega arith;
          o_in = omega arith;
          rowout = apart-sub w.qrows (omega arith) (omega arith) (omega arith) (omega arith);
          vout = apart-sub w.krows (omega arith) (omega arith) (omega arith) (omega arith);
        };
        ay = apart-sub w.qrows (omega arith) (omega arith) (omega arith) (omega arith);
        bx = apart-sub w.qrows (omega arith) (omega arith) (omega arith) (omega arith);
        xy = before (omega arith);
      }

  pub sums-fit : WeighPairFits len row (row + t) v (out + (i * (heads * hd) + h * hd)) (out + ((i + 1) * (heads * hd) + h * hd)) t hd hd 0
  sums-fit =
      let w = g.queries in
      let x = w.fits in
      let l : i < t = omega (arith, g.token) in
      let f = fit (heads * hd) l in
      let f₁ = fit (heads * hd) g.token in
      let f' = fit hd w.head in
      let next : (i + 1) * (heads * hd) ≡ i * (heads * hd) + heads * hd = rw (add-one i, suc-mul i (heads * hd)) refl in
      let room = w.rows_in in
      let v_in = x.v_in in
      let out_in = x.out_in in
      let rowsout = apart-sym w.outrows in
      record {
        first = record {
          v_in = v_in;
          row_in = omega arith;
          out_in = omega arith;
          o_in = omega arith;
          rowout = apart-sub rowsout (omega arith) (omega arith) (omega arith) (omega arith);
          vout = apart-sub x.vout (omega arith) (omega arith) (omega arith) (omega arith);
        };
        second = record {
          v_in = v_in;
          row_in = omega arith;
          out_in = omega arith;
          o_in = omega arith;
          rowout = apart-sub rowsout (omega arith) (omega arith) (omega arith) (omega arith);
          vout = apart-sub x.vout (omega arith) (omega arith) (omega arith) (omega arith);
        };
        ay = apart-sub rowsout (omega arith) (omega arith) (omega arith) (omega arith);
        bx = apart-sub rowsout (omega arith) (omega arith) (omega arith) (omega arith);
        xy = before (omega arith);
      }
