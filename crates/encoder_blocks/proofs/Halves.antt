-- Each half of a block, from what its steps say. Assumes nothing.
use mathlib.Core.Bool.{Bool, true, false, ◌&&◌, cond}
use mathlib.Core.Path.{◌≡◌, sym, ap, ◌∙◌}
use mathlib.Core.List.{List}
use Prim.Native.Nat.{ℕ, ◌+◌, ◌*◌, ◌/◌, ◌%◌, ◌≤◌}
use Prim.Native.String.{String}
use native.Mathlib.Omega.{arith}
use borrow.Author.Tests.{eqb-true}
use lib.Dec.{eqb}
use lib.ListN.{length}
use lib.Ieee.{Float}
use Rattle.number_floats.specs.Constants.{zero32}
use Rattle.buffers.specs.Rows.{tab}
use Rattle.buffers.specs.Region.{region, put}
use Rattle.buffers.specs.Each.{blank}
use Rattle.buffers.specs.inner.Apart.{before, after}
use Rattle.buffers.proofs.Regions.{length-put, length-region, region-put, region-put-same}
use Rattle.buffers.proofs.Rooms.{and_parts}
use Rattle.buffers.proofs.Steps.{blank-region}
use Rattle.encoder_settings.specs.declared.Tables.{Tables}
use Rattle.encoder_settings.specs.declared.Tables.TheVariants.{Full, Axes}
use Rattle.encoder_settings.specs.declared.Attention.{Attention}
use Rattle.encoder_settings.specs.declared.Attention.TheVariants.{RowWise, Plain}
use Rattle.encoder_settings.specs.Weights.{part}
use Rattle.encoder_settings.proofs.Weights.{place_in, floats_in, stands}
use Rattle.encoder_linear.proofs.Sums.{length-linear}
use Rattle.encoder_elements.specs.Element.{added, gated, rounded}
use Rattle.encoder_elements.proofs.Lengths.{length-added, length-gated, length-rounded}
use Rattle.encoder_kernels.specs.Kernels.{all_finite}
use Rattle.encoder_rotation.specs.inner.Fits.{PlacesFit, RotateFits, AxesFits}
use Rattle.encoder_kernels.proofs.Lengths.{length-norm}
use Rattle.encoder_rotation.proofs.Rotated.{length-rotate}
use Rattle.encoder_attention.specs.Attention.{scores_of, attention_of}
use Rattle.encoder_attention.specs.inner.Fits.{KeysFit}
use Rattle.encoder_attention.specs.inner.Keys.{turned_keys}
use Rattle.encoder_attention.specs.inner.Room.{attend_fits}
use Rattle.encoder_attention.proofs.Attends.{length-attention}
use Rattle.encoder_attention.proofs.Keys.{length-turned}
use Rattle.encoder_attention.proofs.Rooms.{attend-fits}
use Rattle.encoder_plain.specs.Plain.{floats, all_scores, plain_of}
use Rattle.encoder_plain.specs.inner.Fits.{PlainFits}
use Rattle.encoder_plain.specs.inner.Room.{plain_fits}
use Rattle.encoder_plain.proofs.Same as Same
use Rattle.encoder_plain.proofs.Same.{plain-is}
use Rattle.encoder_plain.proofs.Rooms.{plain_fits_lem}
use Rattle.encoder_steps.specs.Run.{stages_finite, answer}
use Rattle.encoder_steps.specs.inner.Step.{LinearAt, Wrote}
use Rattle.encoder_steps.proofs.Writes.{LinearTried, NormTried, RotateTried, AxesTried, AddTried, GateTried, RoundTried, got, long, left, linear-wrote, norm-wrote, rotate-wrote, axes-wrote, add-wrote, gate-wrote, round-wrote}
use Rattle.encoder_blocks.specs.declared.Sizes.{Sizes}
use Rattle.encoder_blocks.specs.Block.{n_of, m_of, parts_of, normed, square_of, inner_of, outer_of, rotated, mixed, scored, attn_run, feed_run}
use Rattle.encoder_blocks.specs.Tables.{cos_by, sin_by}
use Rattle.encoder_blocks.specs.inner.Live.{h_at}
use Rattle.encoder_blocks.specs.inner.Fits.{AttendAt, BlockFits, RotationFits, ScoreRow, Attended}

-- ---- the lengths of the stages

module _ (z : Sizes) where
  length-normed : (name : String) (w h : List Float) → length (normed z name w h) ≡ n_of z
  unfolding normed
  length-normed name w h = length-norm z.tokens z.hidden (part (parts_of z) name w) h

  length-square : (name : String) (w x : List Float) → length (square_of z name w x) ≡ n_of z
  unfolding square_of
  length-square name w x = length-linear z.tokens z.hidden z.hidden (part (parts_of z) name w) x

  length-inner : (name : String) (w x : List Float) → length (inner_of z name w x) ≡ m_of z
  unfolding inner_of
  length-inner name w x = length-linear z.tokens z.hidden z.inter (part (parts_of z) name w) x

  length-outer : (name : String) (w x : List Float) → length (outer_of z name w x) ≡ n_of z
  unfolding outer_of
  length-outer name w x = length-linear z.tokens z.inter z.hidden (part (parts_of z) name w) x

  -- the halves of the heads
  halves-whole : z.heads * z.head_dim ≡ z.hidden → z.head_dim % 4 ≡ 0 → z.heads * (z.head_dim / 2 + z.head_dim / 2) ≡ z.hidden
  halves-whole w e = let h : z.head_dim / 2 + z.head_dim / 2 ≡ z.head_dim = omega arith in ap (λ (k : ℕ). z.heads * k) h ∙ w

  length-rotated : z.heads * (z.head_dim / 2 + z.head_dim / 2) ≡ z.hidden → (cos sin x : List Float) → length (rotated z cos sin x) ≡ n_of z
  unfolding rotated
  length-rotated e cos sin x = length-rotate z.tokens z.heads (z.head_dim / 2) z.grid_w z.side cos sin x ∙ ap (λ (k : ℕ). z.tokens * k) e

  length-mixed : z.heads * z.head_dim ≡ z.hidden → (q k v : List Float) → length (mixed z q k v) ≡ n_of z
  unfolding mixed
  length-mixed e q k v = length-attention z.tokens z.heads z.head_dim z.scaling q k v ∙ ap (λ (k : ℕ). z.tokens * k) e

-- ---- each step by the name of its weights

module _ (z : Sizes) (w : List Float) {s t : List Float} {ok r : Bool} where
  normed-wrote : (name : String) (at : ℕ) → place_in (parts_of z) name ≡ at → floats_in (parts_of z) name ≡ z.hidden → at + z.hidden ≤ length w
      → z.hidden ≤ 2048 → n_of z + n_of z ≤ length s → NormTried (region w at z.hidden) 0 (n_of z) z.tokens z.hidden s t ok r → Wrote s t (n_of z) (normed z name w (h_at z s)) ok r
  unfolding normed
  normed-wrote name at e f h small k T =
      rw (stands (parts_of z) name w at z.hidden e f) at
      (norm-wrote (region w at z.hidden) 0 (n_of z) z.tokens z.hidden
      (record { small = small; xin = omega arith; yin = k; win = length-region w at z.hidden h; apart = before (omega arith) }) T)

  square-wrote : (name : String) (x y at : ℕ) → place_in (parts_of z) name ≡ at → floats_in (parts_of z) name ≡ z.hidden * z.hidden
      → LinearAt (length s) (length w) x y z.tokens z.hidden z.hidden at → LinearTried w x y z.tokens z.hidden z.hidden at s t ok r
      → Wrote s t y (square_of z name w (region s x (n_of z))) ok r
  unfolding square_of
  square-wrote name x y at e f g T = rw (stands (parts_of z) name w at (z.hidden * z.hidden) e f) at (linear-wrote w x y z.tokens z.hidden z.hidden at g T)

  inner-wrote : (name : String) (x y at : ℕ) → place_in (parts_of z) name ≡ at → floats_in (parts_of z) name ≡ z.inter * z.hidden
      → LinearAt (length s) (length w) x y z.tokens z.hidden z.inter at → LinearTried w x y z.tokens z.hidden z.inter at s t ok r
      → Wrote s t y (inner_of z name w (region s x (n_of z))) ok r
  unfolding inner_of
  inner-wrote name x y at e f g T = rw (stands (parts_of z) name w at (z.inter * z.hidden) e f) at (linear-wrote w x y z.tokens z.hidden z.inter at g T)

  outer-wrote : (name : String) (x y at : ℕ) → place_in (parts_of z) name ≡ at → floats_in (parts_of z) name ≡ z.hidden * z.inter
      → LinearAt (length s) (length w) x y z.tokens z.inter z.hidden at → LinearTried w x y z.tokens z.inter z.hidden at s t ok r
      → Wrote s t y (outer_of z name w (region s x (m_of z))) ok r
  unfolding outer_of
  outer-wrote name x y at e f g T = rw (stands (parts_of z) name w at (z.hidden * z.inter) e f) at (linear-wrote w x y z.tokens z.inter z.hidden at g T)

-- ---- the rotation

module _ (z : Sizes) where
  places-at : {len : ℕ} {lent : Tables} (x : ℕ) → RotationFits z len lent → x + n_of z ≤ len
      → PlacesFit len x z.tokens z.heads (z.head_dim / 2) z.grid_w z.side
  places-at x k x_in =
      let half = z.head_dim / 2 in
      let e = halves-whole z k.whole k.fourth in
      let n : z.tokens * (z.heads * (half + half)) ≡ n_of z = ap (λ (k : ℕ). z.tokens * k) e in
      record {
        narrow = omega (arith, k.narrow);
        tables = k.tables;
        dimin = omega (arith, k.dim_in, e);
        xin = omega (arith, x_in, n);
        some = k.some;
        wide = k.wide;
        high = k.high;
      }

  -- by full tables
  rotate-at : {len lenc lenn : ℕ} (x : ℕ) {lent : Tables} → (let full = z.side * z.side * z.head_dim in eqb lenc full && eqb lenn full ≡ true) → RotationFits z len lent → x + n_of z ≤ len
      → RotateFits len lenc lenn x z.tokens z.heads (z.head_dim / 2) z.grid_w z.side
  rotate-at {lenc = lenc} {lenn = lenn} x l k x_in =
      let half = z.head_dim / 2 in
      let h : half + half ≡ z.head_dim = omega (arith, k.fourth) in
      let full = z.side * z.side * z.head_dim in
      let t : full ≡ z.side * z.side * (half + half) = ap (λ (k : ℕ). z.side * z.side * k) (sym h) in
      let b = and_parts (eqb lenc full) (eqb lenn full) l in
      record { places = places-at x k x_in; cin = eqb-true lenc full b.0 ∙ t; sin' = eqb-true lenn full b.1 ∙ t }

  -- by tables of rows and of columns
  quarter : z.head_dim / 2 / 2 ≡ z.head_dim / 4
  quarter = omega arith

  axes-at : {len lenc lenn lend lenm : ℕ} (x : ℕ) {lent : Tables}
      → (let n = z.side * (z.head_dim / 4) in (eqb lenc n && eqb lenn n) && (eqb lend n && eqb lenm n) ≡ true) → RotationFits z len lent → x + n_of z ≤ len
      → AxesFits len lenc lenn lend lenm x z.tokens z.heads (z.head_dim / 2) z.grid_w z.side
  axes-at {lenc = lenc} {lenn = lenn} {lend = lend} {lenm = lenm} x l k x_in =
      let n = z.side * (z.head_dim / 4) in
      let t : n ≡ z.side * (z.head_dim / 2 / 2) = ap (λ (k : ℕ). z.side * k) (sym quarter) in
      let b = and_parts (eqb lenc n && eqb lenn n) (eqb lend n && eqb lenm n) l in
      let r = and_parts (eqb lenc n) (eqb lenn n) b.0 in
      let c = and_parts (eqb lend n) (eqb lenm n) b.1 in
      record {
        places = places-at x k x_in;
        even = omega (arith, k.fourth);
        rows-cos = eqb-true lenc n r.0 ∙ t;
        rows-sin = eqb-true lenn n r.1 ∙ t;
        columns-cos = eqb-true lend n c.0 ∙ t;
        columns-sin = eqb-true lenm n c.1 ∙ t;
      }

  -- what is said of the call by either
  abbrev pub Turned : Tables → ℕ → List Float → List Float → Bool → Bool → Type 0
  Turned (Full cos sin) x s t ok r = RotateTried cos.now sin.now x z.tokens z.heads (z.head_dim / 2) z.grid_w z.side s t ok r
  Turned (Axes row_cos row_sin column_cos column_sin) x s t ok r =
      AxesTried row_cos.now row_sin.now column_cos.now column_sin.now x z.tokens z.heads (z.head_dim / 2) z.grid_w z.side s t ok r

  pub turned : (lent : Tables) {s t : List Float} {ok r : Bool} (x : ℕ) → RotationFits z (length s) lent → x + n_of z ≤ length s → Turned lent x s t ok r
      → Wrote s t x (rotated z (cos_by z lent) (sin_by z lent) (region s x (n_of z))) ok r
  unfolding rotated
  turned (Full cos sin) x k x_in T =
      rw (halves-whole z k.whole k.fourth) at (rotate-wrote cos.now sin.now x z.tokens z.heads (z.head_dim / 2) z.grid_w z.side (rotate-at x k.lengths k x_in) T)
  turned (Axes row_cos row_sin column_cos column_sin) x k x_in T =
      rw (← quarter) (rw (halves-whole z k.whole k.fourth) at (axes-wrote row_cos.now row_sin.now column_cos.now column_sin.now x z.tokens z.heads (z.head_dim / 2) z.grid_w z.side (axes-at x k.lengths k x_in) T))

-- ---- the attention

-- what is said of the call: s before it, t behind it
abbrev Attend : Sizes → ℕ → List Float → List Float → Bool → Type 0
Attend z row s t r =
    let n = n_of z in
    let d = z.heads * z.head_dim in
    let N = z.tokens * d in
    let fits = attend_fits (length s) (2 * n) (3 * n) (4 * n) n row (5 * n) z.tokens z.heads z.head_dim in
    (r ≡ (fits && all_finite (scores_of z.tokens z.heads z.head_dim z.scaling (region s (2 * n) N) (region s (3 * n) N))))
    × (t ≡ cond fits (put (blank zero32 row z.tokens (put s n (turned_keys z.tokens d (region s (3 * n) N)))) (5 * n)
    (attention_of z.tokens z.heads z.head_dim z.scaling (region s (2 * n) N) (region s (3 * n) N) (region s (4 * n) N))) s)

attend-at : (z : Sizes) {len row : ℕ} → AttendAt z len → 7 * n_of z + 2 * m_of z ≤ row → row + z.tokens ≤ len
    → KeysFit len (2 * n_of z) (3 * n_of z) (4 * n_of z) (n_of z) row (5 * n_of z) z.tokens z.heads z.head_dim
attend-at z f b i =
    let g = f.scratch in
    let e : z.tokens * (z.heads * z.head_dim) ≡ n_of z = ap (λ (k : ℕ). z.tokens * k) f.whole in
    record {
      turned = record {
        q_in = omega arith;
        k_in = omega arith;
        v_in = omega arith;
        row_in = omega arith;
        out_in = omega arith;
        dim_in = omega (arith, f.dim_in, f.whole);
        qrow = before (omega arith);
        krow = before (omega arith);
        vrow = before (omega arith);
        outrow = before (omega arith);
        qout = before (omega arith);
        kout = before (omega arith);
        vout = before (omega arith);
      };
      turn = record { k_in = omega arith; kt_in = omega arith; apart = after (omega arith) };
      qkt = after (omega arith);
      vkt = after (omega arith);
    }

-- row-wise
pub row-wise : (z : Sizes) (s : List Float) (row : ℕ) {t : List Float} {r : Bool} → AttendAt z (length s) → ScoreRow RowWise z (length s) row → Attend z row s t r → Attended z s t r
unfolding scored mixed
row-wise z s row {t} f sc T =
    let n = n_of z in
    let g = f.scratch in
    let behind = sc.behind in
    let i : row + z.tokens ≤ length s = sc.inside in
    let fits = attend-fits (attend-at z f behind i) in
    let q = region s (2 * n) n in
    let k = region s (3 * n) n in
    let v = region s (4 * n) n in
    let a = mixed z q k v in
    let kt = turned_keys z.tokens z.hidden k in
    let b = blank zero32 row z.tokens (put s n kt) in
    let e : t ≡ put b (5 * n) a = rw (fits, f.whole) at T.1 in
    let l = length-mixed z f.whole q k v in
    let lb : length b ≡ length s = length-put (put s n kt) row (tab z.tokens (λ _. zero32)) ∙ length-put s n kt in
    record {
      finite-is = rw (fits, f.whole) at T.0;
      sums = ap (λ u. region u (5 * n) n) e ∙ region-put-same b (5 * n) a n (sym l) (rw (l, lb) (omega arith));
      h-is =
          ap (λ u. region u 0 n) e ∙ region-put b (5 * n) a 0 n (rw l (before (omega arith))) ∙ blank-region zero32 row z.tokens (put s n kt) 0 n (before (omega arith))
          ∙ region-put s n kt 0 n (rw (length-turned z.tokens z.hidden k) (before (omega arith)));
      same = ap length e ∙ length-put b (5 * n) a ∙ lb;
    }

-- and plain: what is said of the call, and that it leaves the same
abbrev PlainSaid : Sizes → ℕ → List Float → List Float → Bool → Type 0
PlainSaid z row s t r =
    let n = n_of z in
    let N = floats z.tokens z.heads z.head_dim in
    let fits = plain_fits (length s) (2 * n) (3 * n) (4 * n) row (5 * n) z.tokens z.heads z.head_dim in
    (r ≡ (fits && all_finite (all_scores z.tokens z.heads z.head_dim z.scaling (region s (2 * n) N) (region s (3 * n) N))))
    × (t ≡ cond fits (put (blank zero32 row (z.tokens * z.tokens) s) (5 * n)
    (plain_of z.tokens z.heads z.head_dim z.scaling (region s (2 * n) N) (region s (3 * n) N) (region s (4 * n) N))) s)

plain_at : (z : Sizes) {len row : ℕ} → AttendAt z len → 7 * n_of z + 2 * m_of z ≤ row → row + z.tokens * z.tokens ≤ len
    → PlainFits len (2 * n_of z) (3 * n_of z) (4 * n_of z) row (5 * n_of z) z.tokens z.heads z.head_dim
plain_at z f b i =
    let g = f.scratch in
    let e : z.tokens * (z.heads * z.head_dim) ≡ n_of z = ap (λ (k : ℕ). z.tokens * k) f.whole in
    record {
      keys = record {
        q_in = omega arith;
        k_in = omega arith;
        scores_in = i;
        dim_in = omega (arith, f.dim_in, f.whole);
        qscores = before (omega arith);
        kscores = before (omega arith);
      };
      values = record {
        v_in = omega arith;
        out_in = omega arith;
        scores_in = i;
        dim_in = omega (arith, f.dim_in, f.whole);
        vout = before (omega arith);
        scoresout = after (omega arith);
      };
      vscores = before (omega arith);
      qout = before (omega arith);
      kout = before (omega arith);
    }

pub plain-wise : (z : Sizes) (s : List Float) (row : ℕ) {t : List Float} {r : Bool} → AttendAt z (length s) → ScoreRow Plain z (length s) row → PlainSaid z row s t r → Attended z s t r
unfolding scored mixed
plain-wise z s row {t} f sc T =
    let n = n_of z in
    let g = f.scratch in
    let behind = sc.behind in
    let i : row + z.tokens * z.tokens ≤ length s = sc.inside in
    let fits = plain_fits_lem (plain_at z f behind i) in
    let w : floats z.tokens z.heads z.head_dim ≡ n = ap (λ (k : ℕ). z.tokens * k) f.whole in
    let q = region s (2 * n) n in
    let k = region s (3 * n) n in
    let v = region s (4 * n) n in
    let lq : length q ≡ floats z.tokens z.heads z.head_dim = length-region s (2 * n) n (omega arith) ∙ sym w in
    let a = mixed z q k v in
    let b = blank zero32 row (z.tokens * z.tokens) s in
    let same-sums : plain_of z.tokens z.heads z.head_dim z.scaling q k v ≡ a = plain-is z.tokens z.heads z.head_dim z.scaling q k v lq in
    let x : t ≡ put b (5 * n) (plain_of z.tokens z.heads z.head_dim z.scaling q k v) = rw (fits, f.whole) at T.1 in
    let e : t ≡ put b (5 * n) a = x ∙ ap (put b (5 * n)) same-sums in
    let y : _ ≡ all_finite (all_scores z.tokens z.heads z.head_dim z.scaling q k) = rw (fits, f.whole) at T.0 in
    let l = length-mixed z f.whole q k v in
    let lb : length b ≡ length s = length-put s row (tab (z.tokens * z.tokens) (λ _. zero32)) in
    record {
      finite-is = y ∙ Same.finite-is z.tokens z.heads z.head_dim z.scaling q k v lq;
      sums = ap (λ u. region u (5 * n) n) e ∙ region-put-same b (5 * n) a n (sym l) (rw (l, lb) (omega arith));
      h-is = ap (λ u. region u 0 n) e ∙ region-put b (5 * n) a 0 n (rw l (before (omega arith))) ∙ blank-region zero32 row (z.tokens * z.tokens) s 0 n (before (omega arith));
      same = ap length e ∙ length-put b (5 * n) a ∙ lb;
    }

-- ---- the halves: s₁, s₂, .. are what the steps leave, one after another

module _ (z : Sizes) (w s : List Float) (f : BlockFits z (length s) (length w)) where
  abbrev d : ℕ
  d = z.hidden

  abbrev n : ℕ
  n = n_of z

  abbrev m : ℕ
  m = m_of z

  -- by any full tables
  pub attn-half : (cos sin : List Float) → z.head_dim % 4 ≡ 0
      → (s₁ s₂ s₃ s₄ s₅ s₆ s₇ s₈ s₉ : List Float) (r₁ r₂ r₃ r₄ r₅ r₆ r₇ i r₈ r₉ : Bool)
      → NormTried (region w 0 d) 0 n z.tokens d s s₁ true r₁
      → LinearTried w n (2 * n) z.tokens d d d s₁ s₂ r₁ r₂
      → LinearTried w n (3 * n) z.tokens d d (d + d * d) s₂ s₃ r₂ r₃
      → LinearTried w n (4 * n) z.tokens d d (d + d * d + d * d) s₃ s₄ r₃ r₄
      → Wrote s₄ s₅ (2 * n) (rotated z cos sin (region s₄ (2 * n) n)) r₄ r₅
      → Wrote s₅ s₆ (3 * n) (rotated z cos sin (region s₅ (3 * n) n)) r₅ r₆
      → Attended z s₆ s₇ r₇
      → i ≡ all_finite (region s₇ (5 * n) n)
      → LinearTried w (5 * n) (6 * n) z.tokens d d (d + d * d + d * d + d * d) s₇ s₈ ((r₆ && r₇) && i) r₈
      → AddTried 0 (6 * n) n s₈ s₉ r₈ r₉
      → answer r₉ (h_at z s₉) ≡ attn_run z w cos sin (h_at z s)
  unfolding stages_finite attn_run
  attn-half cos sin ro s₁ s₂ s₃ s₄ s₅ s₆ s₇ s₈ s₉ r₁ r₂ r₃ r₄ r₅ r₆ r₇ i r₈ r₉ t₁ t₂ t₃ t₄ w₅ w₆ w₇ e t₈ t₉ =
      let g = f.scratch in
      let b = f.weights in
      let half = halves-whole z f.whole ro in
      let w₁ = normed-wrote z w "attention_norm" 0 (omega arith) (omega arith) (omega arith) f.small (omega arith) t₁ in
      let l₁ = length-normed z "attention_norm" w (h_at z s) in
      let k₁ : length s₁ ≡ length s = long w₁ n l₁ in
      let w₂ = square-wrote z w "q" n (2 * n) d (omega arith) (omega arith) (record { x_in = omega arith; y_in = omega arith; w_in = omega arith; apart = before (omega arith) }) t₂ in
      let l₂ = length-square z "q" w (region s₁ n n) in
      let k₂ : length s₂ ≡ length s = long w₂ n l₂ ∙ k₁ in
      let w₃ = square-wrote z w "k" n (3 * n) (d + d * d) (omega arith) (omega arith) (record { x_in = omega arith; y_in = omega arith; w_in = omega arith; apart = before (omega arith) }) t₃ in
      let l₃ = length-square z "k" w (region s₂ n n) in
      let k₃ : length s₃ ≡ length s = long w₃ n l₃ ∙ k₂ in
      let w₄ = square-wrote z w "v" n (4 * n) (d + d * d + d * d) (omega arith) (omega arith) (record { x_in = omega arith; y_in = omega arith; w_in = omega arith; apart = before (omega arith) }) t₄ in
      let l₄ = length-square z "v" w (region s₃ n n) in
      let k₄ : length s₄ ≡ length s = long w₄ n l₄ ∙ k₃ in
      let l₅ = length-rotated z half cos sin (region s₄ (2 * n) n) in
      let k₅ : length s₅ ≡ length s = long w₅ n l₅ ∙ k₄ in
      let l₆ = length-rotated z half cos sin (region s₅ (3 * n) n) in
      let k₆ : length s₆ ≡ length s = long w₆ n l₆ ∙ k₅ in
      let k₇ : length s₇ ≡ length s = w₇.same ∙ k₆ in
      let w₈ = square-wrote z w "o" (5 * n) (6 * n) (d + d * d + d * d + d * d) (omega arith) (omega arith) (record { x_in = omega arith; y_in = omega arith; w_in = omega arith; apart = before (omega arith) }) t₈ in
      let l₈ = length-square z "o" w (region s₇ (5 * n) n) in
      let k₈ : length s₈ ≡ length s = long w₈ n l₈ ∙ k₇ in
      let w₉ = add-wrote 0 (6 * n) n (record { yin = omega arith; zin = omega arith; apart = after (omega arith) }) t₉ in
      let x₁ : region s₁ n n ≡ normed z "attention_norm" w (h_at z s) = got w₁ n l₁ (omega arith) in
      let x₂ : region s₂ n n ≡ region s₁ n n = left w₂ n l₂ n n (before (omega arith)) in
      let x₃ : region s₃ n n ≡ region s₂ n n = left w₃ n l₃ n n (before (omega arith)) in
      let q₄ : region s₄ (2 * n) n ≡ square_of z "q" w (region s₁ n n) = left w₄ n l₄ (2 * n) n (before (omega arith)) ∙ left w₃ n l₃ (2 * n) n (before (omega arith)) ∙ got w₂ n l₂ (omega arith) in
      let p₅ : region s₅ (3 * n) n ≡ square_of z "k" w (region s₂ n n) = left w₅ n l₅ (3 * n) n (after (omega arith)) ∙ left w₄ n l₄ (3 * n) n (before (omega arith)) ∙ got w₃ n l₃ (omega arith) in
      let v₆ : region s₆ (4 * n) n ≡ square_of z "v" w (region s₃ n n) = left w₆ n l₆ (4 * n) n (after (omega arith)) ∙ left w₅ n l₅ (4 * n) n (after (omega arith)) ∙ got w₄ n l₄ (omega arith) in
      let q₆ : region s₆ (2 * n) n ≡ rotated z cos sin (region s₄ (2 * n) n) = left w₆ n l₆ (2 * n) n (before (omega arith)) ∙ got w₅ n l₅ (omega arith) in
      let p₆ : region s₆ (3 * n) n ≡ rotated z cos sin (region s₅ (3 * n) n) = got w₆ n l₆ (omega arith) in
      let o₈ : region s₈ (6 * n) n ≡ square_of z "o" w (region s₇ (5 * n) n) = got w₈ n l₈ (omega arith) in
      let h₆ : h_at z s₆ ≡ h_at z s =
      left w₆ n l₆ 0 n (before (omega arith)) ∙ left w₅ n l₅ 0 n (before (omega arith)) ∙ left w₄ n l₄ 0 n (before (omega arith)) ∙ left w₃ n l₃ 0 n (before (omega arith))
      ∙ left w₂ n l₂ 0 n (before (omega arith)) ∙ left w₁ n l₁ 0 n (before (omega arith)) in
      let h₈ : h_at z s₈ ≡ h_at z s = left w₈ n l₈ 0 n (before (omega arith)) ∙ w₇.h-is ∙ h₆ in
      let h₉ : h_at z s₉ ≡ added n (h_at z s₈) (region s₈ (6 * n) n) = got w₉ n (length-added n (h_at z s₈) (region s₈ (6 * n) n)) (omega arith) in
      rw (h₉, w₉.finite-is, h₈, o₈, w₈.finite-is, e, w₇.sums, w₇.finite-is, q₆, p₆, v₆, w₆.finite-is, w₅.finite-is, p₅, q₄, w₄.finite-is, w₃.finite-is, w₂.finite-is, x₃, x₂, x₁, w₁.finite-is)

  pub feed-half : (s₁ s₂ s₃ s₄ s₅ s₆ s₇ : List Float) (r₁ r₂ r₃ r₄ r₅ r₆ r₇ : Bool)
      → NormTried (region w (d + 4 * (d * d)) d) 0 n z.tokens d s s₁ true r₁
      → LinearTried w n (7 * n) z.tokens d z.inter (d + 4 * (d * d) + d) s₁ s₂ r₁ r₂
      → LinearTried w n (7 * n + m) z.tokens d z.inter (d + 4 * (d * d) + d + z.inter * d) s₂ s₃ r₂ r₃
      → GateTried (7 * n) (7 * n + m) m s₃ s₄ r₃ r₄
      → LinearTried w (7 * n) (6 * n) z.tokens z.inter d (d + 4 * (d * d) + d + z.inter * d + z.inter * d) s₄ s₅ r₄ r₅
      → AddTried 0 (6 * n) n s₅ s₆ r₅ r₆
      → RoundTried 0 n s₆ s₇ r₆ r₇
      → answer r₇ (h_at z s₇) ≡ feed_run z w (h_at z s)
  unfolding stages_finite feed_run
  feed-half s₁ s₂ s₃ s₄ s₅ s₆ s₇ r₁ r₂ r₃ r₄ r₅ r₆ r₇ t₁ t₂ t₃ t₄ t₅ t₆ t₇ =
      let g = f.scratch in
      let b = f.weights in
      let at = d + 4 * (d * d) + d in
      let w₁ = normed-wrote z w "ffn_norm" (d + 4 * (d * d)) (omega arith) (omega arith) (omega arith) f.small (omega arith) t₁ in
      let l₁ = length-normed z "ffn_norm" w (h_at z s) in
      let k₁ : length s₁ ≡ length s = long w₁ n l₁ in
      let w₂ = inner-wrote z w "gate" n (7 * n) at (omega arith) (omega arith) (record { x_in = omega arith; y_in = omega arith; w_in = omega arith; apart = before (omega arith) }) t₂ in
      let l₂ = length-inner z "gate" w (region s₁ n n) in
      let k₂ : length s₂ ≡ length s = long w₂ m l₂ ∙ k₁ in
      let w₃ = inner-wrote z w "up" n (7 * n + m) (at + z.inter * d) (omega arith) (omega arith) (record { x_in = omega arith; y_in = omega arith; w_in = omega arith; apart = before (omega arith) }) t₃ in
      let l₃ = length-inner z "up" w (region s₂ n n) in
      let k₃ : length s₃ ≡ length s = long w₃ m l₃ ∙ k₂ in
      let w₄ = gate-wrote (7 * n) (7 * n + m) m (record { yin = omega arith; zin = omega arith; apart = after (omega arith) }) t₄ in
      let l₄ = length-gated m (region s₃ (7 * n) m) (region s₃ (7 * n + m) m) in
      let k₄ : length s₄ ≡ length s = long w₄ m l₄ ∙ k₃ in
      let w₅ = outer-wrote z w "down" (7 * n) (6 * n) (at + z.inter * d + z.inter * d) (omega arith) (omega arith) (record { x_in = omega arith; y_in = omega arith; w_in = omega arith; apart = after (omega arith) }) t₅ in
      let l₅ = length-outer z "down" w (region s₄ (7 * n) m) in
      let k₅ : length s₅ ≡ length s = long w₅ n l₅ ∙ k₄ in
      let w₆ = add-wrote 0 (6 * n) n (record { yin = omega arith; zin = omega arith; apart = after (omega arith) }) t₆ in
      let l₆ = length-added n (h_at z s₅) (region s₅ (6 * n) n) in
      let k₆ : length s₆ ≡ length s = long w₆ n l₆ ∙ k₅ in
      let w₇ = round-wrote 0 n (omega arith) t₇ in
      let x₁ : region s₁ n n ≡ normed z "ffn_norm" w (h_at z s) = got w₁ n l₁ (omega arith) in
      let x₂ : region s₂ n n ≡ region s₁ n n = left w₂ m l₂ n n (before (omega arith)) in
      let g₃ : region s₃ (7 * n) m ≡ inner_of z "gate" w (region s₁ n n) = left w₃ m l₃ (7 * n) m (before (omega arith)) ∙ got w₂ m l₂ (omega arith) in
      let u₃ : region s₃ (7 * n + m) m ≡ inner_of z "up" w (region s₂ n n) = got w₃ m l₃ (omega arith) in
      let a₄ : region s₄ (7 * n) m ≡ gated m (region s₃ (7 * n) m) (region s₃ (7 * n + m) m) = got w₄ m l₄ (omega arith) in
      let o₅ : region s₅ (6 * n) n ≡ outer_of z "down" w (region s₄ (7 * n) m) = got w₅ n l₅ (omega arith) in
      let h₅ : h_at z s₅ ≡ h_at z s =
      left w₅ n l₅ 0 n (before (omega arith)) ∙ left w₄ m l₄ 0 n (before (omega arith)) ∙ left w₃ m l₃ 0 n (before (omega arith)) ∙ left w₂ m l₂ 0 n (before (omega arith)) ∙ left w₁ n l₁ 0 n (before (omega arith)) in
      let h₆ : h_at z s₆ ≡ added n (h_at z s₅) (region s₅ (6 * n) n) = got w₆ n l₆ (omega arith) in
      let h₇ : h_at z s₇ ≡ rounded n (h_at z s₆) = got w₇ n (length-rounded n (h_at z s₆)) (omega arith) in
      rw (h₇, w₇.finite-is, h₆, w₆.finite-is, h₅, o₅, w₅.finite-is, a₄, w₄.finite-is, g₃, u₃, w₃.finite-is, w₂.finite-is, x₂, x₁, w₁.finite-is)
