-- Laws of the spatial merge: where a place takes its value from lies inside the tokens; place by place it is the
-- nested definition. Assumes nothing.
use mathlib.Core.Path.{◌≡◌, ap, ◌∙◌}
use mathlib.Core.List.{List}
use Prim.Native.Nat.{ℕ, ◌+◌, ◌*◌, ◌/◌, ◌%◌, ◌<◌}
use native.Mathlib.Nat.{div-lt_iff_lt-mul, mod-lt, mul-add-div_right, div-eq_of_lt, add-zero, add_comm, add-mul-mod_self_right, mod-eq_of_lt}
use native.Mathlib.Omega.{arith}
use lib.ListN.{length, get_or, set}
use lib.Ieee.{Float, nan}
use Rattle.buffers.specs.Rows.{tab, rows}
use Rattle.buffers.specs.Region.{region, put}
use Rattle.buffers.proofs.Regions.{get_or-put, get_or-region, apart-sub}
use Rattle.buffers.proofs.Lists.{fit, length-tab, put-tab, tab-ext, rows_ext, tab-mul, rows-mul}
use Rattle.encoder_run.specs.Stages.{place_of, merged_token, merge_of}
use Rattle.encoder_run.specs.inner.Source.{source_of, merged_first}
use Rattle.encoder_run.specs.inner.Fits.{SourceFits, MergeFits}

pack : {i j m n : ℕ} → i < m → j < n → i * n + j < m * n
pack {i} {j} {m} {n} a b = let f = fit n a in omega arith

quotient : (a i n : ℕ) → i < n → (a * n + i) / n ≡ a
quotient a i n h = mul-add-div_right (omega arith) a i ∙ ap (λ (t : ℕ). a + t) (div-eq_of_lt h) ∙ add-zero a

remainder : (a i n : ℕ) → i < n → (a * n + i) % n ≡ i
remainder a i n h = ap (λ (t : ℕ). t % n) (add_comm (a * n) i) ∙ add-mul-mod_self_right i a n ∙ mod-eq_of_lt h

module _ (p merge gh gw dim : ℕ) (g : SourceFits p merge gh gw dim) where
  abbrev o : ℕ
  o = p / (dim * (merge * merge))

  abbrev k : ℕ
  k = p % (dim * (merge * merge)) % (merge * merge)

  pub row_lt : o / (gw / merge) * merge + k / merge < gh
  row_lt =
      let a : o < gh / merge * (gw / merge) = (div-lt_iff_lt-mul g.row).1 g.inside in
      let bh : o / (gw / merge) < gh / merge = (div-lt_iff_lt-mul g.wide).1 a in
      let mh : k / merge < merge = (div-lt_iff_lt-mul g.some).1 (mod-lt (p % (dim * (merge * merge))) g.square) in
      let h = pack bh mh in
      omega (arith, g.gh-is)

  pub col-lt : o % (gw / merge) * merge + k % merge < gw
  col-lt = let h = pack (mod-lt o g.wide) (mod-lt k g.some) in omega (arith, g.gw-is)

  channel-lt : p % (dim * (merge * merge)) / (merge * merge) < dim
  channel-lt = (div-lt_iff_lt-mul g.square).1 (mod-lt p g.row)

  pub token-lt : (o / (gw / merge) * merge + k / merge) * gw + (o % (gw / merge) * merge + k % merge) < gh * gw
  token-lt = pack row_lt col-lt

  pub source-lt : source_of merge gw dim p < gh * gw * dim
  unfolding source_of
  source-lt = pack token-lt channel-lt

-- a turn of the loop that writes the merged values
pub merge-turn : (s : List Float) (x y total merge gh gw dim p : ℕ) → MergeFits (length s) x y total merge gh gw dim → p < total
    → (let t = put s y (merged_first p merge gw dim (region s x (gh * gw * dim))) in set t (y + p) (get_or t (x + source_of merge gw dim p) nan))
    ≡ put s y (merged_first (p + 1) merge gw dim (region s x (gh * gw * dim)))
unfolding merged_first
merge-turn s x y total merge gh gw dim p g h =
    let n = gh * gw * dim in
    let b = source-lt p merge gh gw dim (g.each p h) in
    let G : ℕ → Float = λ i. get_or (region s x n) (source_of merge gw dim i) nan in
    rw (
      get_or-put s y (tab p G) (x + source_of merge gw dim p) nan (rw (length-tab p G) (apart-sub g.apart (omega arith) (omega arith) (omega arith) (omega arith))),
      ← get_or-region s x n (source_of merge gw dim p) nan b,
    )
    (put-tab s y p G)

module _ (merge gw dim : ℕ) (some : 0 < merge) (wide : 0 < gw / merge) (channels : 0 < dim) where
  abbrev b : ℕ
  b = gw / merge

  abbrev mm : ℕ
  mm = merge * merge

  -- the place of output token (bh, bw), channel c, (mh, mw)
  source-at : (bh bw c mh mw : ℕ) → bw < b → c < dim → mh < merge → mw < merge
      → source_of merge gw dim ((bh * b + bw) * (dim * mm) + (c * mm + (mh * merge + mw))) ≡ place_of gw dim (bh * merge + mh) (bw * merge + mw) c
  unfolding source_of
  source-at bh bw c mh mw hb hc h w =
      let k = pack h w in
      let r = pack hc k in
      rw (
        quotient (bh * b + bw) (c * mm + (mh * merge + mw)) (dim * mm) r,
        remainder (bh * b + bw) (c * mm + (mh * merge + mw)) (dim * mm) r,
        quotient bh bw b hb,
        remainder bh bw b hb,
        quotient c (mh * merge + mw) mm k,
        remainder c (mh * merge + mw) mm k,
        quotient mh mw merge w,
        remainder mh mw merge w,
      )

  pub merge-flat : (gh : ℕ) (x : List Float) → merged_first (gh / merge * (gw / merge) * (dim * (merge * merge))) merge gw dim x ≡ merge_of merge gh gw dim x
  unfolding merged_first merge_of
  merge-flat gh x =
      let f : ℕ → Float = λ p. get_or x (source_of merge gw dim p) nan in
      let R = dim * mm in
      tab-mul (gh / merge * b) R f
      ∙ rows-mul (gh / merge) b (λ i. tab R (λ j. f (i * R + j)))
      ∙ rows_ext (gh / merge) (λ bh. rows b (λ bw. tab R (λ j. f ((bh * b + bw) * R + j)))) (λ bh. rows b (λ bw. merged_token merge gw dim x bh bw))
      (λ bh hh. rows_ext b (λ bw. tab R (λ j. f ((bh * b + bw) * R + j))) (λ bw. merged_token merge gw dim x bh bw)
      (λ bw hb. token bh bw hb))
    where
      token : (bh bw : ℕ) → bw < b → tab (dim * mm) (λ j. get_or x (source_of merge gw dim ((bh * b + bw) * (dim * mm) + j)) nan) ≡ merged_token merge gw dim x bh bw
      token bh bw hb =
          let g : ℕ → Float = λ j. get_or x (source_of merge gw dim ((bh * b + bw) * (dim * mm) + j)) nan in
          tab-mul dim mm g
          ∙ rows_ext dim (λ c. tab mm (λ j. g (c * mm + j))) (λ c. rows merge (λ mh. tab merge (λ mw. get_or x (place_of gw dim (bh * merge + mh) (bw * merge + mw) c) nan)))
          (λ c hc. tab-mul merge merge (λ j. g (c * mm + j))
          ∙ rows_ext merge (λ mh. tab merge (λ mw. g (c * mm + (mh * merge + mw)))) (λ mh. tab merge (λ mw. get_or x (place_of gw dim (bh * merge + mh) (bw * merge + mw) c) nan))
          (λ mh h. tab-ext merge (λ mw. g (c * mm + (mh * merge + mw))) (λ mw. get_or x (place_of gw dim (bh * merge + mh) (bw * merge + mw) c) nan)
          (λ mw w. ap (λ (i : ℕ). get_or x i nan) (source-at bh bw c mh mw hb hc h w))))
