-- The projector from its stages. Assumes nothing.
use mathlib.Core.Bool.{Bool, true, false, ◌&&◌}
use mathlib.Core.Path.{◌≡◌, refl, sym, ap, ◌∙◌}
use mathlib.Core.List.{List}
use Prim.Native.Nat.{ℕ, zero, suc, ◌+◌, ◌*◌, ◌/◌, ◌≤◌}
use native.Mathlib.Nat.{mul_assoc, zero-mul, one-mul}
use native.Mathlib.Omega.{arith}
use lib.Dec.{eqb}
use lib.ListN.{length, get_or}
use lib.Ieee.{Float, nan}
use Rattle.buffers.specs.Rows.{tab, rows}
use Rattle.buffers.specs.Region.{region, put}
use Rattle.buffers.proofs.Regions.{length-put, region-put-same}
use Rattle.buffers.proofs.Lists.{length-tab, length-rows}
use Rattle.encoder_settings.specs.Weights.{part, projector}
use Rattle.encoder_settings.proofs.Weights.{stands}
use Rattle.encoder_linear.specs.Linear.{carried}
use Rattle.encoder_kernels.specs.Kernels.{all_finite}
use Rattle.encoder_elements.specs.Element.{gelued}
use Rattle.encoder_run.specs.Stages.{place_of, merged_token, merge_of, bias_of, proj_norm, merging_layer, linear1, linear2, project_run}
use Rattle.encoder_steps.specs.Run.{stages_finite, answer}
use Rattle.encoder_steps.specs.inner.Step.{Wrote}
use Rattle.encoder_run.specs.inner.Live.{bias_at}
use Rattle.encoder_run.specs.inner.Fits.{ProjFits}
use Rattle.encoder_linear.proofs.Sums.{length-linear}
use Rattle.encoder_linear.proofs.Sums.{length-linear-by}
use Rattle.encoder_kernels.proofs.Lengths.{length-norm}
use Rattle.encoder_elements.proofs.Lengths.{length-gelued}
use Rattle.encoder_steps.proofs.Writes.{got, long}

-- ---- where the parts behind linear_1 stand: each bias right behind its matrix, or nowhere

module _ (dim wide text : ℕ) (w : List Float) where
  abbrev first : ℕ
  first = dim + dim * wide + text * dim

  pub second-stands : (b : ℕ) → b ≤ 1 → region w (first + b * text) (text * text) ≡ part (projector dim wide text (eqb b 1)) "linear_2" w
  second-stands zero h = stands (projector dim wide text false) "linear_2" w (first + 0 * text) (text * text) (omega (arith, zero-mul text)) (omega arith)
  second-stands (suc zero) h = stands (projector dim wide text true) "linear_2" w (first + 1 * text) (text * text) (omega (arith, one-mul text)) (omega arith)
  second-stands (suc (suc b)) h = absurd (omega (arith, h))

  pub first-bias : (b : ℕ) → b ≤ 1 → bias_at (eqb b 1) w first text ≡ bias_of (eqb b 1) (projector dim wide text (eqb b 1)) "linear_1_bias" w
  first-bias zero h = refl
  first-bias (suc zero) h = ap carried (stands (projector dim wide text true) "linear_1_bias" w first text (omega arith) (omega arith))
  first-bias (suc (suc b)) h = absurd (omega (arith, h))

  pub second-bias : (b : ℕ) → b ≤ 1 → bias_at (eqb b 1) w (first + b * text + text * text) text ≡ bias_of (eqb b 1) (projector dim wide text (eqb b 1)) "linear_2_bias" w
  second-bias zero h = refl
  second-bias (suc zero) h = ap carried (stands (projector dim wide text true) "linear_2_bias" w (first + 1 * text + text * text) text (omega (arith, one-mul text)) (omega arith))
  second-bias (suc (suc b)) h = absurd (omega (arith, h))

-- the merged rows of o output tokens
pub length-merge : (merge gh gw dim : ℕ) (x : List Float) → length (merge_of merge gh gw dim x) ≡ gh / merge * (gw / merge) * (dim * (merge * merge))
unfolding merge_of
length-merge merge gh gw dim x =
    let T : ℕ → ℕ → List Float = λ bh bw. merged_token merge gw dim x bh bw in
    let C : ℕ → ℕ → ℕ → List Float = λ bh bw c. rows merge (λ mh. square bh bw c mh) in
    length-rows (λ bh. rows (gw / merge) (T bh)) (gw / merge * (dim * (merge * merge)))
    (λ bh. length-rows (T bh) (dim * (merge * merge)) (λ bw. length-rows (C bh bw) (merge * merge) (λ c. length-rows (square bh bw c) merge (λ mh. length-square bh bw c mh) merge) dim) (gw / merge))
    (gh / merge)
    ∙ sym (mul_assoc (gh / merge) (gw / merge) (dim * (merge * merge)))
  where
    square : ℕ → ℕ → ℕ → ℕ → List Float
    square bh bw c mh = tab merge (λ mw. get_or x (place_of gw dim (bh * merge + mh) (bw * merge + mw) c) nan)

    length-square : (bh bw c mh : ℕ) → length (square bh bw c mh) ≡ merge
    length-square bh bw c mh = length-tab merge (λ mw. get_or x (place_of gw dim (bh * merge + mh) (bw * merge + mw) c) nan)

module _ (t dim o wide text b : ℕ) where
  length-normed : (w h : List Float) → length (proj_norm t dim o wide text (eqb b 1) w h) ≡ t * dim
  unfolding proj_norm
  length-normed w h = length-norm t dim (part (projector dim wide text (eqb b 1)) "norm" w) h

  length-folded : (w g : List Float) → length (merging_layer t dim o wide text (eqb b 1) w g) ≡ o * dim
  unfolding merging_layer
  length-folded w g = length-linear o wide dim (part (projector dim wide text (eqb b 1)) "merging_layer" w) g

  length-first : (w g : List Float) → length (linear1 t dim o wide text (eqb b 1) w g) ≡ o * text
  unfolding linear1
  length-first w g = length-linear-by (bias_of (eqb b 1) (projector dim wide text (eqb b 1)) "linear_1_bias" w) o dim text (part (projector dim wide text (eqb b 1)) "linear_1" w) g

  length-second : (w g : List Float) → length (linear2 t dim o wide text (eqb b 1) w g) ≡ o * text
  unfolding linear2
  length-second w g = length-linear-by (bias_of (eqb b 1) (projector dim wide text (eqb b 1)) "linear_2_bias" w) o text text (part (projector dim wide text (eqb b 1)) "linear_2" w) g

  length_merged : (merge gh gw : ℕ) (x : List Float) → gh / merge * (gw / merge) ≡ o → wide ≡ dim * (merge * merge) → length (merge_of merge gh gw dim x) ≡ o * wide
  length_merged merge gh gw x e g = length-merge merge gh gw dim x ∙ cc

  pub project-run : (w s s₁ s₂ s₃ s₄ s₅ s₆ : List Float) (lenw merge gh gw at : ℕ) (a a' c d r : Bool)
      → ProjFits t dim o wide text b (length s) lenw merge gh gw at
      → Wrote s s₁ (t * dim) (proj_norm t dim o wide text (eqb b 1) w (region s 0 (t * dim))) true a
      → s₂ ≡ put s₁ (2 * (t * dim)) (merge_of merge gh gw dim (region s₁ (t * dim) (gh * gw * dim)))
      → Wrote s₂ s₃ (3 * (t * dim)) (merging_layer t dim o wide text (eqb b 1) w (region s₂ (2 * (t * dim)) (o * wide))) a a'
      → Wrote s₃ s₄ at (linear1 t dim o wide text (eqb b 1) w (region s₃ (3 * (t * dim)) (o * dim))) a' c
      → Wrote s₄ s₅ at (gelued (o * text) (region s₄ at (o * text))) c d
      → Wrote s₅ s₆ (at + o * text) (linear2 t dim o wide text (eqb b 1) w (region s₅ at (o * text))) d r
      → answer r (region s₆ (at + o * text) (o * text)) ≡ project_run t dim o wide text (eqb b 1) merge gh gw w (region s 0 (t * dim))
  unfolding stages_finite project_run
  project-run w s s₁ s₂ s₃ s₄ s₅ s₆ lenw merge gh gw at a a' c d r f w₁ e w₃ w₄ w₅ w₆ =
      let n = t * dim in
      let x = proj_norm t dim o wide text (eqb b 1) w (region s 0 n) in
      let g = merge_of merge gh gw dim x in
      let l₁ = length-normed w (region s 0 n) in
      let k₁ = long w₁ n l₁ in
      let x₁ : region s₁ n n ≡ x = got w₁ n l₁ (omega (arith, f.at-is, f.room)) in
      let x₁' : region s₁ n (gh * gw * dim) ≡ x = ap (λ m. region s₁ n m) f.same ∙ x₁ in
      let e' : s₂ ≡ put s₁ (2 * n) g = e ∙ rw x₁' in
      let lg = length_merged merge gh gw x f.count f.wide_is in
      let k₂ : length s₂ ≡ length s₁ = ap length e' ∙ length-put s₁ (2 * n) g in
      let x₂ : region s₂ (2 * n) (o * wide) ≡ g = ap (λ u. region u (2 * n) (o * wide)) e' ∙ region-put-same s₁ (2 * n) g (o * wide) (sym lg) (rw lg (omega (arith, f.at-is, f.room, f.wide_in))) in
      let l₃ = length-folded w (region s₂ (2 * n) (o * wide)) in
      let k₃ = long w₃ (o * dim) l₃ in
      let x₃ : region s₃ (3 * n) (o * dim) ≡ merging_layer t dim o wide text (eqb b 1) w g = got w₃ (o * dim) l₃ (omega (arith, f.at-is, f.room, f.fold_in)) ∙ ap (merging_layer t dim o wide text (eqb b 1) w) x₂ in
      let l₄ = length-first w (region s₃ (3 * n) (o * dim)) in
      let k₄ = long w₄ (o * text) l₄ in
      let x₄ : region s₄ at (o * text) ≡ linear1 t dim o wide text (eqb b 1) w (merging_layer t dim o wide text (eqb b 1) w g) = got w₄ (o * text) l₄ (omega (arith, f.room)) ∙ ap (linear1 t dim o wide text (eqb b 1) w) x₃ in
      let l₅ = length-gelued (o * text) (region s₄ at (o * text)) in
      let k₅ = long w₅ (o * text) l₅ in
      let x₅ : region s₅ at (o * text) ≡ gelued (o * text) (linear1 t dim o wide text (eqb b 1) w (merging_layer t dim o wide text (eqb b 1) w g)) = got w₅ (o * text) l₅ (omega (arith, f.room)) ∙ ap (gelued (o * text)) x₄ in
      let l₆ = length-second w (region s₅ at (o * text)) in
      let x₆ : region s₆ (at + o * text) (o * text) ≡ linear2 t dim o wide text (eqb b 1) w (gelued (o * text) (linear1 t dim o wide text (eqb b 1) w (merging_layer t dim o wide text (eqb b 1) w g))) = got w₆ (o * text) l₆ (omega (arith, f.room)) ∙ ap (linear2 t dim o wide text (eqb b 1) w) x₅ in
      let ra : a ≡ (true && all_finite x) = w₁.finite-is in
      let rb : a' ≡ (a && all_finite (merging_layer t dim o wide text (eqb b 1) w g)) = w₃.finite-is ∙ rw x₂ in
      let rc : c ≡ (a' && all_finite (linear1 t dim o wide text (eqb b 1) w (merging_layer t dim o wide text (eqb b 1) w g))) = w₄.finite-is ∙ rw x₃ in
      let rd : d ≡ (c && all_finite (gelued (o * text) (linear1 t dim o wide text (eqb b 1) w (merging_layer t dim o wide text (eqb b 1) w g)))) = w₅.finite-is ∙ ap (λ u. c && all_finite (gelued (o * text) u)) x₄ in
      let re : r ≡ (d && all_finite (linear2 t dim o wide text (eqb b 1) w (gelued (o * text) (linear1 t dim o wide text (eqb b 1) w (merging_layer t dim o wide text (eqb b 1) w g))))) = w₆.finite-is ∙ rw x₅ in
      rw (x₆, re, rd, rc, rb, ra)
