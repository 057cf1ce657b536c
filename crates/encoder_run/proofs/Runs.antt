-- The whole run from its pieces, and what it hands on. Assumes nothing.
use mathlib.Core.Bool.{Bool, true, ◌&&◌}
use mathlib.Core.Path.{◌≡◌, sym, ap, ◌∙◌}
use mathlib.Core.List.{List, [], ◌∷◌}
use Prim.Native.Nat.{ℕ, ◌+◌, ◌*◌, ◌-◌, ◌≤◌}
use native.Mathlib.Omega.{arith}
use borrow.Author.Tests.{le-leb}
use lib.ListN.{length}
use lib.Ieee.{Float}
use Rattle.buffers.specs.Region.{region, over, copied}
use Rattle.encoder_settings.specs.declared.EncoderSettings.{EncoderSettings}
use Rattle.encoder_settings.specs.Weights.{floats, part, embedding, layer, projector, has_bias, weights}
use Rattle.encoder_settings.specs.Settings.{merge_area, weight_floats}
use Rattle.encoder_settings.proofs.Weights.{stands}
use Rattle.picture_limits.specs.Places.{patch_floats}
use Rattle.encoder_blocks.specs.declared.Sizes.{Sizes}
use Rattle.encoder_run.specs.declared.Counts.{Counts}
use Rattle.encoder_run.specs.declared.Regions.{Regions}
use Rattle.encoder_linear.proofs.Sums.{length-linear-by}
use Rattle.encoder_elements.specs.Element.{gelued}
use Rattle.encoder_steps.specs.Run.{Run, went, stages_finite, answer, examined, then_run}
use Rattle.encoder_steps.proofs.Writes.{answer-then, answer-went, then-went}
use Rattle.encoder_run.specs.Stages.{embed_run, merge_of, bias_of, proj_norm, merging_layer, linear1, linear2, project_run, sizes_of, run_of}
use Rattle.encoder_blocks.specs.Block.{layers_run}
use Rattle.encoder_blocks.specs.inner.Live.{h_at}
use Rattle.encoder_run.specs.inner.Live.{regions_of, counts_of}

module _ (s : EncoderSettings) (gh gw t o : ℕ) (w cos sin x : List Float) where
  abbrev z : Sizes
  z = sizes_of s t gw

  abbrev p : Counts
  p = counts_of s z

  abbrev e : ℕ
  e = o * s.text_hidden_size

  abbrev q : Regions
  q = regions_of z e

  pub run-of : (v₁ v₂ v₃ s₁ s₂ s₃ : List Float) (ok a b c : Bool)
      → p.embedding ≡ floats (embedding s.hidden_size p.patch) → p.layers ≡ s.num_layers * floats (layer s.hidden_size s.intermediate_size)
      → length w ≡ weight_floats s
      → v₁ ≡ region w 0 p.embedding → v₂ ≡ region w p.embedding p.layers
      → v₃ ≡ region w (p.embedding + p.layers) (length w - (p.embedding + p.layers))
      → ok ≡ stages_finite true (x ∷ w ∷ cos ∷ sin ∷ [])
      → answer a (h_at z s₁) ≡ embed_run z p.patch v₁ x
      → answer b (h_at z s₂) ≡ layers_run z v₂ cos sin s.num_layers (h_at z s₁)
      → answer c (region s₃ (q.linear + e) e) ≡ project_run t z.hidden o p.merged s.text_hidden_size (has_bias s) s.picture.spatial_merge_size gh gw v₃ (region s₂ 0 (t * z.hidden))
      → answer (((ok && a) && b) && c) (region s₃ (q.linear + e) e) ≡ run_of s gh gw t o w cos sin x
  unfolding run_of
  run-of v₁ v₂ v₃ s₁ s₂ s₃ ok a b c f₁ f₂ f₃ d₁ d₂ d₃ i g l k =
      let T = weights s in
      let P : List Float → List Float → Run = λ u m. project_run t z.hidden o p.merged s.text_hidden_size (has_bias s) s.picture.spatial_merge_size gh gw u m in
      let E : List Float → List Float → Run = λ u m. embed_run z p.patch u m in
      let L : List Float → List Float → Run = λ u m. layers_run z u cos sin s.num_layers m in
      let g₁ = d₁ ∙ stands T "embedding" w 0 p.embedding (omega arith) (omega (arith, f₁)) in
      let g₂ = d₂ ∙ stands T "layers" w p.embedding p.layers (omega (arith, f₁)) (omega (arith, f₂)) in
      let g₃ = d₃ ∙ stands T "projector" w (p.embedding + p.layers) (length w - (p.embedding + p.layers)) (omega (arith, f₁, f₂)) (omega (arith, f₁, f₂, f₃)) in
      let e₁ = ap (λ u. E u x) (sym g₁) ∙ sym g in
      let e₂ = ap (λ u. L u (h_at z s₁)) (sym g₂) ∙ sym l in
      let e₃ = ap (λ u. P u (h_at z s₂)) (sym g₃) ∙ sym k in
      answer-then ((ok && a) && b) c (h_at z s₂) (region s₃ (q.linear + e) e) (P (part T "projector" w)) e₃
      ∙ ap (λ u. then_run u (P (part T "projector" w))) (answer-then (ok && a) b (h_at z s₁) (h_at z s₂) (L (part T "layers" w)) e₂
      ∙ ap (λ u. then_run u (L (part T "layers" w))) (answer-then ok a x (h_at z s₁) (E (part T "embedding" w)) e₁ ∙ ap (λ u. then_run (answer u x) (E (part T "embedding" w))) i))

-- ---- what a run that went hands on

pub copied-over : (ys old : List Float) → length ys ≤ length old → copied ys old ≡ over ys old
unfolding copied
copied-over ys old h = rw (le-leb (length ys) (length old) h)

project-long : (t dim o wide text : ℕ) (bias : Bool) (merge gh gw : ℕ) (w h l : List Float) → project_run t dim o wide text bias merge gh gw w h ≡ went l → length l ≡ o * text
unfolding project_run linear2
project-long t dim o wide text bias merge gh gw w h l e =
    let x = proj_norm t dim o wide text bias w h in
    let a = merging_layer t dim o wide text bias w (merge_of merge gh gw dim x) in
    let b = linear1 t dim o wide text bias w a in
    let c = gelued (o * text) b in
    let d = linear2 t dim o wide text bias w c in
    ap length (sym (answer-went (stages_finite true (x ∷ a ∷ b ∷ c ∷ d ∷ [])) d l e)) ∙ length-linear-by (bias_of bias (projector dim wide text bias) "linear_2_bias" w) o text text (part (projector dim wide text bias) "linear_2" w) c

-- o rows of the text size
pub vectors-long : (s : EncoderSettings) (gh gw t o : ℕ) (w cos sin x l : List Float) → run_of s gh gw t o w cos sin x ≡ went l → length l ≡ o * s.text_hidden_size
unfolding run_of
vectors-long s gh gw t o w cos sin x l e =
    let z = sizes_of s t gw in
    let T = weights s in
    let r = then_run (then_run (examined (x ∷ w ∷ cos ∷ sin ∷ []) x) (embed_run z (patch_floats s.picture.patch_size) (part T "embedding" w))) (layers_run z (part T "layers" w) cos sin s.num_layers) in
    let wide = z.hidden * merge_area s.picture in
    let f = project_run t z.hidden o wide s.text_hidden_size (has_bias s) s.picture.spatial_merge_size gh gw (part T "projector" w) in
    let g = then-went r f l e in
    project-long t z.hidden o wide s.text_hidden_size (has_bias s) s.picture.spatial_merge_size gh gw (part T "projector" w) g.0 l g.1
