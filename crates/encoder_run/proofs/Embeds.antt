-- The embedding from its stages. Assumes nothing.
use mathlib.Core.Bool.{Bool, true}
use mathlib.Core.Path.{◌≡◌, ap, ◌∙◌}
use mathlib.Core.List.{List, [], ◌∷◌}
use Prim.Native.Nat.{ℕ, ◌*◌, ◌≤◌}
use native.Mathlib.Omega.{arith}
use lib.ListN.{length}
use lib.Ieee.{Float}
use Rattle.buffers.specs.Region.{region}
use Rattle.encoder_settings.specs.Weights.{part, embedding}
use Rattle.encoder_blocks.specs.declared.Sizes.{Sizes}
use Rattle.encoder_blocks.specs.Block.{n_of}
use Rattle.encoder_elements.specs.Element.{rounded}
use Rattle.encoder_steps.specs.Run.{stages_finite, answer}
use Rattle.encoder_run.specs.Stages.{patch_conv, ln_pre, embed_run}
use Rattle.encoder_steps.specs.inner.Step.{Wrote}
use Rattle.encoder_blocks.specs.inner.Live.{h_at}
use Rattle.encoder_linear.proofs.Sums.{length-linear}
use Rattle.encoder_kernels.proofs.Lengths.{length-norm}
use Rattle.encoder_elements.proofs.Lengths.{length-rounded}
use Rattle.encoder_steps.proofs.Writes.{got, long}

module _ (z : Sizes) (f : ℕ) (w x s : List Float) (room : 2 * n_of z ≤ length s) where
  abbrev n : ℕ
  n = n_of z

  length-conv : length (patch_conv z f w x) ≡ n
  unfolding patch_conv
  length-conv = length-linear z.tokens f z.hidden (part (embedding z.hidden f) "patch_conv" w) x

  length-pre : (h : List Float) → length (ln_pre z f w h) ≡ n
  unfolding ln_pre
  length-pre h = length-norm z.tokens z.hidden (part (embedding z.hidden f) "ln_pre" w) h

  pub embedded : (s₁ s₂ s₃ s₄ : List Float) (a b c r : Bool)
      → Wrote s s₁ n (patch_conv z f w x) true a
      → Wrote s₁ s₂ n (rounded n (region s₁ n n)) a b
      → Wrote s₂ s₃ 0 (ln_pre z f w (region s₂ n n)) b c
      → Wrote s₃ s₄ 0 (rounded n (region s₃ 0 n)) c r
      → answer r (h_at z s₄) ≡ embed_run z f w x
  unfolding stages_finite embed_run
  embedded s₁ s₂ s₃ s₄ a b c r w₁ w₂ w₃ w₄ =
      let k₁ = long w₁ n length-conv in
      let l₂ = length-rounded n (region s₁ n n) in
      let k₂ = long w₂ n l₂ in
      let l₃ = length-pre (region s₂ n n) in
      let k₃ = long w₃ n l₃ in
      let l₄ = length-rounded n (region s₃ 0 n) in
      let x₁ : region s₁ n n ≡ patch_conv z f w x = got w₁ n length-conv (omega arith) in
      let x₂ : region s₂ n n ≡ rounded n (patch_conv z f w x) = got w₂ n l₂ (omega arith) ∙ ap (rounded n) x₁ in
      let x₃ : region s₃ 0 n ≡ ln_pre z f w (rounded n (patch_conv z f w x)) = got w₃ n l₃ (omega arith) ∙ ap (ln_pre z f w) x₂ in
      let a' = patch_conv z f w x in
      let b' = rounded n a' in
      let c' = ln_pre z f w b' in
      let d' = rounded n c' in
      let h : h_at z s₄ ≡ d' = got w₄ n l₄ (omega arith) ∙ ap (rounded n) x₃ in
      let e : r ≡ stages_finite true (a' ∷ b' ∷ c' ∷ d' ∷ []) = cc in
      ap (λ u. answer u (h_at z s₄)) e ∙ ap (answer (stages_finite true (a' ∷ b' ∷ c' ∷ d' ∷ []))) h
