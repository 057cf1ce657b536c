-- What the layers hand on, and where it then stands. Assumes nothing.
use mathlib.Core.Bool.{Bool, true, ◌&&◌, cond}
use mathlib.Core.Path.{◌≡◌, refl, sym, ap, ◌∙◌}
use mathlib.Core.List.{List, [], ◌∷◌}
use Prim.Native.Nat.{ℕ, zero, suc, ◌≤◌}
use native.Mathlib.Omega.{arith}
use lib.ListN.{length}
use lib.Ieee.{Float}
use Rattle.buffers.proofs.Regions.{length-region}
use Rattle.encoder_elements.specs.Element.{added, gated, rounded}
use Rattle.encoder_elements.proofs.Lengths.{length-rounded}
use Rattle.encoder_steps.specs.Run.{Run, stopped, went, stages_finite, answer, ran, handed}
use Rattle.encoder_steps.proofs.Writes.{answer-went, then-went}
use Rattle.encoder_steps.proofs.Fronts.{front-is}
use Rattle.encoder_blocks.specs.declared.Sizes.{Sizes}
use Rattle.encoder_settings.specs.declared.Tables.{Tables}
use Rattle.encoder_settings.specs.declared.Attention.{Attention}
use Rattle.encoder_settings.specs.Weights.{nth_layer}
use Rattle.encoder_blocks.specs.Block.{n_of, m_of, normed, inner_of, outer_of, attn_run, feed_run, block_run, layers_run}
use Rattle.encoder_blocks.specs.Tables.{cos_by, sin_by}
use Rattle.encoder_blocks.specs.inner.Live.{h_at}
use Rattle.encoder_blocks.specs.inner.Room.{layers_fit}
use Rattle.encoder_blocks.specs.inner.Fits.{LayersFits}
use Rattle.encoder_blocks.proofs.Rooms.{layers-fit}

block-long : (z : Sizes) (w cos sin h l : List Float) → block_run z w cos sin h ≡ went l → length l ≡ n_of z
unfolding block_run feed_run
block-long z w cos sin h l e =
    let g = then-went (attn_run z w cos sin h) (feed_run z w) l e in
    let x = normed z "ffn_norm" w g.0 in
    let a = gated (m_of z) (inner_of z "gate" w x) (inner_of z "up" w x) in
    let d = outer_of z "down" w a in
    let h' = added (n_of z) g.0 d in
    let b = rounded (n_of z) h' in
    ap length (sym (answer-went (stages_finite true (x ∷ inner_of z "gate" w x ∷ inner_of z "up" w x ∷ a ∷ d ∷ h' ∷ b ∷ [])) b l g.1)) ∙ length-rounded (n_of z) h'

layers-long : (z : Sizes) (w cos sin : List Float) (n : ℕ) (h l : List Float) → length h ≡ n_of z → layers_run z w cos sin n h ≡ went l → length l ≡ n_of z
unfolding layers_run
layers-long z w cos sin zero h l k e = ap length (sym (answer-went true h l e)) ∙ k
layers-long z w cos sin (suc n) h l k e =
    let v = nth_layer z.hidden z.inter n w in
    let g = then-went (layers_run z w cos sin n h) (block_run z v cos sin) l e in
    block-long z v cos sin g.0 l g.1

-- where all fits, the run is what the call says and leaves at the front
pub layers-done : (f : Attention) (z : Sizes) (s t w : List Float) (lent : Tables) (row count : ℕ) (r : Bool)
    → LayersFits f z (length s) (length w) lent row count
    → (let C = cos_by z lent in
    let S = sin_by z lent in
    let R = layers_run z w C S count (h_at z s) in
    let fits = layers_fit f z (length s) (length w) lent row count in
    r ≡ (fits && ran R) → t ≡ cond fits (handed R s) s → answer r (h_at z t) ≡ R)
layers-done f z s t w lent row count r k e g =
    let b = layers-fit z f k in
    let C = cos_by z lent in
    let S = sin_by z lent in
    let R = layers_run z w C S count (h_at z s) in
    let l : n_of z ≤ length s = omega (arith, k.rotation.scratch) in
    let e' : r ≡ ran R = e ∙ ap (λ c. c && ran R) b in
    let g' : t ≡ handed R s = g ∙ ap (λ c. cond c (handed R s) s) b in
    rw (e', g') (went_on C S l R refl)
  where
    went_on : (C S : List Float) → n_of z ≤ length s → (R : Run) → layers_run z w C S count (h_at z s) ≡ R → answer (ran R) (h_at z (handed R s)) ≡ R
    went_on C S l stopped q = refl
    went_on C S l (went h) q = ap went (front-is h s (n_of z) (layers-long z w C S count (h_at z s) h (length-region s 0 (n_of z) (omega (arith, l))) q) l)
