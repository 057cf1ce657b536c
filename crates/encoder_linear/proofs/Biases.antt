-- Laws of a bias. Assumes nothing.
use mathlib.Core.Path.{◌≡◌, sym, ap, ◌∙◌}
use mathlib.Core.List.{List}
use Prim.Native.Nat.{ℕ, ◌+◌, ◌*◌, ◌≤◌, ◌<◌}
use native.Mathlib.Omega.{arith}
use lib.ListN.{length}
use lib.Ieee.{Float, nan, binary32, add}
use Rattle.buffers.specs.Region.{region, put}
use Rattle.buffers.specs.Each.{each_row, both}
use Rattle.buffers.specs.inner.Apart.{after}
use Rattle.buffers.proofs.Lists.{length-tab}
use Rattle.buffers.proofs.Regions.{region-put-same, put-put}
use Rattle.buffers.proofs.Steps.{row_step}
use Rattle.encoder_linear.specs.Linear.{biased}
use Rattle.encoder_linear.proofs.Sums.{length-biased}

-- a row of d plus the bias
abbrev pub plus : ℕ → List Float → ℕ → List Float → List Float
plus d b i x = both nan d (λ u v. add binary32 u v) x b

-- a turn of the loop that adds it to row after row
pub plus_turn : (s u t b : List Float) (y n d r at : ℕ) → length b ≡ d → r < n → at ≡ y + r * d
    → u ≡ put s y (each_row r d (plus d b) (region s y (n * d)))
    → t ≡ put u at (plus (length b) b 0 (region u at (length b)))
    → t ≡ put s y (each_row (r + 1) d (plus d b) (region s y (n * d)))
plus_turn s u t b y n d r at l h e f g =
    g ∙ ap (λ (m : ℕ). put u at (plus m b 0 (region u at m))) l ∙ ap (λ (a : ℕ). put u a (plus d b 0 (region u a d))) e
    ∙ ap (λ (v : List Float). put v (y + r * d) (plus d b 0 (region v (y + r * d) d))) f
    ∙ row_step s y y n d d r (plus d b) (λ i x. simp length-tab) (after (omega arith)) h

-- the bias over sums that were just written
pub biased-wrote : (s u t b l : List Float) (y n d : ℕ) → length l ≡ n * d → y + n * d ≤ length s → u ≡ put s y l → t ≡ put u y (biased n d b (region u y (n * d)))
    → t ≡ put s y (biased n d b l)
biased-wrote s u t b l y n d k h e g =
    let r : region u y (n * d) ≡ l = ap (λ (v : List Float). region v y (n * d)) e ∙ region-put-same s y l (n * d) (sym k) (omega (arith, k, h)) in
    g ∙ ap (λ (v : List Float). put u y (biased n d b v)) r ∙ ap (λ (v : List Float). put v y (biased n d b l)) e
    ∙ put-put s y l (biased n d b l) (k ∙ sym (length-biased n d b l))
