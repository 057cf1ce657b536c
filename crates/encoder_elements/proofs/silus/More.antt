-- silu times another of k more values, read past those that are written. Assumes nothing.
use mathlib.Core.Path.{◌≡◌, ap, ◌∙◌}
use mathlib.Core.List.{List}
use Prim.Native.Nat.{ℕ, ◌+◌, ◌≤◌}
use native.Mathlib.Omega.{arith}
use lib.ListN.{get_or}
use lib.Ieee.{Float, nan, binary32, mul}
use Rattle.buffers.specs.Rows.{tab}
use Rattle.buffers.specs.Region.{region, put}
use Rattle.buffers.specs.inner.Apart.{Apart}
use Rattle.buffers.proofs.Regions.{apart-sub}
use Rattle.buffers.proofs.Steps.{elems-step}
use Rattle.encoder_elements.specs.Element.{silu_of, gated}
use Rattle.encoder_elements.specs.inner.Fits.{PairFits}

-- k of the pairs, past the first i
pub part-fits : {lens y z n : ℕ} (i k : ℕ) → PairFits lens y z n → i + k ≤ n → PairFits lens (y + i) (z + i) k
part-fits i k g h = record {
  yin = omega (arith, g.yin);
  zin = omega (arith, g.zin);
  apart = apart-sub g.apart (omega arith) (omega arith) (omega arith) (omega arith);
}

-- silu of the k values at a times the k at b
abbrev pub pairs : List Float → ℕ → ℕ → ℕ → List Float
pairs u a b k = tab k (λ j. mul binary32 (silu_of (get_or u (a + j) nan)) (get_or u (b + j) nan))

pub more : (s u e : List Float) (y z n i k : ℕ) → i + k ≤ n → Apart z n y n → u ≡ put s y (gated i (region s y n) (region s z n))
    → e ≡ pairs u (y + i) (z + i) k → put u (y + i) e ≡ put s y (gated (i + k) (region s y n) (region s z n))
unfolding gated
more s u e y z n i k h g eu ee =
    ap (put u (y + i)) ee
    ∙ ap (λ (x : List Float). put x (y + i) (pairs x (y + i) (z + i) k)) eu
    ∙ elems-step s y z n i k nan (λ a b. mul binary32 (silu_of a) b) h (apart-sub g (omega arith) (omega arith) (omega arith) (omega arith))
