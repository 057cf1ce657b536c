-- E of k more values of the row, read past those that are written. Assumes nothing.
use mathlib.Core.Path.{◌≡◌, ap, ◌∙◌}
use mathlib.Core.List.{List}
use Prim.Native.Nat.{ℕ, ◌+◌, ◌≤◌}
use native.Mathlib.Omega.{arith}
use lib.ListN.{get_or}
use lib.Ieee.{Float, nan, binary32, sub}
use Rattle.number_exp_tanh.specs.Exp.{E}
use Rattle.buffers.specs.Rows.{tab}
use Rattle.buffers.specs.Region.{region, put}
use Rattle.buffers.specs.inner.Apart.{after}
use Rattle.buffers.proofs.Steps.{elems-step}
use Rattle.encoder_softmax.specs.Softmax.{exp_less}

pub more : (s u e : List Float) (y n i k : ℕ) (m : Float) → i + k ≤ n → u ≡ put s y (exp_less i m (region s y n))
    → e ≡ tab k (λ j. E (sub binary32 (get_or u (y + i + j) nan) m)) → put u (y + i) e ≡ put s y (exp_less (i + k) m (region s y n))
unfolding exp_less
more s u e y n i k m h eu ee =
    ap (put u (y + i)) ee
    ∙ ap (λ (x : List Float). put x (y + i) (tab k (λ j. E (sub binary32 (get_or x (y + i + j) nan) m)))) eu
    ∙ elems-step s y y n i k nan (λ a b. E (sub binary32 a m)) h (after (omega arith))
