-- `encoder_elements::silus::gate_values` meets its contract: sixteen by sixteen, and the rest behind them. Assumes nothing.
use mathlib.Core.Path.{◌≡◌, ap, ◌∙◌}
use mathlib.Core.List.{List}
use Prim.Native.Nat.{ℕ, ◌+◌, ◌-◌, ◌≤◌}
use native.Mathlib.Omega.{arith}
use lib.ListN.{get_or}
use lib.Ieee.{Float, nan, binary32, mul}
use Rattle.buffers.specs.Region.{region, put}
use Rattle.buffers.specs.inner.Apart.{Apart}
use Rattle.buffers.proofs.Lists.{tab-ext}
use Rattle.buffers.proofs.Regions.{get_or-region}
use Rattle.encoder_elements.specs.Element.{silu_of, gated}
use Rattle.encoder_elements.proofs.silus.More.{part-fits, more}
use Rattle.encoder_elements.proofs.silus.gate_values.Goals as goal

rest : (s u v : List Float) (y z n i : ℕ) → i ≤ n → Apart z n y n → u ≡ put s y (gated i (region s y n) (region s z n))
    → v ≡ put u (y + i) (gated (n - i) (region u (y + i) (n - i)) (region u (z + i) (n - i))) → v ≡ put s y (gated n (region s y n) (region s z n))
unfolding gated
rest s u v y z n i h g eu ev =
    let k : i + (n - i) ≡ n = omega arith in
    ev
    ∙ more s u _ y z n i (n - i) (omega arith) g eu
    (tab-ext (n - i) _ (λ j. mul binary32 (silu_of (get_or u (y + i + j) nan)) (get_or u (z + i + j) nan))
    (λ j l. rw (get_or-region u (y + i) (n - i) j nan l, get_or-region u (z + i) (n - i) j nan l)))
    ∙ ap (λ (j : ℕ). put s y (gated j (region s y n) (region s z n))) k

pub gate_rest-requires : goal.gate_rest-requires
gate_rest-requires c =
    rw c.gate_wide-i.auto.s (part-fits c.gate_wide-i.result _ c.requires (omega arith))

pub returns : goal.returns
returns c =
    rest c.args.s.now c.gate_wide-i.new.s _ c.args.y c.args.z c.args.n c.gate_wide-i.result c.gate_wide-i.ensures.0 c.requires.apart c.gate_wide-i.ensures.1 c.gate_rest.ensures
