-- `encoder_softmax::soften::exp_row` meets its contract: sixteen by sixteen, and the rest behind them. Assumes nothing.
use mathlib.Core.Path.{◌≡◌, ap, ◌∙◌}
use mathlib.Core.List.{List}
use Prim.Native.Nat.{ℕ, ◌+◌, ◌-◌, ◌≤◌}
use native.Mathlib.Omega.{arith}
use lib.ListN.{get_or}
use lib.Ieee.{Float, nan, binary32, sub}
use Rattle.number_exp_tanh.specs.Exp.{E}
use Rattle.buffers.specs.Region.{region, put}
use Rattle.buffers.proofs.Lists.{tab-ext}
use Rattle.buffers.proofs.Regions.{get_or-region}
use Rattle.encoder_softmax.specs.Softmax.{exp_less}
use Rattle.encoder_softmax.proofs.soften.More.{more}
use Rattle.encoder_softmax.proofs.soften.exp_row.Goals as goal

both : (s u z : List Float) (y n i : ℕ) (m : Float) → i ≤ n → u ≡ put s y (exp_less i m (region s y n))
    → z ≡ put u (y + i) (exp_less (n - i) m (region u (y + i) (n - i))) → z ≡ put s y (exp_less n m (region s y n))
unfolding exp_less
both s u z y n i m h eu ez =
    let k : i + (n - i) ≡ n = omega arith in
    ez
    ∙ more s u _ y n i (n - i) m (omega arith) eu
    (tab-ext (n - i) (λ j. E (sub binary32 (get_or (region u (y + i) (n - i)) j nan) m)) (λ j. E (sub binary32 (get_or u (y + i + j) nan) m))
    (λ j l. ap (λ (v : Float). E (sub binary32 v m)) (get_or-region u (y + i) (n - i) j nan l)))
    ∙ ap (λ (j : ℕ). put s y (exp_less j m (region s y n))) k

pub returns : goal.returns
returns c =
    both c.args.s.now c.exp_wide-i.new.s _ c.args.y c.args.n c.exp_wide-i.result c.args.m c.exp_wide-i.ensures.0 c.exp_wide-i.ensures.1 c.exp_rest.ensures
