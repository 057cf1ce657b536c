-- `encoder_softmax::soften::exp_wide` meets its contract. Assumes nothing.
use mathlib.Core.Path.{◌≡◌, ap, ◌∙◌}
use mathlib.Core.List.{List}
use Prim.Native.Nat.{ℕ, ◌+◌, ◌*◌}
use native.Mathlib.Omega.{arith}
use borrow.Author.Rules.{rules}
use lib.ListN.{length, get_or}
use lib.Ieee.{Float, nan, binary32, sub}
use Rattle.number_exp_tanh.specs.Exp.{E}
use Rattle.buffers.specs.Rows.{tab}
use Rattle.buffers.specs.Region.{region, put}
use Rattle.buffers.proofs.Lists.{get_or-tab, tab-ext}
use Rattle.buffers.proofs.Regions.{length-put}
use Rattle.encoder_softmax.specs.Softmax.{exp_less}
use Rattle.encoder_softmax.proofs.soften.More.{more}
use Rattle.encoder_softmax.proofs.soften.exp_wide.Goals as goal

-- the values less m, and E of them
each : (u x e : List Float) (a : ℕ) (m : Float) → x ≡ tab 16 (λ l. sub binary32 (get_or u (a + l) nan) m) → e ≡ tab 16 (λ l. E (get_or x l nan))
    → e ≡ tab 16 (λ l. E (sub binary32 (get_or u (a + l) nan) m))
each u x e a m ex ee =
    ee ∙ tab-ext 16 (λ l. E (get_or x l nan)) (λ l. E (sub binary32 (get_or u (a + l) nan) m))
    (λ l h. ap E (ap (λ (t : List Float). get_or t l nan) ex ∙ get_or-tab 16 l (λ j. sub binary32 (get_or u (a + j) nan) m) nan h))

pub loop-k-init : goal.loop-k-init
unfolding put tab exp_less
loop-k-init c = search rules

pub loop-k-preserved : goal.loop-k-preserved
loop-k-preserved c = (
  ap length c.store_sixteen.ensures ∙ length-put _ _ _ ∙ c.loop-k.invariant.0,
  c.store_sixteen.ensures
      ∙ more c.args.s.now c.loop-k.s _ c.args.y c.args.n (c.loop-k.k * 16) 16 c.args.m (omega arith) c.loop-k.invariant.1 (each c.loop-k.s c.sixteen_less-x.result _ (c.args.y + (c.loop-k.k * 16)) c.args.m c.sixteen_less-x.ensures c.exp_sixteen.ensures)
      ∙ ap (λ (j : ℕ). put c.args.s.now c.args.y (exp_less j c.args.m (region c.args.s.now c.args.y c.args.n))) (omega arith),
)

pub shape_of-s : goal.shape_of-s
shape_of-s c = c.loop-k.invariant.0

pub returns : goal.returns
returns c =
    (omega arith, c.loop-k.invariant.1 ∙ ap (λ (j : ℕ). put c.args.s.now c.args.y (exp_less (j * 16) c.args.m (region c.args.s.now c.args.y c.args.n))) (omega arith))
