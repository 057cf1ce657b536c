-- `encoder_linear::lanes::add_products` meets its contract. Assumes nothing.
use mathlib.Core.Path.{◌≡◌, refl, sym, ap, ◌∙◌}
use mathlib.Core.List.{List}
use Prim.Native.Nat.{ℕ, ◌+◌}
use native.Mathlib.Omega.{arith}
use lib.ListN.{get_or, set, length-set}
use lib.Ieee.{Float, nan, binary32, add, mul}
use Rattle.buffers.specs.Rows.{tab}
use Rattle.buffers.specs.Region.{put}
use Rattle.buffers.specs.inner.Apart.{after}
use Rattle.buffers.proofs.Lists.{length-tab, tab-step-0}
use Rattle.buffers.proofs.Regions.{get_or-put, put_all}
use Rattle.encoder_linear.proofs.lanes.add_products.Invariants.{next}
use Rattle.encoder_linear.proofs.lanes.add_products.Goals as goal

step : (a b xt : List Float) (j l : ℕ) (t : Float) → b ≡ put a 0 (tab l (next a xt j t))
    → set b l (add binary32 (get_or b l nan) (mul binary32 (get_or xt (j + l) nan) t)) ≡ put a 0 (tab (l + 1) (next a xt j t))
step a b xt j l t e =
    tab-step-0 a b l (next a xt j t) _ e
    (ap (λ v. add binary32 v (mul binary32 (get_or xt (j + l) nan) t))
    (ap (λ x. get_or x l nan) e ∙ get_or-put a 0 (tab l (next a xt j t)) l nan (rw (length-tab l (next a xt j t)) (after (omega arith)))))

pub loop-l-init : goal.loop-l-init
unfolding put tab
loop-l-init c = (omega arith, refl, refl)

pub loop-l-preserved : goal.loop-l-preserved
loop-l-preserved c =
    (omega arith, length-set c.loop-l.b c.loop-l.l _ ∙ c.loop-l.invariant.1, step c.args.a c.loop-l.b c.args.xt.now c.args.j c.loop-l.l c.args.t c.loop-l.invariant.2)

pub returns : goal.returns
returns c =
    let G = next c.args.a c.args.xt.now c.args.j c.args.t in
    c.loop-l.invariant.2 ∙ ap (λ n. put c.args.a 0 (tab n G)) (omega arith) ∙ put_all c.args.a (tab 16 G) (length-tab 16 G ∙ sym c.requires.0)
