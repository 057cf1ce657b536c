-- `encoder_elements::silus::gate_wide` meets its contract. Assumes nothing.
use mathlib.Core.Path.{◌≡◌, ap, ◌∙◌}
use mathlib.Core.List.{List}
use Prim.Native.Nat.{ℕ, ◌+◌, ◌*◌}
use native.Mathlib.Omega.{arith}
use borrow.Author.Rules.{rules}
use lib.ListN.{length, get_or}
use lib.Ieee.{Float, nan, binary32, add, mul, div, neg}
use Rattle.number_exp_tanh.specs.Exp.{E}
use Rattle.buffers.specs.Rows.{tab}
use Rattle.buffers.specs.Region.{region, put}
use Rattle.number_floats.specs.Constants.{one32}
use Rattle.buffers.proofs.Lists.{get_or-tab, tab-ext}
use Rattle.buffers.proofs.Regions.{length-put, get_or-region}
use Rattle.encoder_elements.specs.Element.{silu_of, gated}
use Rattle.encoder_elements.proofs.silus.More.{part-fits, pairs, more}
use Rattle.encoder_elements.proofs.silus.gate_wide.Goals as goal

-- each by its exponential is silu of it
each : (u x e : List Float) (a b : ℕ) → x ≡ tab 16 (λ l. neg (get_or u (a + l) nan)) → e ≡ tab 16 (λ l. E (get_or x l nan))
    → tab 16 (λ l. mul binary32 (div binary32 (get_or (region u a 16) l nan) (add binary32 one32 (get_or e l nan))) (get_or (region u b 16) l nan)) ≡ pairs u a b 16
unfolding silu_of
each u x e a b ex ee =
    tab-ext 16 _ (λ l. mul binary32 (silu_of (get_or u (a + l) nan)) (get_or u (b + l) nan))
    (λ l h.
    let q : get_or x l nan ≡ neg (get_or u (a + l) nan) = ap (λ (t : List Float). get_or t l nan) ex ∙ get_or-tab 16 l (λ j. neg (get_or u (a + j) nan)) nan h in
    let p : get_or e l nan ≡ E (get_or x l nan) = ap (λ (t : List Float). get_or t l nan) ee ∙ get_or-tab 16 l (λ j. E (get_or x j nan)) nan h in
    rw (get_or-region u a 16 l nan h, get_or-region u b 16 l nan h, p, q))

pub loop-k-init : goal.loop-k-init
unfolding put tab gated
loop-k-init c = search rules

pub gate_sixteen-requires : goal.gate_sixteen-requires
gate_sixteen-requires c =
    rw c.loop-k.invariant.0 (part-fits (c.loop-k.k * 16) 16 c.requires (omega arith))

pub loop-k-preserved : goal.loop-k-preserved
loop-k-preserved c = (
  ap length c.gate_sixteen.ensures ∙ length-put _ _ _ ∙ c.loop-k.invariant.0,
  c.gate_sixteen.ensures
      ∙ more c.args.s.now c.loop-k.s _ c.args.y c.args.z c.args.n (c.loop-k.k * 16) 16 (omega arith) c.requires.apart c.loop-k.invariant.1 (each c.loop-k.s c.sixteen_negated-x.result c.exp_sixteen.result (c.args.y + (c.loop-k.k * 16)) (c.args.z + (c.loop-k.k * 16)) c.sixteen_negated-x.ensures c.exp_sixteen.ensures)
      ∙ ap (λ (j : ℕ). put c.args.s.now c.args.y (gated j (region c.args.s.now c.args.y c.args.n) (region c.args.s.now c.args.z c.args.n))) (omega arith),
)

pub shape_of-s : goal.shape_of-s
shape_of-s c = c.loop-k.invariant.0

pub returns : goal.returns
returns c =
    (omega arith, c.loop-k.invariant.1 ∙ ap (λ (j : ℕ). put c.args.s.now c.args.y (gated (j * 16) (region c.args.s.now c.args.y c.args.n) (region c.args.s.now c.args.z c.args.n))) (omega arith))
