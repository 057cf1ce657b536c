-- `number_exp_lanes::lanes::series_lanes` meets its contract. The invariant is that of `series_of`, in each lane. Assumes nothing.
use mathlib.Core.Path.{◌≡◌, sym, ap, ◌∙◌}
use mathlib.Core.List.{List}
use Prim.Native.Nat.{ℕ, ◌-◌, ◌<◌}
use native.Mathlib.Omega.{arith}
use lib.IntN.{pos}
use lib.ListN.{length, get_or, length-replicate, get_or-replicate}
use lib.Ieee.{Float, nan, binary64, of_int}
use Rattle.buffers.specs.Rows.{tab}
use Rattle.buffers.proofs.Lists.{length-tab, get_or-tab, tab-ext, tab-self}
use Rattle.number_exp_tanh.specs.Exp.{term, series}
use Rattle.number_floats.specs.Constants.{one64}
use Rattle.number_exp_tanh.proofs.exp.Terms.{series-step, series-end}
use Rattle.number_exp_lanes.proofs.lanes.series_lanes.Invariants.{Left}
use Rattle.number_exp_lanes.proofs.lanes.series_lanes.Goals as goal

step : (r p q : List Float) (i : ℕ) → 0 < i → q ≡ tab 16 (λ l. term (get_or r l nan) (get_or p l nan) (of_int binary64 (pos i))) → Left r p i → Left r q (i - 1)
step r p q i h e g l k =
    let f : ℕ → Float = λ l. term (get_or r l nan) (get_or p l nan) (of_int binary64 (pos i)) in
    ap (λ (t : List Float). series (get_or r l nan) (i - 1) (get_or t l nan)) e
    ∙ ap (series (get_or r l nan) (i - 1)) (get_or-tab 16 l f nan k)
    ∙ series-step (get_or r l nan) i (get_or p l nan) h
    ∙ g l k

pub loop-i-init : goal.loop-i-init
loop-i-init c = (omega arith, simp length-replicate, λ l h. ap (series (get_or c.args.r l nan) 10) (get_or-replicate 16 l one64 nan h))

pub loop-i-preserved : goal.loop-i-preserved
loop-i-preserved c =
    let r = c.args.r in
    let i : ℕ = c.loop-i.i - 1 in
    let e : c.add_term-next.result ≡ tab 16 (λ l. term (get_or r l nan) (get_or c.loop-i.p l nan) (of_int binary64 (pos (c.loop-i.i - 1)))) = rw c.from.ensures at c.add_term-next.ensures in
    (omega arith, ap length c.add_term-next.ensures ∙ length-tab 16 _, step r c.loop-i.p _ i (omega arith) e c.loop-i.invariant.2)

pub returns : goal.returns
returns c =
    let r = c.args.r in
    sym (tab-self c.loop-i.p 16 nan c.loop-i.invariant.1)
    ∙ tab-ext 16 (λ i. get_or c.loop-i.p i nan) (λ i. series (get_or r i nan) 10 one64) (λ i h. sym (series-end (get_or r i nan) (get_or c.loop-i.p i nan) (c.loop-i.i - 1) (omega arith)) ∙ c.loop-i.invariant.2 i h)
