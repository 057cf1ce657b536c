-- `marks::fill` meets its contract: x is the state after as many steps as values are written. Assumes nothing.
use Rattle.std.proofs.Common.{◌≡◌, ℕ, suc, ◌+◌, length, ap, ◌∙◌, add-one, arith, rules}
use Rattle.buffers.specs.Rows.{tab}
use Rattle.buffers.specs.Region.{put}
use Rattle.buffers.proofs.Lists.{length-tab, tab-step-0}
use Rattle.buffers.proofs.Regions.{put_all}
use Rattle.replay.specs.Marks.{next, seeded, stepped}
use Rattle.replay.proofs.marks.fill.Goals as goal

pub loop-cell-init : goal.loop-cell-init
unfolding stepped tab put
loop-cell-init g c = (search rules, search rules, λ f e. search rules)

pub loop-cell-preserved : goal.loop-cell-preserved
unfolding stepped
loop-cell-preserved g c =
    let i = c.loop-cell.cell-index in
    let e : c.step-x.result ≡ stepped (seeded c.args.seed) (suc c.loop-cell.cell-index) = c.step-x.ensures.0 ∙ ap next c.loop-cell.invariant.1 in (
      c.step-x.ensures.1,
      rw (add-one i) e,
      λ f m. tab-step-0 c.args.to.now c.loop-cell.to i (λ k. f (stepped (seeded c.args.seed) (suc k))) c.make.result (c.loop-cell.invariant.2 f m) (m _ _ c.step-x.ensures.1 c.make.ensures ∙ ap f e),
    )

pub returns : goal.returns
returns g c = λ f m.
    let e : c.loop-cell.cell-index ≡ length c.args.to.now = omega arith in
    let t = λ (k : ℕ). f (stepped (seeded c.args.seed) (suc k)) in
    c.loop-cell.invariant.2 f m ∙ rw e (put_all c.args.to.now (tab (length c.args.to.now) t) (length-tab _ _))
