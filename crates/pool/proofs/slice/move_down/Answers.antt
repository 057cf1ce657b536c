-- `pool::slice::move_down` meets its contract: what is read lies behind what is written. Assumes nothing.
use mathlib.Core.Path.{◌≡◌, refl, ap, ◌∙◌}
use mathlib.Core.List.{List}
use Prim.Native.Nat.{ℕ, ◌+◌, ◌≤◌}
use native.Mathlib.Omega.{arith}
use lib.ListN.{length, get_or, set, length-set}
use lib.Ieee.{Float, nan}
use Rattle.buffers.specs.Rows.{tab}
use Rattle.buffers.specs.Region.{region, put}
use Rattle.buffers.specs.inner.Apart.{after}
use Rattle.buffers.proofs.Regions.{length-region}
use Rattle.buffers.proofs.Lists.{tab-self}
use Rattle.buffers.proofs.Steps.{elem-step}
use Rattle.pool.proofs.slice.move_down.Goals as goal

moved : (s t : List Float) (from to n i : ℕ) → to ≤ from → from + n ≤ length s → i ≤ n → n ≤ i → t ≡ put s to (tab i (λ j. get_or (region s from n) j nan)) → t ≡ put s to (region s from n)
moved s t from to n i l m a b e =
    let g : i ≡ n = omega arith in
    e ∙ ap (λ (k : ℕ). put s to (tab k (λ j. get_or (region s from n) j nan))) g
    ∙ ap (put s to) (tab-self (region s from n) n nan (length-region s from n m))

pub loop-i-init : goal.loop-i-init
unfolding put tab
loop-i-init c = (omega arith, refl, refl)

pub loop-i-preserved : goal.loop-i-preserved
loop-i-preserved c = (
  omega arith,
  simp length-set c.loop-i.invariant.1,
  ap (λ (t : List Float). set t (c.args.to + c.loop-i.i) (get_or t (c.args.from + c.loop-i.i) nan)) c.loop-i.invariant.2
      ∙ elem-step c.args.s.now c.args.to c.args.from c.args.n c.loop-i.i nan (λ j x y. y) c.loop-i-test.true (after (omega arith)),
)

pub returns : goal.returns
returns c =
    moved c.args.s.now c.loop-i.s c.args.from c.args.to c.args.n c.loop-i.i c.requires.0 c.requires.1 c.loop-i.invariant.0 c.loop-i-test.false c.loop-i.invariant.2
