-- `buffers::copy` meets its contract. Assumes nothing.
use mathlib.Core.Path.{◌≡◌, refl, sym, ap, ◌∙◌}
use mathlib.Core.List.{List}
use Prim.Native.Nat.{ℕ, ◌≤◌, ◌<◌}
use native.Mathlib.Omega.{arith}
use borrow.Author.Tests.{le-leb, lt-leb}
use lib.ListN.{length, get_or, length-set}
use lib.Ieee.{Float, nan}
use Rattle.buffers.specs.Rows.{tab}
use Rattle.buffers.specs.Region.{put, copied}
use Rattle.buffers.proofs.Regions.{put-over}
use Rattle.buffers.proofs.Lists.{tab-self, tab-step-0}
use Rattle.buffers.proofs.copy.Goals as goal

pub loop-i-init : goal.loop-i-init
unfolding put tab
loop-i-init c = (refl, refl)

pub loop-i-preserved : goal.loop-i-preserved
loop-i-preserved c =
    let x = c.args.x.now in
    (simp length-set c.loop-i.invariant.0, tab-step-0 _ c.loop-i.out c.loop-i.i (λ k. get_or x k nan) (get_or x c.loop-i.i nan) c.loop-i.invariant.1 refl)

fits : (x out : List Float) (i : ℕ) → i ≡ length x → length x ≤ length out → put out 0 (tab i (λ k. get_or x k nan)) ≡ copied x out
unfolding copied
fits x out i e h = ap (put out 0) (tab-self x i nan (sym e)) ∙ put-over out x h ∙ sym (simp (le-leb (length x) (length out) h))

short : (x out : List Float) → length out < length x → out ≡ copied x out
unfolding copied
short x out h = sym (simp (lt-leb (length x) (length out) h))

pub returns-after-loop-i : goal.returns-after-loop-i
returns-after-loop-i c =
    c.loop-i.invariant.1 ∙ fits c.args.x.now c.args.out.now c.loop-i.i (omega arith) c.if-x-out.true

pub returns-else-x-out : goal.returns-else-x-out
returns-else-x-out c = short c.args.x.now c.args.out.now c.if-x-out.false
