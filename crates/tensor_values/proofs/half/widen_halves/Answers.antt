-- `tensor_values::half::widen_halves` meets its contract. Assumes nothing.
use mathlib.Core.Path.{◌≡◌, refl, ap, ◌∙◌}
use mathlib.Core.List.{List}
use Prim.Native.Nat.{ℕ, ◌/◌, ◌^◌}
use native.Mathlib.Omega.{arith}
use lib.ListN.{length, get_or, length-set}
use Rattle.buffers.specs.Rows.{tab}
use Rattle.buffers.specs.Region.{put}
use Rattle.buffers.specs.inner.Apart.{after}
use Rattle.buffers.proofs.Regions.{get_or-put}
use Rattle.buffers.proofs.Lists.{length-tab, tab-step-0, tab-all}
use Rattle.number_bf16_half_root.specs.Half.{half}
use Rattle.tensor_values.proofs.half.widen_halves.Goals as goal

pub loop-i-init : goal.loop-i-init
unfolding put tab
loop-i-init c = (omega arith, refl, refl)

pub loop-i-preserved : goal.loop-i-preserved
loop-i-preserved c =
    let s = c.args.out.now in
    let F : ℕ → ℕ = λ k. half (get_or s k 0 / 2 ^ 16) in
    let same : get_or c.loop-i.out c.loop-i.i 0 ≡ get_or s c.loop-i.i 0 = ap (λ (t : List ℕ). get_or t c.loop-i.i 0) c.loop-i.invariant.2 ∙ get_or-put s 0 (tab c.loop-i.i F) c.loop-i.i 0 (rw (length-tab c.loop-i.i F) (after (omega arith))) in
    (omega arith, simp length-set c.loop-i.invariant.1, tab-step-0 s c.loop-i.out c.loop-i.i F c.widen_half.result c.loop-i.invariant.2 (c.widen_half.ensures ∙ ap (λ (w : ℕ). half (w / 2 ^ 16)) same))

pub shape_of-out : goal.shape_of-out
shape_of-out c = c.loop-i.invariant.1

pub returns : goal.returns
returns c =
    let s = c.args.out.now in
    tab-all s c.loop-i.out (length s) c.loop-i.i (λ k. half (get_or s k 0 / 2 ^ 16)) refl c.loop-i.invariant.0 (omega arith) c.loop-i.invariant.2
