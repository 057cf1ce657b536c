-- `picture_view::patch_bytes` meets its contract. The invariant: the channels passed are written. Assumes nothing.
use mathlib.Core.Path.{◌≡◌, ap, ◌∙◌}
use Prim.Native.Nat.{ℕ, ◌+◌, ◌*◌, ◌≤◌}
use native.Mathlib.Omega.{arith}
use borrow.Author.Rules.{rules}
use Rattle.buffers.specs.Rows.{rows}
use Rattle.buffers.specs.Region.{put}
use Rattle.buffers.proofs.Lists.{fit, length-tab, rows_step}
use Rattle.picture_samples.specs.Samples.{entry}
use Rattle.picture_limits.proofs.Places.{turn}
use Rattle.picture_spot.specs.inner.Spot.{spotted}
use Rattle.picture_view.specs.inner.Rows.{run_by}
use Rattle.picture_view.proofs.patch_bytes.Goals as goal

pub loop-c-init : goal.loop-c-init
unfolding put rows
loop-c-init c = search rules

pub overflow_add-from : goal.overflow_add-from
overflow_add-from c =
    let room : c.loop-c.c * c.args.n + c.args.n ≤ 3 * c.args.n = fit c.args.n c.loop-c-test.true in
    omega (arith, room)

pub run_bytes-requires : goal.run_bytes-requires
run_bytes-requires c =
    let room : c.loop-c.c * c.args.n + c.args.n ≤ 3 * c.args.n = fit c.args.n c.loop-c-test.true in
    let r = room in
    (c.loop-c-test.true, omega arith, omega arith, c.requires.3)

pub overflow_add-o : goal.overflow_add-o
overflow_add-o c =
    let room : c.loop-c.c * c.args.n + c.args.n ≤ 3 * c.args.n = fit c.args.n c.loop-c-test.true in
    omega (arith, room)

pub loop-c-preserved : goal.loop-c-preserved
loop-c-preserved c =
    let g = spotted c.args.w (entry c.args.t.now) in
    let e : c.args.from + c.loop-c.o ≡ c.args.from + c.loop-c.c * c.args.n = omega (arith, c.loop-c.invariant.1) in (
      omega arith,
      omega (arith, turn c.loop-c.c c.args.n),
      c.run_bytes.auto.bytes ∙ c.loop-c.invariant.2,
      rows_step (λ i. run_by g i c.args.n c.args.patches.now (c.args.from + i * c.args.n)) c.args.n (λ i. length-tab c.args.n _) c.args.bytes.now c.loop-c.bytes _ 0 c.loop-c.o c.loop-c.c c.loop-c.invariant.3 c.loop-c.invariant.1
          (c.run_bytes.ensures ∙ ap (λ (k : ℕ). put c.loop-c.bytes c.loop-c.o (run_by g c.loop-c.c c.args.n c.args.patches.now k)) e),
    )

pub shape_of-bytes : goal.shape_of-bytes
shape_of-bytes c = c.loop-c.invariant.2

pub returns : goal.returns
returns c =
    let e : c.loop-c.c ≡ 3 = omega arith in
    c.loop-c.invariant.3 ∙ ap (λ (n : ℕ). put c.args.bytes.now 0 (rows n (λ i. run_by (spotted c.args.w (entry c.args.t.now)) i c.args.n c.args.patches.now (c.args.from + i * c.args.n)))) e
