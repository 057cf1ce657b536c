-- `picture_salvage::salvage_line` meets its contract. The invariant: row i of the bits passed is written. Assumes nothing.
use mathlib.Core.Path.{◌≡◌, ap, ◌∙◌}
use Prim.Native.Nat.{ℕ, ◌+◌, ◌*◌, ◌≤◌}
use native.Mathlib.Omega.{arith}
use borrow.Author.Rules.{rules}
use Rattle.buffers.specs.Rows.{rows}
use Rattle.buffers.specs.Region.{put}
use Rattle.buffers.proofs.Lists.{fit, rows_step}
use Rattle.picture_samples.specs.Samples.{entry}
use Rattle.picture_salvage.specs.inner.Loops.{saved_run}
use Rattle.picture_limits.specs.Places.{patch_floats}
use Rattle.picture_limits.proofs.Places.{turn, square}
use Rattle.picture_salvage.proofs.Salvages.{length-saved_run}
use Rattle.picture_salvage.proofs.salvage_line.Goals as goal

pub overflow_mul-m : goal.overflow_mul-m
overflow_mul-m c =
    let small : let a = c.args in (c.args.p * c.args.p ≤ 1024) × (c.args.i * c.args.p + c.args.p ≤ c.args.p * c.args.p) = let a = c.args in (square c.args.p c.requires.0, fit c.args.p c.requires.1) in
    omega (arith, small)

pub overflow_mul-m-2 : goal.overflow_mul-m-2
overflow_mul-m-2 c =
    let small : let a = c.args in (c.args.p * c.args.p ≤ 1024) × (c.args.i * c.args.p + c.args.p ≤ c.args.p * c.args.p) = let a = c.args in (square c.args.p c.requires.0, fit c.args.p c.requires.1) in
    omega (arith, small)

pub overflow_mul-d : goal.overflow_mul-d
overflow_mul-d c =
    let small : let a = c.args in (c.args.p * c.args.p ≤ 1024) × (c.args.i * c.args.p + c.args.p ≤ c.args.p * c.args.p) = let a = c.args in (square c.args.p c.requires.0, fit c.args.p c.requires.1) in
    omega (arith, small)

pub loop-b-init : goal.loop-b-init
unfolding put rows
loop-b-init c = search rules

pub overflow_add-k : goal.overflow_add-k
overflow_add-k c =
    let small : let a = c.args in (c.args.p * c.args.p ≤ 1024) × (c.args.i * c.args.p + c.args.p ≤ c.args.p * c.args.p) = let a = c.args in (square c.args.p c.requires.0, fit c.args.p c.requires.1) in
    let room : let a = c.args in let b = c.loop-b.b in (b * patch_floats c.args.p + patch_floats c.args.p ≤ c.args.gw * patch_floats c.args.p) × (b * (c.args.p * 3) + c.args.p * 3 ≤ c.args.gw * (c.args.p * 3)) = let a = c.args in let t = c.loop-b-test.true in (fit (patch_floats c.args.p) t, fit (c.args.p * 3) t) in
    omega (arith, small, room)

pub salvage_run-requires : goal.salvage_run-requires
salvage_run-requires c =
    let small : let a = c.args in (c.args.p * c.args.p ≤ 1024) × (c.args.i * c.args.p + c.args.p ≤ c.args.p * c.args.p) = let a = c.args in (square c.args.p c.requires.0, fit c.args.p c.requires.1) in
    let room : let a = c.args in let b = c.loop-b.b in (b * patch_floats c.args.p + patch_floats c.args.p ≤ c.args.gw * patch_floats c.args.p) × (b * (c.args.p * 3) + c.args.p * 3 ≤ c.args.gw * (c.args.p * 3)) = let a = c.args in let t = c.loop-b-test.true in (fit (patch_floats c.args.p) t, fit (c.args.p * 3) t) in
    let k = small in
    let r = room in
    (omega arith, omega arith, omega arith, c.requires.4)

pub overflow_add-o : goal.overflow_add-o
overflow_add-o c =
    let room : let a = c.args in let b = c.loop-b.b in (b * patch_floats c.args.p + patch_floats c.args.p ≤ c.args.gw * patch_floats c.args.p) × (b * (c.args.p * 3) + c.args.p * 3 ≤ c.args.gw * (c.args.p * 3)) = let a = c.args in let t = c.loop-b-test.true in (fit (patch_floats c.args.p) t, fit (c.args.p * 3) t) in
    omega (arith, room)

pub overflow_add-k-in-loop-b : goal.overflow_add-k-in-loop-b
overflow_add-k-in-loop-b c =
    let room : let a = c.args in let b = c.loop-b.b in (b * patch_floats c.args.p + patch_floats c.args.p ≤ c.args.gw * patch_floats c.args.p) × (b * (c.args.p * 3) + c.args.p * 3 ≤ c.args.gw * (c.args.p * 3)) = let a = c.args in let t = c.loop-b-test.true in (fit (patch_floats c.args.p) t, fit (c.args.p * 3) t) in
    omega (arith, room)

pub loop-b-preserved : goal.loop-b-preserved
loop-b-preserved c = (
  omega arith,
  omega (arith, turn c.loop-b.b (c.args.p * 3)),
  omega (arith, turn c.loop-b.b (patch_floats c.args.p)),
  c.salvage_run.auto.out ∙ c.loop-b.invariant.3,
  rows_step _ (c.args.p * 3) (λ j. length-saved_run (entry c.args.t.now) c.args.p c.args.bits.now (c.args.from + j * patch_floats c.args.p + c.args.i * c.args.p)) c.args.out.now c.loop-b.out _ c.args.at c.loop-b.o c.loop-b.b c.loop-b.invariant.4 c.loop-b.invariant.1
      (c.salvage_run.ensures ∙ ap (λ (k : ℕ). put c.loop-b.out c.loop-b.o (saved_run (entry c.args.t.now) c.args.p c.args.bits.now (k + c.args.i * c.args.p))) c.loop-b.invariant.2),
)

pub shape_of-out : goal.shape_of-out
shape_of-out c = c.loop-b.invariant.3

pub returns : goal.returns
returns c =
    let e : c.loop-b.b ≡ c.args.gw = omega arith in
    c.loop-b.invariant.4 ∙ ap (λ (n : ℕ). put c.args.out.now c.args.at (rows n (λ j. saved_run (entry c.args.t.now) c.args.p c.args.bits.now (c.args.from + j * patch_floats c.args.p + c.args.i * c.args.p)))) e
