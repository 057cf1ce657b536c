-- `picture_salvage::count_runs` meets its contract. Assumes nothing.
use mathlib.Core.Path.{◌≡◌, refl, sym, ap, ◌∙◌}
use Prim.Native.Nat.{ℕ, ◌+◌, ◌*◌, ◌%◌, ◌≤◌, ◌<◌}
use native.Mathlib.Omega.{arith}
use lib.ListN.{length, length-replicate}
use Rattle.buffers.specs.Rows.{count}
use Rattle.buffers.proofs.Lists.{fit}
use Rattle.buffers.proofs.Counts.{count-le}
use Rattle.picture_limits.proofs.Places.{turn, square}
use Rattle.picture_samples.specs.Samples.{entry}
use Rattle.picture_salvage.specs.inner.Loops.{bad_in, bad_run}
use Rattle.picture_salvage.proofs.Salvages.{runs-le, runs-step, none-count}
use Rattle.picture_salvage.proofs.count_runs.Goals as goal

pub overflow_mul-n : goal.overflow_mul-n
overflow_mul-n c = omega (arith, square c.args.p c.requires.0)

pub loop-r-init : goal.loop-r-init
unfolding bad_run
loop-r-init c = (omega arith, omega arith, refl, simp length-replicate)

pub slice_bounds-find_run-end : goal.slice_bounds-find_run-end
slice_bounds-find_run-end c = sym c.loop-r.invariant.3

pub find_run-requires : goal.find_run-requires
find_run-requires c =
    let room : let a = c.args in c.loop-r.r * (c.args.p * c.args.p) + c.args.p * c.args.p ≤ length c.args.bits.now = let s = c.before.before.before.before in
    let a = c.args in
    omega (arith, fit (c.args.p * c.args.p) c.loop-r-test.true, c.requires.1) in
    let s = c.before.before.before.before in
    let h : c.loop-r.r % 3 < 3 = omega arith in
    (h, omega (arith, room, c.loop-r.invariant.1), omega (arith, c.loop-r.invariant.3, square c.args.p c.requires.0), c.requires.2)

pub slice_bounds-count_none-end : goal.slice_bounds-count_none-end
slice_bounds-count_none-end c =
    let long : length c.find_run.new.found ≡ 1024 = c.find_run.auto.found ∙ c.loop-r.invariant.3 in
    sym (long)

pub count_none-bad-requires : goal.count_none-bad-requires
count_none-bad-requires c =
    let long : length c.find_run.new.found ≡ 1024 = c.find_run.auto.found ∙ c.loop-r.invariant.3 in
    omega (arith, long, square c.args.p c.requires.0)

pub overflow_add-bad : goal.overflow_add-bad
overflow_add-bad c =
    let room : let a = c.args in c.loop-r.r * (c.args.p * c.args.p) + c.args.p * c.args.p ≤ length c.args.bits.now = let s = c.before.before.before.before.before.before.before.before in
    let a = c.args in
    omega (arith, fit (c.args.p * c.args.p) c.loop-r-test.true, c.requires.1) in
    let told : let a = c.args in let l = c.loop-r in
    c.count_none-bad.result ≡ count (c.args.p * c.args.p) (bad_in (entry c.args.t.now) c.args.bits.now c.loop-r.o (c.loop-r.r % 3)) = let s = c.before.before.before.before.before.before.before.before in
    let a = c.args in
    let l = c.loop-r in
    c.count_none-bad.ensures ∙ none-count (entry c.args.t.now) c.args.bits.now c.loop-r.o (c.loop-r.r % 3) (c.args.p * c.args.p) c.loop-r.found _ (omega (arith, c.loop-r.invariant.3, square c.args.p c.requires.0)) c.find_run.ensures in
    let s = c.before.before.before.before.before.before.before.before in
    let a = c.args in
    let l = c.loop-r in
    omega (arith, c.well_formed, room, c.loop-r.invariant.2, runs-le (entry c.args.t.now) c.args.p c.args.bits.now c.loop-r.r, told, count-le (c.args.p * c.args.p) (bad_in (entry c.args.t.now) c.args.bits.now c.loop-r.o (c.loop-r.r % 3)))

pub overflow_add-o : goal.overflow_add-o
overflow_add-o c =
    let room : let a = c.args in c.loop-r.r * (c.args.p * c.args.p) + c.args.p * c.args.p ≤ length c.args.bits.now = let s = c.before.before.before.before.before.before.before.before in
    let a = c.args in
    omega (arith, fit (c.args.p * c.args.p) c.loop-r-test.true, c.requires.1) in
    let s = c.before.before.before.before.before.before.before.before in omega (arith, c.well_formed, room, c.loop-r.invariant.1)

pub loop-r-preserved : goal.loop-r-preserved
loop-r-preserved c =
    let long : length c.find_run.new.found ≡ 1024 = c.find_run.auto.found ∙ c.loop-r.invariant.3 in
    let told : let a = c.args in let l = c.loop-r in
    c.count_none-bad.result ≡ count (c.args.p * c.args.p) (bad_in (entry c.args.t.now) c.args.bits.now c.loop-r.o (c.loop-r.r % 3)) = let a = c.args in
    let l = c.loop-r in
    c.count_none-bad.ensures ∙ none-count (entry c.args.t.now) c.args.bits.now c.loop-r.o (c.loop-r.r % 3) (c.args.p * c.args.p) c.loop-r.found _ (omega (arith, c.loop-r.invariant.3, square c.args.p c.requires.0)) c.find_run.ensures in
    let a = c.args in
    let l = c.loop-r in (
      omega arith,
      omega (arith, turn c.loop-r.r (c.args.p * c.args.p), c.loop-r.invariant.1),
      runs-step (entry c.args.t.now) c.args.p c.args.bits.now c.loop-r.r c.loop-r.bad _ c.loop-r.invariant.2 (told ∙ ap (λ (o : ℕ). count (c.args.p * c.args.p) (bad_in (entry c.args.t.now) c.args.bits.now o (c.loop-r.r % 3))) c.loop-r.invariant.1),
      long,
    )

pub returns : goal.returns
returns c =
    let e : c.loop-r.r ≡ c.args.m = omega arith in
    c.loop-r.invariant.2 ∙ ap (bad_run (entry c.args.t.now) c.args.p c.args.bits.now) e
