-- `picture_salvage::list_runs` meets its contract. The invariant: the runs passed are listed. Assumes nothing.
use mathlib.Core.Path.{◌≡◌, refl, sym, ap, ◌∙◌}
use mathlib.Core.List.{List}
use Prim.Native.Nat.{ℕ, ◌+◌, ◌*◌, ◌/◌, ◌%◌, ◌≤◌, ◌<◌}
use native.Mathlib.Nat.{zero-add}
use native.Mathlib.Omega.{arith}
use lib.ListN.{length, length-replicate}
use Rattle.buffers.specs.Rows.{rows, count}
use Rattle.buffers.specs.Region.{put}
use Rattle.buffers.proofs.Lists.{fit}
use Rattle.buffers.proofs.Counts.{put-more}
use Rattle.picture_limits.proofs.Places.{square}
use Rattle.picture_samples.specs.Samples.{entry}
use Rattle.picture_salvage.specs.inner.Loops.{none_at, bad_in, bad_run, entries_by, all_entries}
use Rattle.picture_salvage.proofs.Salvages.{runs-step, runs-mono, length-all, none-count, none-listed}
use Rattle.picture_salvage.proofs.list_runs.Goals as goal

-- run r lies inside, and its places in a patch
record Sizes (p r len : ℕ) : Type 0 where
  small : p * p ≤ 1024
  inside : r * (p * p) + p * p ≤ len
  place : r % 3 * (p * p) + p * p ≤ 3 * (p * p)

pub overflow_mul-n : goal.overflow_mul-n
overflow_mul-n c = omega (arith, square c.args.p c.requires.0)

pub loop-r-init : goal.loop-r-init
unfolding bad_run put rows
loop-r-init c = (omega arith, omega arith, refl, refl, simp length-replicate)

pub overflow_mul-r : goal.overflow_mul-r
overflow_mul-r c =
    let sizes : let a = c.args in Sizes c.args.p c.loop-r.r (length c.args.bits.now) = let a = c.args in
    let h : c.loop-r.r % 3 < 3 = omega arith in
    record {
      small = square c.args.p c.requires.0;
      inside = omega (arith, fit (c.args.p * c.args.p) c.loop-r-test.true, c.requires.2);
      place = fit (c.args.p * c.args.p) h;
    } in
    omega (arith, sizes.inside, c.well_formed)

pub slice_bounds-find_run-end : goal.slice_bounds-find_run-end
slice_bounds-find_run-end c = sym c.loop-r.invariant.4

pub find_run-requires : goal.find_run-requires
find_run-requires c =
    let sizes : let a = c.args in Sizes c.args.p c.loop-r.r (length c.args.bits.now) = let s = c.before.before.before.before.before in
    let a = c.args in
    let h : c.loop-r.r % 3 < 3 = omega arith in
    record {
      small = square c.args.p c.requires.0;
      inside = omega (arith, fit (c.args.p * c.args.p) c.loop-r-test.true, c.requires.2);
      place = fit (c.args.p * c.args.p) h;
    } in
    let s = c.before.before.before.before.before in
    let z = sizes in
    let h : c.loop-r.r % 3 < 3 = omega arith in
    (h, z.inside, omega (arith, c.loop-r.invariant.4, z.small), c.requires.4)

pub overflow_mul-r-in-loop-r : goal.overflow_mul-r-in-loop-r
overflow_mul-r-in-loop-r c =
    let sizes : let a = c.args in Sizes c.args.p c.loop-r.r (length c.args.bits.now) = let a = c.args in
    let h : c.loop-r.r % 3 < 3 = omega arith in
    record {
      small = square c.args.p c.requires.0;
      inside = omega (arith, fit (c.args.p * c.args.p) c.loop-r-test.true, c.requires.2);
      place = fit (c.args.p * c.args.p) h;
    } in
    let z = sizes in omega (arith, z.inside, c.well_formed)

pub overflow_mul-c : goal.overflow_mul-c
overflow_mul-c c =
    let sizes : let a = c.args in Sizes c.args.p c.loop-r.r (length c.args.bits.now) = let a = c.args in
    let h : c.loop-r.r % 3 < 3 = omega arith in
    record {
      small = square c.args.p c.requires.0;
      inside = omega (arith, fit (c.args.p * c.args.p) c.loop-r-test.true, c.requires.2);
      place = fit (c.args.p * c.args.p) h;
    } in
    let z = sizes in omega (arith, z.place, z.small)

pub slice_bounds-list_run-end : goal.slice_bounds-list_run-end
slice_bounds-list_run-end c =
    let long : length c.find_run.new.found ≡ 1024 = c.find_run.auto.found ∙ c.loop-r.invariant.4 in
    sym (long)

pub list_run-e-requires : goal.list_run-e-requires
list_run-e-requires c =
    let sizes : let a = c.args in Sizes c.args.p c.loop-r.r (length c.args.bits.now) = let s = c.before.before.before.before.before.before.before.before.before in
    let a = c.args in
    let h : c.loop-r.r % 3 < 3 = omega arith in
    record {
      small = square c.args.p c.requires.0;
      inside = omega (arith, fit (c.args.p * c.args.p) c.loop-r-test.true, c.requires.2);
      place = fit (c.args.p * c.args.p) h;
    } in
    let counted : let a = c.args in let r = c.loop-r.r in let k = entry c.args.t.now in
    bad_run k c.args.p c.args.bits.now r + count (c.args.p * c.args.p) (bad_in k c.args.bits.now (r * (c.args.p * c.args.p)) (r % 3)) ≡ bad_run k c.args.p c.args.bits.now (r + 1) = let a = c.args in runs-step (entry c.args.t.now) c.args.p c.args.bits.now c.loop-r.r _ _ refl refl in
    let long : length c.find_run.new.found ≡ 1024 = c.find_run.auto.found ∙ c.loop-r.invariant.4 in
    let none : let a = c.args in let r = c.loop-r.r in let n = c.args.p * c.args.p in
    (count n (none_at c.find_run.new.found) ≡ count n (bad_in (entry c.args.t.now) c.args.bits.now (r * n) (r % 3)))
    × (entries_by (none_at c.find_run.new.found) c.args.bits.now (r * n) (r / 3) (r % 3 * n) n ≡ entries_by (bad_in (entry c.args.t.now) c.args.bits.now (r * n) (r % 3)) c.args.bits.now (r * n) (r / 3) (r % 3 * n) n) = let a = c.args in
    let l = c.loop-r in
    let z = sizes in
    let n = c.args.p * c.args.p in
    let h : n ≤ length c.loop-r.found = omega (arith, c.loop-r.invariant.4, z.small) in
    let e = c.find_run.ensures in
    (none-count (entry c.args.t.now) c.args.bits.now (c.loop-r.r * n) (c.loop-r.r % 3) n c.loop-r.found _ h e, none-listed (entry c.args.t.now) c.args.bits.now (c.loop-r.r * n) (c.loop-r.r % 3) n c.loop-r.found _ h e (c.loop-r.r / 3) (c.loop-r.r % 3 * n)) in
    let s = c.before.before.before.before.before.before.before.before.before in
    let a = c.args in
    let l = c.loop-r in
    let z = sizes in
    let u : c.loop-r.r + 1 ≤ c.args.m = omega (arith, c.loop-r-test.true) in (
      z.inside,
      omega (arith, long, z.small),
      omega (arith, c.loop-r-test.true, c.requires.1),
      omega (arith, z.place, z.small),
      omega (arith, c.loop-r.invariant.1, c.loop-r.invariant.2, counted, none.0, runs-mono (entry c.args.t.now) c.args.p c.args.bits.now (c.loop-r.r + 1) c.args.m u, c.requires.3),
    )

pub loop-r-preserved : goal.loop-r-preserved
loop-r-preserved c =
    let counted : let a = c.args in let r = c.loop-r.r in let k = entry c.args.t.now in
    bad_run k c.args.p c.args.bits.now r + count (c.args.p * c.args.p) (bad_in k c.args.bits.now (r * (c.args.p * c.args.p)) (r % 3)) ≡ bad_run k c.args.p c.args.bits.now (r + 1) = let a = c.args in runs-step (entry c.args.t.now) c.args.p c.args.bits.now c.loop-r.r _ _ refl refl in
    let long : length c.find_run.new.found ≡ 1024 = c.find_run.auto.found ∙ c.loop-r.invariant.4 in
    let sizes : let a = c.args in Sizes c.args.p c.loop-r.r (length c.args.bits.now) = let a = c.args in
    let h : c.loop-r.r % 3 < 3 = omega arith in
    record {
      small = square c.args.p c.requires.0;
      inside = omega (arith, fit (c.args.p * c.args.p) c.loop-r-test.true, c.requires.2);
      place = fit (c.args.p * c.args.p) h;
    } in
    let none : let a = c.args in let r = c.loop-r.r in let n = c.args.p * c.args.p in
    (count n (none_at c.find_run.new.found) ≡ count n (bad_in (entry c.args.t.now) c.args.bits.now (r * n) (r % 3)))
    × (entries_by (none_at c.find_run.new.found) c.args.bits.now (r * n) (r / 3) (r % 3 * n) n ≡ entries_by (bad_in (entry c.args.t.now) c.args.bits.now (r * n) (r % 3)) c.args.bits.now (r * n) (r / 3) (r % 3 * n) n) = let a = c.args in
    let l = c.loop-r in
    let z = sizes in
    let n = c.args.p * c.args.p in
    let h : n ≤ length c.loop-r.found = omega (arith, c.loop-r.invariant.4, z.small) in
    let e = c.find_run.ensures in
    (none-count (entry c.args.t.now) c.args.bits.now (c.loop-r.r * n) (c.loop-r.r % 3) n c.loop-r.found _ h e, none-listed (entry c.args.t.now) c.args.bits.now (c.loop-r.r * n) (c.loop-r.r % 3) n c.loop-r.found _ h e (c.loop-r.r / 3) (c.loop-r.r % 3 * n)) in
    let a = c.args in
    let l = c.loop-r in
    let k = entry c.args.t.now in
    let n = c.args.p * c.args.p in
    let g : ℕ → List ℕ = λ r. entries_by (bad_in k c.args.bits.now (r * n) (r % 3)) c.args.bits.now (r * n) (r / 3) (r % 3 * n) n in (
      omega arith,
      omega (arith, c.list_run-e.ensures.answer, none.0, c.loop-r.invariant.1, counted),
      c.list_run-e.auto.list ∙ c.loop-r.invariant.2,
      c.list_run-e.ensures.output
          ∙ ap (put c.loop-r.list c.loop-r.e) none.1
          ∙ ap (λ (x : List ℕ). put x c.loop-r.e (g c.loop-r.r)) c.loop-r.invariant.3
          ∙ put-more c.args.list.now 0 c.loop-r.r g c.loop-r.e (c.loop-r.invariant.1 ∙ sym (length-all k c.args.p c.args.bits.now c.loop-r.r) ∙ sym (zero-add (length (all_entries k c.args.p c.args.bits.now c.loop-r.r)))),
      long,
    )

pub shape_of-list : goal.shape_of-list
shape_of-list c = c.loop-r.invariant.2

pub returns : goal.returns
returns c =
    let h : c.loop-r.r ≡ c.args.m = omega arith in
    c.loop-r.invariant.3 ∙ ap (λ (n : ℕ). put c.args.list.now 0 (all_entries (entry c.args.t.now) c.args.p c.args.bits.now n)) h
