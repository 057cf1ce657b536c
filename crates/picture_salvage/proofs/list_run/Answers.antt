-- `picture_salvage::list_run` meets its contract. The invariant: those passed of which no byte was found are listed. Assumes nothing.
use mathlib.Core.Path.{◌≡◌, refl, sym, ap, ◌∙◌}
use mathlib.Core.Bool.{Bool, true, false, cond}
use mathlib.Core.List.{[], ◌∷◌}
use mathlib.Core.Logic.{⊎_elim}
use Prim.Native.Nat.{ℕ, ◌+◌, ◌*◌, ◌≤◌}
use native.Mathlib.Nat.{add-zero}
use native.Mathlib.Omega.{arith}
use borrow.Author.Tests.{le-leb, lt-leb}
use lib.ListN.{length, get_or}
use Rattle.buffers.specs.Rows.{rows, count}
use Rattle.buffers.specs.Region.{put}
use Rattle.buffers.proofs.Regions.{length-put, put-nil}
use Rattle.buffers.proofs.Counts.{count-mono, count-step}
use Rattle.picture_salvage.specs.inner.Loops.{none_at, entries_by}
use Rattle.picture_salvage.proofs.Salvages.{list-step}
use Rattle.picture_salvage.proofs.list_run.Goals as goal

pub loop-k-init : goal.loop-k-init
unfolding put rows count
loop-k-init c = (omega arith, omega arith, refl, refl)

pub overflow_add-d : goal.overflow_add-d
overflow_add-d c = omega (arith, c.requires.3, c.loop-k-test.true)

pub overflow_add-at : goal.overflow_add-at
overflow_add-at c = omega (arith, c.requires.0, c.well_formed, c.loop-k-test.true)

pub offset_bounds-bits-at : goal.offset_bounds-bits-at
offset_bounds-bits-at c = omega (arith, c.requires.0, c.well_formed, c.loop-k-test.true)

pub bounds-bits-at : goal.bounds-bits-at
bounds-bits-at c = omega (arith, c.requires.0, c.loop-k-test.true)

pub list_one-requires : goal.list_one-requires
list_one-requires c =
    let room : let a = c.args in c.loop-k.e + 3 ≤ length c.args.list.now = let s = c.before.before.before.before.before.before.before.before.before in
    let a = c.args in
    let f : ℕ → Bool = none_at c.args.found.now in
    let z = count-step c.loop-k.k f (count c.loop-k.k f) 1 refl (sym (ap (λ (x : Bool). cond x 1 0) (le-leb 256 _ c.if-found-k-ge256.true))) in
    let h : c.loop-k.k + 1 ≤ c.args.n = omega (arith, c.loop-k-test.true) in
    omega (arith, c.loop-k.invariant.1, z, count-mono (c.loop-k.k + 1) c.args.n f h, c.requires.4) in
    let s = c.before.before.before.before.before.before.before.before.before in
    (omega (arith, room, c.loop-k.invariant.2), c.requires.2, omega (arith, c.requires.3, c.loop-k-test.true))

pub overflow_add-e : goal.overflow_add-e
overflow_add-e c =
    let room : let a = c.args in c.loop-k.e + 3 ≤ length c.args.list.now = let s = c.before.before.before.before.before.before.before.before.before.before.before.before in
    let a = c.args in
    let f : ℕ → Bool = none_at c.args.found.now in
    let z = count-step c.loop-k.k f (count c.loop-k.k f) 1 refl (sym (ap (λ (x : Bool). cond x 1 0) (le-leb 256 _ c.if-found-k-ge256.true))) in
    let h : c.loop-k.k + 1 ≤ c.args.n = omega (arith, c.loop-k-test.true) in
    omega (arith, c.loop-k.invariant.1, z, count-mono (c.loop-k.k + 1) c.args.n f h, c.requires.4) in
    let s = c.before.before.before.before.before.before.before.before.before.before.before.before in omega (arith, c.well_formed, room)

pub loop-k-preserved : goal.loop-k-preserved
loop-k-preserved c =
    let wrote : let a = c.args in let l = c.loop-k in
    (c.if-found-k-ge256.e ≡ c.args.o + count (c.loop-k.k + 1) (none_at c.args.found.now) * 3) × (c.if-found-k-ge256.list ≡ put c.args.list.now c.args.o (entries_by (none_at c.args.found.now) c.args.bits.now c.args.at c.args.q c.args.d (c.loop-k.k + 1))) = let a = c.args in
    let l = c.loop-k in
    let f : ℕ → Bool = none_at c.args.found.now in
    let step : (b : Bool) → f c.loop-k.k ≡ b → c.if-found-k-ge256.e ≡ c.loop-k.e + cond b 3 0 → c.if-found-k-ge256.list ≡ put c.loop-k.list c.loop-k.e (cond b (c.args.q ∷ (c.args.d + c.loop-k.k) ∷ get_or c.args.bits.now (c.args.at + c.loop-k.k) 0 ∷ []) [])
    → (c.if-found-k-ge256.e ≡ c.args.o + count (c.loop-k.k + 1) f * 3) × (c.if-found-k-ge256.list ≡ put c.args.list.now c.args.o (entries_by f c.args.bits.now c.args.at c.args.q c.args.d (c.loop-k.k + 1)))
    = λ b h x y. list-step f c.args.bits.now c.args.at c.args.q c.args.d c.args.list.now c.loop-k.list c.if-found-k-ge256.list c.args.o c.loop-k.e c.if-found-k-ge256.e c.loop-k.k b h c.loop-k.invariant.1 c.loop-k.invariant.3 x y in
    ⊎_elim
    (λ w. step true (le-leb 256 _ w.if-found-k-ge256.true) w.e-is (w.list-is ∙ w.list_one.ensures))
    (λ w. step false (lt-leb 256 _ w.if-found-k-ge256.false) (w.e-is ∙ sym (add-zero c.loop-k.e)) (w.list-is ∙ sym (put-nil c.loop-k.list c.loop-k.e)))
    c.if-found-k-ge256.branch-raw in
    let a = c.args in
    let z = wrote in
    (omega (arith, c.loop-k-test.true), z.0, ap length z.1 ∙ length-put c.args.list.now c.args.o _, z.1)

pub shape_of-list : goal.shape_of-list
shape_of-list c = c.loop-k.invariant.2

pub returns : goal.returns
returns c =
    let h : c.loop-k.k ≡ c.args.n = omega arith in record {
      answer = c.loop-k.invariant.1 ∙ ap (λ (n : ℕ). c.args.o + count n (none_at c.args.found.now) * 3) h;
      output = c.loop-k.invariant.3 ∙ ap (λ (n : ℕ). put c.args.list.now c.args.o (entries_by (none_at c.args.found.now) c.args.bits.now c.args.at c.args.q c.args.d n)) h;
    }
