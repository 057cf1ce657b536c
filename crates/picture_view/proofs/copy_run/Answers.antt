-- `picture_view::copy_run` meets its contract. The invariant: the pixels passed are written. Assumes nothing.
use mathlib.Core.Path.{◌≡◌, ap, ◌∙◌}
use mathlib.Core.List.{List}
use Prim.Native.Nat.{ℕ, ◌+◌, ◌*◌, ◌<◌}
use native.Mathlib.Omega.{arith}
use borrow.Author.Rules.{rules}
use lib.ListN.{length, get_or, set, length-set}
use Rattle.buffers.specs.Rows.{tab, rows}
use Rattle.buffers.specs.Region.{put}
use Rattle.buffers.proofs.Lists.{length-tab, rows_step}
use Rattle.picture_view.specs.inner.Rows.{pixels_of}
use Rattle.buffers.proofs.Regions.{put_three}
use Rattle.picture_view.proofs.copy_run.Goals as goal

pub loop-j-init : goal.loop-j-init
unfolding put rows
loop-j-init c = search rules

pub overflow_add-k : goal.overflow_add-k
overflow_add-k c =
    let inside : c.args.from + c.loop-j.j + 2 * c.args.m < length c.args.bytes.now = c.requires.0 c.loop-j.j c.loop-j-test.true in
    omega (arith, inside)

pub bounds-bytes-k : goal.bounds-bytes-k
bounds-bytes-k c =
    let inside : c.args.from + c.loop-j.j + 2 * c.args.m < length c.args.bytes.now = c.requires.0 c.loop-j.j c.loop-j-test.true in
    omega (arith, inside)

pub overflow_add-out : goal.overflow_add-out
overflow_add-out c =
    let inside : c.args.from + c.loop-j.j + 2 * c.args.m < length c.args.bytes.now = c.requires.0 c.loop-j.j c.loop-j-test.true in
    omega (arith, inside)

pub bounds-bytes-k-in-loop-j : goal.bounds-bytes-k-in-loop-j
bounds-bytes-k-in-loop-j c =
    let inside : c.args.from + c.loop-j.j + 2 * c.args.m < length c.args.bytes.now = c.requires.0 c.loop-j.j c.loop-j-test.true in
    omega (arith, inside)

pub bounds-out-o-in-loop-j : goal.bounds-out-o-in-loop-j
bounds-out-o-in-loop-j c = simp length-set (omega arith)

pub overflow_mul-out : goal.overflow_mul-out
overflow_mul-out c =
    let inside : c.args.from + c.loop-j.j + 2 * c.args.m < length c.args.bytes.now = c.requires.0 c.loop-j.j c.loop-j-test.true in
    omega (arith, inside)

pub overflow_add-out-in-loop-j-2 : goal.overflow_add-out-in-loop-j-2
overflow_add-out-in-loop-j-2 c =
    let inside : c.args.from + c.loop-j.j + 2 * c.args.m < length c.args.bytes.now = c.requires.0 c.loop-j.j c.loop-j-test.true in
    omega (arith, inside)

pub bounds-bytes-k-in-loop-j-2 : goal.bounds-bytes-k-in-loop-j-2
bounds-bytes-k-in-loop-j-2 c =
    let inside : c.args.from + c.loop-j.j + 2 * c.args.m < length c.args.bytes.now = c.requires.0 c.loop-j.j c.loop-j-test.true in
    omega (arith, inside)

pub bounds-out-o-in-loop-j-2 : goal.bounds-out-o-in-loop-j-2
bounds-out-o-in-loop-j-2 c = simp length-set (omega arith)

-- three stores are one write of three bytes
three-stores : (s : List ℕ) (at : ℕ) (f : ℕ → ℕ) → set (set (set s at (f 0)) (at + 1) (f 1)) (at + 2) (f 2) ≡ put s at (tab 3 f)
unfolding tab
three-stores s at f = put_three s at (f 0) (f 1) (f 2)

pub loop-j-preserved : goal.loop-j-preserved
loop-j-preserved c =
    let k = c.args.from + c.loop-j.j in
    let f : ℕ → ℕ = λ i. get_or c.args.bytes.now (k + i * c.args.m) 0 in
    let e₀ : k ≡ k + 0 * c.args.m = omega arith in
    let e₁ : k + c.args.m ≡ k + 1 * c.args.m = omega arith in
    let three : set (set (set c.loop-j.out c.loop-j.o (get_or c.args.bytes.now k 0)) (c.loop-j.o + 1) (get_or c.args.bytes.now (k + c.args.m) 0)) (c.loop-j.o + 2) (f 2) ≡ put c.loop-j.out c.loop-j.o (tab 3 f) =
    ap (λ (x : ℕ). set (set (set c.loop-j.out c.loop-j.o (get_or c.args.bytes.now x 0)) (c.loop-j.o + 1) (get_or c.args.bytes.now (k + c.args.m) 0)) (c.loop-j.o + 2) (f 2)) e₀
    ∙ ap (λ (x : ℕ). set (set (set c.loop-j.out c.loop-j.o (f 0)) (c.loop-j.o + 1) (get_or c.args.bytes.now x 0)) (c.loop-j.o + 2) (f 2)) e₁
    ∙ three-stores c.loop-j.out c.loop-j.o f in (
      omega arith,
      omega arith,
      simp length-set c.loop-j.invariant.2,
      rows_step (λ j. tab 3 (λ i. get_or c.args.bytes.now (c.args.from + j + i * c.args.m) 0)) 3 (λ j. length-tab 3 _) c.args.out.now c.loop-j.out _ c.args.at c.loop-j.o c.loop-j.j c.loop-j.invariant.3 c.loop-j.invariant.1 three,
    )

pub shape_of-out : goal.shape_of-out
shape_of-out c = c.loop-j.invariant.2

pub returns : goal.returns
returns c =
    let e : c.loop-j.j ≡ c.args.n = omega arith in
    c.loop-j.invariant.3 ∙ ap (λ (n : ℕ). put c.args.out.now c.args.at (pixels_of c.args.bytes.now c.args.m n c.args.from)) e
