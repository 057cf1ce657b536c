-- `picture_tiles::padding::zero_rows` meets its contract. The invariant: the rows passed have the padding asked for. Assumes nothing.
use mathlib.Core.Path.{◌≡◌, sym, ap, ◌∙◌}
use mathlib.Core.Bool.{true}
use Prim.Native.Nat.{ℕ, ◌*◌, ◌/◌, ◌≤◌, ◌<◌}
use native.Mathlib.Nat.{div-lt_iff_lt-mul, mul-le-mul_right}
use native.Mathlib.Omega.{arith}
use borrow.Author.Rules.{rules}
use borrow.Author.Tests.{not-true, not-false}
use Rattle.buffers.specs.Rows.{all}
use Rattle.buffers.proofs.Lists.{fit, all-step, all-fails}
use Rattle.picture_limits.specs.Places.{patch_floats}
use Rattle.picture_limits.proofs.Places.{times}
use Rattle.picture_samples.specs.Samples.{entry}
use Rattle.picture_tiles.specs.inner.Padding.{zero_row, zero_rows}
use Rattle.picture_tiles.proofs.padding.zero_rows.Goals as goal

pub overflow_mul-tall : goal.overflow_mul-tall
overflow_mul-tall c =
    let tall-high : c.args.gh * c.args.p ≤ 65536 = times c.args.gh c.args.p 2048 32 c.requires.2 c.requires.1 in
    omega (arith, tall-high)

pub loop-y-init : goal.loop-y-init
unfolding all
loop-y-init c = search rules

pub zero_row-requires : goal.zero_row-requires
zero_row-requires c =
    let tall-high : c.args.gh * c.args.p ≤ 65536 = times c.args.gh c.args.p 2048 32 c.requires.2 c.requires.1 in
    let y = c.loop-y.y in
    let h : y / c.args.p < c.args.gh = (div-lt_iff_lt-mul c.requires.0).1 c.loop-y-test.true in
    let r = mul-le-mul_right (patch_floats c.args.p) (fit c.args.gw h) in
    (c.requires.0, c.requires.1, c.requires.3, omega (arith, c.loop-y-test.true, tall-high), omega (arith, r, c.requires.4), c.requires.5)

pub returns-then-not-zero_row : goal.returns-then-not-zero_row
unfolding zero_rows
returns-then-not-zero_row c =
    let y = c.loop-y.y in
    sym (all-fails (c.args.gh * c.args.p) (λ i. zero_row (entry c.args.t.now) c.args.p c.args.gw c.args.patches.now c.args.v i) y c.loop-y-test.true (sym c.zero_row.ensures ∙ not-true _ c.if-not-zero_row.true-raw))

pub loop-y-preserved : goal.loop-y-preserved
loop-y-preserved c =
    (omega arith, all-step c.loop-y.y (λ i. zero_row (entry c.args.t.now) c.args.p c.args.gw c.args.patches.now c.args.v i) c.loop-y.invariant.1 (sym c.zero_row.ensures ∙ not-false _ c.if-not-zero_row.false-raw))

pub returns : goal.returns
unfolding zero_rows
returns c =
    let e : c.loop-y.y ≡ c.args.gh * c.args.p = omega arith in
    sym (sym (ap (λ (n : ℕ). all n (λ i. zero_row (entry c.args.t.now) c.args.p c.args.gw c.args.patches.now c.args.v i)) e) ∙ c.loop-y.invariant.1)
