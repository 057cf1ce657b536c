-- `encoder_linear::few::add_cells` meets its contract. Assumes nothing.
use mathlib.Core.Path.{◌≡◌, refl, sym, ap, ◌∙◌}
use mathlib.Core.List.{List}
use Prim.Native.Nat.{ℕ, ◌+◌, ◌*◌, ◌/◌, ◌%◌, ◌≤◌, ◌<◌}
use native.Mathlib.Nat.{mod-lt, div-lt_iff_lt-mul, mul-le-mul_right}
use native.Mathlib.Omega.{arith}
use lib.ListN.{get_or, set, length-set}
use lib.Ieee.{Float, nan, binary32, add}
use Rattle.buffers.specs.Rows.{tab}
use Rattle.buffers.specs.Region.{put}
use Rattle.buffers.specs.inner.Apart.{after}
use Rattle.buffers.proofs.Lists.{length-tab, tab-step-0}
use Rattle.buffers.proofs.Regions.{get_or-put, put_all}
use Rattle.encoder_linear.proofs.few.add_cells.Invariants.{more, next}
use Rattle.encoder_linear.proofs.few.add_cells.Goals as goal

step : (a b xt w : List Float) (j at nin i : ℕ) → b ≡ put a 0 (tab i (next a xt j w at nin))
    → set b i (add binary32 (get_or b i nan) (more xt j w at nin i)) ≡ put a 0 (tab (i + 1) (next a xt j w at nin))
step a b xt w j at nin i e =
    tab-step-0 a b i (next a xt j w at nin) _ e
    (ap (λ v. add binary32 v (more xt j w at nin i))
    (ap (λ x. get_or x i nan) e ∙ get_or-put a 0 (tab i (next a xt j w at nin)) i nan (rw (length-tab i (next a xt j w at nin)) (after (omega arith)))))

lane-lt : (i : ℕ) → i % 4 < 4
lane-lt i = mod-lt i (omega arith)

row-le : (i nin : ℕ) → i < 16 → i / 4 * nin ≤ 3 * nin
row-le i nin h = let four : 0 < 4 = omega arith in let a : i / 4 < 4 = (div-lt_iff_lt-mul four).1 h in mul-le-mul_right nin (omega arith)

pub loop-i-init : goal.loop-i-init
unfolding put tab
loop-i-init c = (omega arith, refl, refl)

pub loop-i-preserved : goal.loop-i-preserved
loop-i-preserved c =
    (omega (arith, c.loop-i-test.true), length-set c.loop-i.b c.loop-i.i _ ∙ c.loop-i.invariant.1, step c.args.a c.loop-i.b c.args.xt.now c.args.w.now c.args.j c.args.at c.args.nin c.loop-i.i c.loop-i.invariant.2)

pub returns : goal.returns
returns c =
    let G = next c.args.a c.args.xt.now c.args.j c.args.w.now c.args.at c.args.nin in
    c.loop-i.invariant.2 ∙ ap (λ n. put c.args.a 0 (tab n G)) (omega (arith, c.loop-i-test.false, c.loop-i.invariant.0)) ∙ put_all c.args.a (tab 16 G) (length-tab 16 G ∙ sym c.requires.cells)
