-- `picture_patches::strip::fill_strip` meets its contract. The invariant: the rows passed are filled. Assumes nothing.
use mathlib.Core.Path.{◌≡◌, refl, ◌∙◌, subst}
use Prim.Native.Nat.{ℕ}
use native.Mathlib.Omega.{arith}
use Rattle.picture_patches.specs.inner.Strip.{Banded}
use Rattle.picture_patches.proofs.Strips.{none-held, banded-step}
use Rattle.picture_patches.proofs.strip.fill_strip.Goals as goal

pub loop-i-init : goal.loop-i-init
loop-i-init c = (omega arith, refl, refl, refl, none-held c.args.rgb.now c.args.f c.args.x c.args.n c.args.left.now c.args.right.now, record { row = λ k h. absurd (omega arith) })

pub overflow_add-r : goal.overflow_add-r
overflow_add-r c = omega (arith, c.requires.1, c.requires.0.frame.target-tall, c.loop-i-test.true)

pub overflow_mul-i : goal.overflow_mul-i
overflow_mul-i c = omega (arith, c.requires.0.frame.patch-high, c.loop-i-test.true)

pub strip_row-requires : goal.strip_row-requires
strip_row-requires c =
    (c.requires.0, omega (arith, c.requires.1), c.requires.2, record { columns = c.requires.3.columns; left-long = c.loop-i.invariant.1 ∙ c.requires.3.left-long; right-long = c.loop-i.invariant.2 ∙ c.requires.3.right-long }, c.loop-i.invariant.4, omega (arith, c.requires.4, c.requires.0.frame.patch-high, c.loop-i.invariant.3))

pub loop-i-preserved : goal.loop-i-preserved
loop-i-preserved c = (
  omega (arith, c.loop-i-test.true),
  c.strip_row.auto.left ∙ c.loop-i.invariant.1,
  c.strip_row.auto.right ∙ c.loop-i.invariant.2,
  c.strip_row.auto.band ∙ c.loop-i.invariant.3,
  c.strip_row.ensures.held,
  banded-step c.args.rgb.now c.args.f c.args.r c.args.x c.args.n c.loop-i.i c.loop-i.band _ c.requires.3.columns c.loop-i.invariant.5 c.strip_row.ensures.row_at c.strip_row.ensures.by_index,
)

pub shape_of-left : goal.shape_of-left
shape_of-left c = c.loop-i.invariant.1

pub shape_of-right : goal.shape_of-right
shape_of-right c = c.loop-i.invariant.2

pub shape_of-band : goal.shape_of-band
shape_of-band c = c.loop-i.invariant.3

pub returns : goal.returns
returns c =
    let e : c.loop-i.i ≡ c.args.f.p = omega (arith, c.loop-i.invariant.0, c.loop-i-test.false) in
    subst (λ (k : ℕ). Banded c.args.rgb.now c.args.f c.args.r c.args.x c.args.n k c.loop-i.band) e c.loop-i.invariant.5
