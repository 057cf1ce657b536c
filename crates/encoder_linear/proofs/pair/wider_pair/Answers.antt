-- `encoder_linear::pair::wider_pair` meets its contract: each lane is a column of its own. Assumes nothing.
use Prim.Native.Nat.{◌+◌, ◌*◌}
use native.Mathlib.Nat.{suc-mul}
use native.Mathlib.Omega.{arith}
use native.Mathlib.Numerals.{add-one}
use mathlib.Core.Path.{◌≡◌, refl, ap, ◌∙◌}
use lib.ListN.{length}
use Rattle.buffers.specs.Rows.{tab}
use Rattle.buffers.proofs.Lists.{fit, length-tab}
use Rattle.encoder_linear.specs.Linear.{sum_of, column_of}
use Rattle.encoder_linear.proofs.Columns.{begun_column, column-step}
use Rattle.encoder_linear.proofs.pair.wider_pair.Goals as goal

pub loop-j-init : goal.loop-j-init
unfolding sum_of tab
loop-j-init c = (omega arith, omega arith, refl, refl, refl, refl)

pub add_products-b2-requires : goal.add_products-b2-requires
add_products-b2-requires c =
    (ap length c.loop-j.invariant.2 ∙ length-tab 16 _, omega (arith, c.loop-j.invariant.1, c.requires.v_is, c.requires.places, fit c.args.dim c.loop-j-test.true))

pub add_products-c2-requires : goal.add_products-c2-requires
add_products-c2-requires c =
    (ap length c.loop-j.invariant.3 ∙ length-tab 16 _, omega (arith, c.loop-j.invariant.1, c.requires.v_is, c.requires.places, fit c.args.dim c.loop-j-test.true))

pub add_products-d2-requires : goal.add_products-d2-requires
add_products-d2-requires c =
    (ap length c.loop-j.invariant.4 ∙ length-tab 16 _, omega (arith, c.loop-j.invariant.1, c.requires.v_is, c.requires.places, fit c.args.dim c.loop-j-test.true))

pub add_products-e2-requires : goal.add_products-e2-requires
add_products-e2-requires c =
    (ap length c.loop-j.invariant.5 ∙ length-tab 16 _, omega (arith, c.loop-j.invariant.1, c.requires.v_is, c.requires.places, fit c.args.dim c.loop-j-test.true))

pub loop-j-preserved : goal.loop-j-preserved
loop-j-preserved c =
    let next : c.loop-j.a + 16 ≡ c.loop-j.j * c.args.dim + (c.args.o + 16) = omega (arith, c.loop-j.invariant.1) in (
      omega (arith, c.loop-j-test.true),
      rw (add-one, suc-mul) (omega (arith, c.loop-j.invariant.1)),
      column-step c.loop-j.j c.args.dim c.args.o c.loop-j.a c.args.p.now c.args.v.now c.loop-j.b c.add_products-b2.result c.loop-j.invariant.1 c.loop-j.invariant.2 c.add_products-b2.ensures,
      column-step c.loop-j.j c.args.dim (c.args.o + 16) (c.loop-j.a + 16) c.args.p.now c.args.v.now c.loop-j.c c.add_products-c2.result next c.loop-j.invariant.3 c.add_products-c2.ensures,
      column-step c.loop-j.j c.args.dim c.args.o c.loop-j.a c.args.r.now c.args.v.now c.loop-j.d c.add_products-d2.result c.loop-j.invariant.1 c.loop-j.invariant.4 c.add_products-d2.ensures,
      column-step c.loop-j.j c.args.dim (c.args.o + 16) (c.loop-j.a + 16) c.args.r.now c.args.v.now c.loop-j.e c.add_products-e2.result next c.loop-j.invariant.5 c.add_products-e2.ensures,
    )

pub returns : goal.returns
unfolding column_of
returns c = (
  c.loop-j.invariant.2 ∙ ap (λ n. tab 16 (begun_column n c.args.dim c.args.o c.args.p.now c.args.v.now)) (omega arith),
  c.loop-j.invariant.3 ∙ ap (λ n. tab 16 (begun_column n c.args.dim (c.args.o + 16) c.args.p.now c.args.v.now)) (omega arith),
  c.loop-j.invariant.4 ∙ ap (λ n. tab 16 (begun_column n c.args.dim c.args.o c.args.r.now c.args.v.now)) (omega arith),
  c.loop-j.invariant.5 ∙ ap (λ n. tab 16 (begun_column n c.args.dim (c.args.o + 16) c.args.r.now c.args.v.now)) (omega arith),
)
