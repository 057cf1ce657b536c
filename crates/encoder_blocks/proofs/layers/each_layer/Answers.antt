-- `encoder_blocks::layers::each_layer` meets its contract. Assumes nothing.
use mathlib.Core.Path.{◌≡◌, refl, ap, ◌∙◌}
use Prim.Native.Nat.{ℕ, ◌+◌, ◌*◌}
use native.Mathlib.Omega.{arith}
use lib.ListN.{length}
use Rattle.buffers.proofs.Lists.{fit}
use Rattle.buffers.proofs.Regions.{length-region}
use Rattle.buffers.specs.Region.{region}
use Rattle.encoder_settings.specs.Weights.{floats}
use Rattle.encoder_blocks.specs.Block.{parts_of, layers_run}
use Rattle.encoder_blocks.specs.Tables.{cos_by, sin_by}
use Rattle.encoder_blocks.specs.inner.Live.{h_at}
use Rattle.encoder_blocks.proofs.Turns.{layers-turn, block_at}
use Rattle.encoder_blocks.proofs.Rooms.{layers-products}
use Rattle.encoder_blocks.proofs.layers.each_layer.Goals as goal

pub layer_floats-size-requires : goal.layer_floats-size-requires
layer_floats-size-requires c = layers-products c.args.z c.args.f c.requires

pub loop-l-init : goal.loop-l-init
unfolding layers_run
loop-l-init c = (refl, refl)

pub pixtral_block_forward-r-requires : goal.pixtral_block_forward-r-requires
pixtral_block_forward-r-requires c =
    let f = fit (floats (parts_of c.args.z)) c.loop-l-test.true in
    let g = ap (λ n. c.loop-l.l * n) c.layer_floats-size.ensures in
    let e = c.loop-l.invariant.0 in record {
      block_fits = block_at c.args.z c.args.tables (ap length c.part.ensures ∙ length-region c.args.w.now (c.loop-l.l * c.layer_floats-size.result) c.layer_floats-size.result (omega (arith, f, g, c.requires.weights, c.layer_floats-size.ensures)) ∙ c.layer_floats-size.ensures) (rw e c.requires.rotation);
      rotation_fits = rw e c.requires.rotation;
      score_row = rw e c.requires.scores;
    }

pub overflow_mul-l : goal.overflow_mul-l
overflow_mul-l c =
    let f = fit (floats (parts_of c.args.z)) c.loop-l-test.true in
    let g = ap (λ n. c.loop-l.l * n) c.layer_floats-size.ensures in
    omega (arith, f, g, c.requires.weights)

pub loop-l-preserved : goal.loop-l-preserved
loop-l-preserved c = (
  c.pixtral_block_forward-r.auto.s ∙ c.loop-l.invariant.0,
  layers-turn c.args.z c.args.w.now (cos_by c.args.z c.args.tables) (sin_by c.args.z c.args.tables) (h_at c.args.z c.args.s.now) c.part.result.now (h_at c.args.z c.loop-l.s) (h_at c.args.z c.pixtral_block_forward-r.new.s) c.loop-l.l c.loop-l.ok c.pixtral_block_forward-r.result
      (c.part.ensures ∙ ap (λ i. region c.args.w.now (c.loop-l.l * i) i) c.layer_floats-size.ensures) c.loop-l.invariant.1 c.pixtral_block_forward-r.ensures,
)

pub shape_of-s : goal.shape_of-s
shape_of-s c = c.loop-l.invariant.0

pub returns : goal.returns
returns c =
    c.loop-l.invariant.1 ∙ ap (λ i. layers_run c.args.z c.args.w.now (cos_by c.args.z c.args.tables) (sin_by c.args.z c.args.tables) i (h_at c.args.z c.args.s.now)) (omega (arith, c.loop-l.auto.l-end, c.loop-l-test.false))
