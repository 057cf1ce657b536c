-- `encoder_blocks::layers::layers` meets its contract. Assumes nothing.
use mathlib.Core.Path.{sym, ap, ◌∙◌}
use Prim.Native.Nat.{◌≤◌}
use native.Mathlib.Omega.{arith}
use lib.ListN.{length}
use Rattle.buffers.specs.Region.{over}
use Rattle.number_floats.specs.Constants.{zero32}
use Rattle.buffers.specs.Rows.{tab}
use Rattle.encoder_steps.specs.Run.{ran, handed}
use Rattle.encoder_steps.proofs.Writes.{went-of, stopped-of}
use Rattle.encoder_steps.proofs.Fronts.{front_kept}
use Rattle.encoder_blocks.specs.Block.{n_of, layers_run}
use Rattle.encoder_blocks.specs.Tables.{cos_by, sin_by}
use Rattle.encoder_blocks.specs.inner.Live.{h_at}
use Rattle.encoder_blocks.proofs.Rooms.{layers-say}
use Rattle.encoder_blocks.proofs.layers.layers.Goals as goal

pub each_layer-ok-requires : goal.each_layer-ok-requires
each_layer-ok-requires c = layers-say c.args.z c.args.f (sym c.layers_fit.ensures ∙ c.if-layers_fit.true)

pub overflow_mul-n : goal.overflow_mul-n
overflow_mul-n c = omega (arith, (layers-say c.args.z c.args.f (sym c.layers_fit.ensures ∙ c.if-layers_fit.true)).rotation.scratch)

pub overflow_sub-s : goal.overflow_sub-s
overflow_sub-s c = omega (arith, (layers-say c.args.z c.args.f (sym c.layers_fit.ensures ∙ c.if-layers_fit.true)).rotation.scratch, c.each_layer-ok.auto.s)

pub shape_of-s-then-ok : goal.shape_of-s-then-ok
shape_of-s-then-ok c = c.clear_at.auto.s ∙ c.each_layer-ok.auto.s

pub returns-then-ok : goal.returns-then-ok
returns-then-ok c =
    let t = sym c.layers_fit.ensures ∙ c.if-layers_fit.true in
    let f = layers-say c.args.z c.args.f t in
    let u = c.each_layer-ok.new.s in
    let R = layers_run c.args.z c.args.w.now (cos_by c.args.z c.args.tables) (sin_by c.args.z c.args.tables) c.args.count (h_at c.args.z c.args.s.now) in
    let k : n_of c.args.z ≤ length u = omega (arith, f.rotation.scratch, c.each_layer-ok.auto.s) in
    let w = went-of c.each_layer-ok.result (h_at c.args.z u) R c.each_layer-ok.ensures c.if-ok.true in
    let v = front_kept u c.clear_at.new.s (n_of c.args.z) k c.clear_at.ensures in record {
      value = rw t (ap ran w);
      s_after = rw t (v ∙ ap (λ i. over (h_at c.args.z u) (tab i (λ _. zero32))) c.each_layer-ok.auto.s ∙ ap (λ r. handed r c.args.s.now) w);
    }

pub shape_of-s-then-layers_fit : goal.shape_of-s-then-layers_fit
shape_of-s-then-layers_fit c = c.clear.auto.s ∙ c.each_layer-ok.auto.s

pub returns-then-layers_fit : goal.returns-then-layers_fit
returns-then-layers_fit c =
    let t = sym c.layers_fit.ensures ∙ c.if-layers_fit.true in
    let R = layers_run c.args.z c.args.w.now (cos_by c.args.z c.args.tables) (sin_by c.args.z c.args.tables) c.args.count (h_at c.args.z c.args.s.now) in
    let w = stopped-of c.each_layer-ok.result (h_at c.args.z c.each_layer-ok.new.s) R c.each_layer-ok.ensures c.if-ok.false in record {
      value = rw t (ap ran w);
      s_after = rw t (c.clear.ensures ∙ ap (λ i. tab i (λ _. zero32)) c.each_layer-ok.auto.s ∙ ap (λ r. handed r c.args.s.now) w);
    }

pub returns : goal.returns
returns c = record {
  value = rw (← c.layers_fit.ensures, c.if-layers_fit.false);
  s_after = rw (← c.layers_fit.ensures, c.if-layers_fit.false);
}
