-- `encoder_run::embed::embed` meets its contract. Assumes nothing.
use mathlib.Core.Path.{◌≡◌, ap, ◌∙◌}
use Prim.Native.Nat.{◌*◌}
use native.Mathlib.Omega.{arith}
use lib.ListN.{length}
use Rattle.buffers.proofs.Regions.{length-region}
use Rattle.buffers.specs.inner.Apart.{after}
use Rattle.encoder_settings.specs.Weights.{embedding}
use Rattle.encoder_settings.proofs.Weights.{stands}
use Rattle.encoder_blocks.specs.Block.{n_of}
use Rattle.encoder_run.specs.Stages.{patch_conv, ln_pre}
use Rattle.encoder_steps.proofs.Writes.{linear-from-wrote, norm-wrote, round-wrote}
use Rattle.encoder_run.proofs.Embeds.{embedded}
use Rattle.encoder_run.proofs.embed.embed.Goals as goal

pub shape_of-s : goal.shape_of-s
shape_of-s c = c.round_finite.auto.s ∙ c.norm_finite-c.auto.s ∙ c.round_finite-b.auto.s ∙ c.linear_from_finite-a.auto.s

pub returns : goal.returns
unfolding patch_conv ln_pre
returns c =
    let n = n_of c.args.z in
    let T = embedding c.args.z.hidden c.args.f in
    let k : length c.part.result.now ≡ c.args.z.hidden * c.args.f = ap length c.part.ensures ∙ length-region c.args.w.now 0 (c.args.z.hidden * c.args.f) (omega (arith, c.requires.weights)) in
    let l = c.round_finite-b.auto.s ∙ c.linear_from_finite-a.auto.s in
    embedded c.args.z c.args.f c.args.w.now c.args.x.now c.args.s.now c.requires.room c.linear_from_finite-a.new.s c.round_finite-b.new.s c.norm_finite-c.new.s c.round_finite.new.s
    c.linear_from_finite-a.result c.round_finite-b.result c.norm_finite-c.result c.round_finite.result
    (rw (c.part.ensures ∙ stands T "patch_conv" c.args.w.now 0 (c.args.z.hidden * c.args.f) (omega arith) (omega arith)) at
    (linear-from-wrote c.args.x.now c.part.result.now n c.args.z.tokens c.args.f c.args.z.hidden (record { xin = omega (arith, c.requires.xin); yin = omega (arith, c.requires.room); win = omega (arith, k) }) c.linear_from_finite-a.ensures))
    (round-wrote n n (omega (arith, c.requires.room, c.linear_from_finite-a.auto.s)) c.round_finite-b.ensures)
    (rw (c.part-2.ensures ∙ stands T "ln_pre" c.args.w.now (c.args.z.hidden * c.args.f) c.args.z.hidden (omega arith) (omega arith)) at
    (norm-wrote c.part-2.result.now n 0 c.args.z.tokens c.args.z.hidden
    (record {
      small = c.requires.small;
      xin = omega (arith, c.requires.room, l);
      yin = omega (arith, c.requires.room, l);
      win = ap length c.part-2.ensures ∙ length-region c.args.w.now (c.args.z.hidden * c.args.f) c.args.z.hidden (omega (arith, c.requires.weights));
      apart = after (omega arith);
    })
    c.norm_finite-c.ensures))
    (round-wrote 0 n (omega (arith, c.requires.room, c.norm_finite-c.auto.s, l)) c.round_finite.ensures)
