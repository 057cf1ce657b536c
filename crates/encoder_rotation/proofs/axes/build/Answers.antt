-- `encoder_rotation::axes::build` meets its contract. Assumes nothing.
use mathlib.Core.Path.{refl}
use Rattle.encoder_rotation.proofs.Expanded.{built}
use Rattle.encoder_rotation.proofs.axes.build.Goals as goal

pub returns : goal.returns
returns c =
    cc (c.copy_at-4.ensures, c.copy_at-3.ensures, c.copy_at-2.ensures, c.copy_at.ensures, built c.args.t.now c.args.r.now c.args.c.now _ refl c.requires.same)
