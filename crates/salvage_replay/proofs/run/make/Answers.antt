-- `run::make` meets its contract: the table is that of the settings, and the bytes are those of the seed. Assumes nothing.
use mathlib.Core.Path.{◌≡◌, ◌∙◌}
use lib.ListN.{length, length-replicate}
use Rattle.salvage_replay.specs.Run.{room, bytes_of}
use Rattle.salvage_replay.proofs.run.make.Goals as goal

pub fill-requires : goal.fill-requires
fill-requires c =
    let full : length c.fill_bytes.new.to ≡ room = c.fill_bytes.auto.to ∙ simp length-replicate in
    (c.requires.0, c.requires.1, full, c.requires.2)

pub returns : goal.returns
returns c =
    let v = c.args.v.now in
    let filled : c.fill_bytes.new.to ≡ bytes_of v = simp length-replicate at c.fill_bytes.ensures in
    rw (c.samples-t.ensures, filled) at c.fill.ensures
