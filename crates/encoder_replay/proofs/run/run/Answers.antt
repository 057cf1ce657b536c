-- `run::run` meets its contract: the call over the inputs of the seed and marked buffers. Assumes nothing.
use mathlib.Core.Path.{◌≡◌}
use lib.ListN.{length-replicate}
use Rattle.replay.specs.Marks.{marks, floats}
use Rattle.encoder_replay.specs.Run.{cells_room, scratch_room, out_room, inputs_from, run_of}
use Rattle.encoder_replay.proofs.run.run.Goals as goal

pub returns : goal.returns
unfolding run_of
returns c =
    let v = c.args.v.now in
    let cells : c.inputs.new.cells ≡ inputs_from v cells_room = simp length-replicate at c.inputs.ensures in
    let scratch : c.fill_floats.new.to ≡ floats marks scratch_room = simp length-replicate at c.fill_floats.ensures in
    let out : c.fill_floats-2.new.to ≡ floats marks out_room = simp length-replicate at c.fill_floats-2.ensures in
    rw (cells, scratch, out) at c.call.ensures
