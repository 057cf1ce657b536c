-- `picture_salvage::salvage_run` meets its contract: what was found in each channel, pixel by pixel. Assumes nothing.
use mathlib.Core.Path.{ap, ◌∙◌}
use Prim.Native.Nat.{◌+◌, ◌*◌}
use lib.ListN.{length-replicate}
use Rattle.buffers.specs.Region.{put}
use Rattle.picture_samples.specs.Samples.{entry}
use Rattle.picture_salvage.proofs.Salvages.{found_at, run-saved}
use Rattle.picture_salvage.proofs.salvage_run.Goals as goal

pub returns : goal.returns
returns c =
    let k = entry c.args.t.now in
    let l = c.args.bits.now in
    let n = c.args.p * c.args.p in
    c.save_run.ensures
    ∙ ap (put c.args.out.now c.args.at)
    (run-saved k c.args.p l c.args.from c.find_run.new.found c.find_run-2.new.found c.find_run-3.new.found
    (found_at k l c.args.from 0 c.args.p _ _ (simp length-replicate c.requires.0) c.find_run.ensures)
    (found_at k l (c.args.from + n) 1 c.args.p _ _ (simp length-replicate c.requires.0) c.find_run-2.ensures)
    (found_at k l (c.args.from + 2 * n) 2 c.args.p _ _ (simp length-replicate c.requires.0) c.find_run-3.ensures))
