-- `run::second` meets its contract: the output is the front of the marked bytes. Assumes nothing.
use Prim.Native.Nat.{◌≤◌}
use mathlib.Core.Path.{◌≡◌, sym, ◌∙◌}
use lib.ListN.{length, take, length-replicate}
use lib.Seq.{length-take-le}
use Rattle.replay.specs.Marks.{marks, byte_at, bytes}
use Rattle.tiles_replay.specs.Run.{room, at, second_of}
use Rattle.replay.proofs.Turns.{take-tab}
use Rattle.tiles_replay.proofs.run.second.Goals as goal

pub slice_bounds-bring-end-2 : goal.slice_bounds-bring-end-2
slice_bounds-bring-end-2 c =
    let h : at c.args.v.now 19 ≤ length c.damage.new.cells = rw c.damage.auto.cells c.requires.0 in
    sym (length-take-le _ c.damage.new.cells h)

pub slice_bounds-bring-end-3 : goal.slice_bounds-bring-end-3
slice_bounds-bring-end-3 c =
    let full : length c.fill_bytes.new.to ≡ room = c.fill_bytes.auto.to ∙ simp length-replicate in
    let h : at c.args.v.now 20 ≤ length c.fill_bytes.new.to = rw (full) c.requires.1 in
    sym (length-take-le _ c.fill_bytes.new.to h)

pub returns : goal.returns
unfolding second_of
returns c =
    let s = c.settings.ensures in
    let v = c.args.v.now in
    let filled : c.fill_bytes.new.to ≡ bytes marks room = simp length-replicate at c.fill_bytes.ensures in
    let g : take (at v 20) c.fill_bytes.new.to ≡ bytes marks (at v 20) = rw filled (take-tab 0 (at v 20) room (byte_at marks) c.requires.1) in
    rw (s, g, c.damage.ensures) at c.bring.ensures
