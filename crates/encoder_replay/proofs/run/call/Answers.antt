-- `run::call` meets its contract: the parts of the cells are the record's. Assumes nothing.
use Prim.Native.Nat.{◌≤◌}
use native.Mathlib.Nat.{add-sub_cancel_left}
use native.Mathlib.Omega.{arith}
use mathlib.Core.Path.{sym}
use lib.ListN.{length}
use lib.Seq.{length-take-le}
use Rattle.encoder_replay.specs.Run.{at, call_of}
use Rattle.encoder_replay.proofs.run.call.Goals as goal

pub slice_bounds-encode-end : goal.slice_bounds-encode-end
slice_bounds-encode-end c =
    let h : at c.args.v.now 12 ≤ length c.args.cells.now = omega (arith, c.requires.small.patches, c.requires.room.cells-all) in
    sym (length-take-le _ c.args.cells.now h)

pub slice_bounds-encode-end-6 : goal.slice_bounds-encode-end-6
slice_bounds-encode-end-6 c =
    let h : at c.args.v.now 16 ≤ length c.args.scratch.now = omega (arith, c.requires.small.scratch, c.requires.room.scratch-all) in
    sym (length-take-le _ c.args.scratch.now h)

pub slice_bounds-encode-end-8 : goal.slice_bounds-encode-end-8
slice_bounds-encode-end-8 c =
    let h : at c.args.v.now 17 ≤ length c.args.out.now = omega (arith, c.requires.small.out, c.requires.room.out-all) in
    sym (length-take-le _ c.args.out.now h)

pub returns : goal.returns
unfolding call_of
returns c =
    let v = c.args.v.now in
    rw (c.settings.ensures, c.attention.ensures, add-sub_cancel_left 1024 (at v 13), add-sub_cancel_left 7168 (at v 14), add-sub_cancel_left 7680 (at v 15)) at c.encode.ensures
