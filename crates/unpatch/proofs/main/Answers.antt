-- `main` is safe and ends: the length that `unpatch` answers lies inside its output. Assumes nothing.
use Prim.Native.Nat.{◌≤◌}
use mathlib.Core.Path.{sym}
use lib.ListN.{length, take, replicate}
use lib.Seq.{length-take-le}
use Rattle.unpatch_text.proofs.Left.{length-inside}
use Rattle.unpatch.proofs.main.Goals as goal

-- src/main.rt:12:34
pub slice_bounds-out-end : goal.slice_bounds-out-end
slice_bounds-out-end c =
    let inside : c.unpatch-count.result ≤ length c.unpatch-count.new.out = rw (c.unpatch-count.ensures.answer, c.unpatch-count.auto.out) (length-inside (take c.in_ok-n.n c.read_full.new.to) (replicate 25094 0)) in
    inside

-- src/main.rt:12:34
pub slice_bounds-write_all-end : goal.slice_bounds-write_all-end
slice_bounds-write_all-end c =
    let inside : c.unpatch-count.result ≤ length c.unpatch-count.new.out = rw (c.unpatch-count.ensures.answer, c.unpatch-count.auto.out) (length-inside (take c.in_ok-n.n c.read_full.new.to) (replicate 25094 0)) in
    sym (length-take-le _ _ (inside))
