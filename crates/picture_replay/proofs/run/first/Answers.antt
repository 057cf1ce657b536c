-- `run::first` meets its contract: the RGB is the front of the bytes of its seed. Assumes nothing.
use Prim.Native.Nat.{ℕ, ◌≤◌}
use mathlib.Core.Path.{◌≡◌, sym, ap, ◌∙◌}
use mathlib.Core.List.{List, ◌++◌}
use lib.Ieee.{Float}
use lib.ListN.{length, take, drop, length-replicate}
use lib.Seq.{length-take-le}
use Rattle.replay.specs.Marks.{seeded, byte_at, bytes}
use Rattle.picture_replay.specs.Run.{room, at, rgb_of, first_of, cells_left}
use Rattle.replay.proofs.Turns.{take-tab}
use Rattle.picture_replay.proofs.run.first.Goals as goal

rgb : (v r : List ℕ) → at v 5 ≤ room → r ≡ bytes (seeded (at v 7)) room → take (at v 5) r ≡ rgb_of v
rgb v r h e = rw e (take-tab 0 (at v 5) room (byte_at (seeded (at v 7))) h)

pub slice_bounds-make-end : goal.slice_bounds-make-end
slice_bounds-make-end c =
    let full : length c.fill_bytes.new.to ≡ room = c.fill_bytes.auto.to ∙ simp length-replicate in
    let h : at c.args.v.now 5 ≤ length c.fill_bytes.new.to = rw (full) c.requires.0 in
    sym (length-take-le _ c.fill_bytes.new.to h)

pub slice_bounds-make-end-3 : goal.slice_bounds-make-end-3
slice_bounds-make-end-3 c =
    sym (length-take-le _ c.args.cells.now c.requires.1)

pub returns : goal.returns
unfolding first_of cells_left
returns c =
    let s = c.settings.ensures in
    let g = rgb c.args.v.now c.fill_bytes.new.to c.requires.0 (simp length-replicate at c.fill_bytes.ensures) in record {
      answer = rw (s, g) at c.make.ensures.answer;
      output = ap (λ (l : List Float). l ++ drop (at c.args.v.now 6) c.args.cells.now) (rw (s, g) at c.make.ensures.output);
    }
