-- `run::call` meets its contract: patches, output and list are fronts of what was made. Assumes nothing.
use Prim.Native.Nat.{ℕ, ◌≤◌}
use mathlib.Core.Path.{◌≡◌, sym, ◌∙◌}
use mathlib.Core.List.{List}
use lib.ListN.{length, take, length-replicate}
use lib.Seq.{length-take-le}
use Rattle.replay.specs.Marks.{marks, byte_at, word_at, bytes, words}
use Rattle.replay.proofs.Turns.{take-tab}
use Rattle.salvage_replay.specs.Run.{room, at, patches_of, told_in}
use Rattle.salvage_replay.proofs.run.call.Goals as goal

-- the length of a front
front : (n : ℕ) (l : List ℕ) → n ≤ room → length l ≡ room → n ≡ length (take n l)
front n l h e = sym (length-take-le n l (rw e h))

pub make-requires : goal.make-requires
make-requires c =
    (c.requires.side, c.requires.step, simp length-replicate)

pub slice_bounds-save-end : goal.slice_bounds-save-end
slice_bounds-save-end c =
    let made : length c.make.new.to ≡ room = c.make.auto.to ∙ simp length-replicate in
    front _ _ c.requires.patches (made)

pub slice_bounds-save-end-2 : goal.slice_bounds-save-end-2
slice_bounds-save-end-2 c =
    let output : length c.fill_bytes.new.to ≡ room = c.fill_bytes.auto.to ∙ simp length-replicate in
    front _ _ c.requires.out (output)

pub slice_bounds-save-end-3 : goal.slice_bounds-save-end-3
slice_bounds-save-end-3 c =
    let entries : length c.fill_words.new.to ≡ room = c.fill_words.auto.to ∙ simp length-replicate in
    front _ _ c.requires.list (entries)

pub returns : goal.returns
unfolding told_in
returns c =
    let v = c.args.v.now in
    let made_in : c.make.new.to ≡ patches_of v room = rw c.settings-s.ensures at c.make.ensures in
    let marked : c.fill_bytes.new.to ≡ bytes marks room = simp length-replicate at c.fill_bytes.ensures in
    let listed : c.fill_words.new.to ≡ words marks room = simp length-replicate at c.fill_words.ensures in
    let x : take (at v 5) c.make.new.to ≡ patches_of v (at v 5) = rw made_in (take-tab 0 (at v 5) room _ c.requires.patches) in
    let y : take (at v 6) c.fill_bytes.new.to ≡ bytes marks (at v 6) = rw marked (take-tab 0 (at v 6) room (byte_at marks) c.requires.out) in
    let z : take (at v 7) c.fill_words.new.to ≡ words marks (at v 7) = rw listed (take-tab 0 (at v 7) room (word_at marks) c.requires.list) in
    rw (c.settings-s.ensures, x, y, z) at c.save.ensures
