-- `marks::fill` meets its contract: x is the state after as many steps as values are written. Assumes nothing.
use Rattle.std.proofs.Common.{◌≡◌, ℕ, suc, ◌<◌}
use Rattle.buffers.specs.Rows.{tab}
use Rattle.buffers.specs.Region.{put}
use Rattle.replay.specs.Marks.{seeded, stepped}
use Rattle.replay.proofs.marks.fill.Given as goal

abbrev pub invariant-loop-cell : goal.invariant-loop-cell
invariant-loop-cell g l =
    (l.x < 4294967296)
    × (l.x ≡ stepped (seeded l.seed) l.cell-index)
    × ((f : ℕ → _) → ((x : ℕ) (r : _) → x < 4294967296 → goal.F-post g l.make x r → r ≡ f x) → l.to ≡ put l.initial.to 0 (tab l.cell-index (λ k. f (stepped (seeded l.seed) (suc k)))))
