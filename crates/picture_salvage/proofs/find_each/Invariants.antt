-- `picture_salvage::find_each` meets its contract. The invariant: what was found of the patterns passed is written. Assumes nothing.
use Rattle.std.proofs.Common.{◌≡◌, ℕ, ◌+◌, length, get_or}
use Rattle.std.specs.Prelude.{Option}
use Rattle.buffers.specs.Rows.{tab}
use Rattle.buffers.specs.Region.{put}
use Rattle.picture_spot.specs.inner.Spot.{or_none}
use Rattle.picture_salvage.proofs.find_each.Given as goal

abbrev pub invariant-loop-k : goal.invariant-loop-k
invariant-loop-k g l =
    (length l.found ≡ length l.initial.found)
    × ((h : ℕ → ℕ) → ((b : ℕ) (r : Option ℕ) → goal.F-post g l.f b r → or_none r ≡ h b) → l.found ≡ put l.initial.found 0 (tab l.k (λ i. h (get_or l.bits (l.at + i) 0))))
