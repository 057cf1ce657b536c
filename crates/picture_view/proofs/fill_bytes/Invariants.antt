-- `picture_view::fill_bytes` meets its contract. The invariant: the bytes passed are written. Assumes nothing.
use Rattle.std.proofs.Common.{◌≡◌, ℕ, ◌+◌, length, get_or}
use Rattle.std.specs.Float.{Float, nan}
use Rattle.buffers.specs.Rows.{tab}
use Rattle.buffers.specs.Region.{put}
use Rattle.picture_view.proofs.fill_bytes.Given as goal

abbrev pub invariant-loop-k : goal.invariant-loop-k
invariant-loop-k g l =
    (length l.bytes ≡ length l.initial.bytes)
    × ((h : Float → ℕ) → ((v : Float) (r : ℕ) → goal.F-post g l.f v r → r ≡ h v) → l.bytes ≡ put l.initial.bytes l.at (tab l.k (λ i. h (get_or l.patches (l.from + i) nan))))
