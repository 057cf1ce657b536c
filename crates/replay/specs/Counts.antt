-- Counts, one of which grows. Assumes nothing.
use Rattle.std.specs.Prelude.{ℕ, ◌+◌, List, slice_index, slice_set}

abbrev pub bump : List ℕ → ℕ → List ℕ
bump c k = slice_set c k (slice_index c k + 1)
