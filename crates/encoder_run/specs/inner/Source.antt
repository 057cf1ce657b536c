-- Where each place of the merged rows comes from. Assumes nothing.
use Rattle.std.specs.Prelude.{List, ℕ, ◌+◌, ◌*◌, ◌/◌, ◌%◌, get_or, Float}
use Rattle.std.specs.Float.{nan}
use Rattle.buffers.specs.Rows.{tab}
use Rattle.encoder_run.specs.Stages.{place_of}

-- where place p of the merged rows takes its value from, by its output token, its channel and its place in the square
unfoldable pub source_of : ℕ → ℕ → ℕ → ℕ → ℕ
source_of merge gw dim p =
    let o = p / (dim * (merge * merge)) in
    let r = p % (dim * (merge * merge)) in
    let k = r % (merge * merge) in
    place_of gw dim (o / (gw / merge) * merge + k / merge) (o % (gw / merge) * merge + k % merge) (r / (merge * merge))

-- the first n of the merged values
unfoldable pub merged_first : ℕ → ℕ → ℕ → ℕ → List Float → List Float
merged_first n merge gw dim x = tab n (λ p. get_or x (source_of merge gw dim p) nan)
