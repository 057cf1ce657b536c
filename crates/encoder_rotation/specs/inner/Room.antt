-- Whether what the rotation is handed fits. Assumes nothing.
use Rattle.std.specs.Prelude.{Bool, ◌&&◌, ℕ, ◌+◌, ◌*◌, ◌/◌, ◌%◌, leb, ltb, eqb}
use Rattle.buffers.specs.inner.Room.{inside}

-- tokens of a grid gw wide, at x; at most side on a side
unfoldable pub places_fit : ℕ → ℕ → ℕ → ℕ → ℕ → ℕ → ℕ → Bool
places_fit lens x tokens heads half gw side =
    leb half 128 && (leb side 2048 && (leb gw side && (inside lens 0 (heads * (half + half))
    && (inside lens x (tokens * (heads * (half + half))) && (ltb 0 gw && leb tokens (side * gw))))))

-- full tables have a row of two halves for each of side * side positions
unfoldable pub rotate_fits : ℕ → ℕ → ℕ → ℕ → ℕ → ℕ → ℕ → ℕ → ℕ → Bool
rotate_fits lens lenc lenn x tokens heads half gw side =
    places_fit lens x tokens heads half gw side && (eqb lenc (side * side * (half + half)) && eqb lenn (side * side * (half + half)))

-- tables of rows and of columns, cosines and sines of each, have half of a half for each of side places
unfoldable pub axes_fit : ℕ → ℕ → ℕ → ℕ → ℕ → ℕ → ℕ → ℕ → ℕ → ℕ → ℕ → Bool
axes_fit lens rc rs cc cs x tokens heads half gw side =
    places_fit lens x tokens heads half gw side && (eqb (half % 2) 0
    && ((eqb rc (side * (half / 2)) && eqb rs (side * (half / 2))) && (eqb cc (side * (half / 2)) && eqb cs (side * (half / 2)))))
