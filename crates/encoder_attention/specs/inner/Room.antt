-- Whether what the attention is handed fits. Assumes nothing.
use Rattle.std.specs.Prelude.{Bool, ◌&&◌, ℕ, ◌*◌, leb}
use Rattle.buffers.specs.inner.Room.{inside, aside}

-- n floats at each of q, k and v lie apart from the m at at
abbrev pub three_aside : ℕ → ℕ → ℕ → ℕ → ℕ → ℕ → Bool
three_aside q k v n at m = (aside q n at m && aside k n at m) && aside v n at m

-- queries, keys, values and sums of n floats, and the score row of t
abbrev pub places_fit : ℕ → ℕ → ℕ → ℕ → ℕ → ℕ → ℕ → ℕ → Bool
places_fit len q k v row out t n =
    ((inside len k n && inside len v n) && (inside len out n && inside len row t))
    && ((three_aside q k v n row t && three_aside q k v n out n) && aside out n row t)

-- and the keys, with room to turn them
unfoldable pub attend_fits : ℕ → ℕ → ℕ → ℕ → ℕ → ℕ → ℕ → ℕ → ℕ → ℕ → Bool
attend_fits len q k v kt row out t heads hd =
    inside len 0 (heads * hd) && (inside len q (t * (heads * hd)) && (places_fit len q kt v row out t (t * (heads * hd))
    && (inside len k (t * (heads * hd)) && three_aside q k v (t * (heads * hd)) kt (t * (heads * hd)))))

-- the n floats at k lie apart from queries, values and sums, and there is room in them for a head's values and two rows
unfoldable pub spare_fits : ℕ → ℕ → ℕ → ℕ → ℕ → ℕ → ℕ → Bool
spare_fits q k v out n heads hd = (leb 2 heads && leb 2 hd) && three_aside q v out n k n
