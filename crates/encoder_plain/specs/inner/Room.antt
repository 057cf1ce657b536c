-- Whether what the attention is handed fits. Assumes nothing.
use Rattle.std.specs.Prelude.{Bool, ◌&&◌, ℕ, ◌*◌}
use Rattle.buffers.specs.inner.Room.{inside, aside}

-- keys, values and sums of n floats lie inside len; what is written, sums and a matrix of m, lies apart from what is read
abbrev pub places_fit : ℕ → ℕ → ℕ → ℕ → ℕ → ℕ → ℕ → ℕ → Bool
places_fit len q k v scores out n m =
    (inside len k n && (inside len v n && inside len out n))
    && (((aside q n scores m && aside k n scores m) && (aside v n scores m && aside scores m out n))
    && ((aside q n out n && aside k n out n) && aside v n out n))

unfoldable pub plain_fits : ℕ → ℕ → ℕ → ℕ → ℕ → ℕ → ℕ → ℕ → ℕ → Bool
plain_fits len q k v scores out t heads hd =
    inside len 0 (heads * hd) && (inside len q (t * (heads * hd)) && (inside len scores (t * t)
    && places_fit len q k v scores out (t * (heads * hd)) (t * t)))
