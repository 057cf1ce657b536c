-- Any two results that satisfy the contract of a public function are equal. Assumes nothing.
use mathlib.Core.Path.{◌≡◌}
use mathlib.Core.Bool.{Bool, ◌&&◌, cond}
use mathlib.Core.List.{List}
use Prim.Native.Nat.{ℕ, ◌*◌}
use lib.ListN.{length}
use lib.Ieee.{Float}
use Rattle.buffers.specs.Region.{region, put}
use Rattle.number_floats.specs.Constants.{zero32}
use Rattle.buffers.specs.Each.{blank}
use Rattle.encoder_kernels.specs.Kernels.{all_finite}
use Rattle.encoder_attention.specs.Attention.{scores_of, attention_of}
use Rattle.encoder_attention.specs.inner.Keys.{turned_keys}
use Rattle.encoder_attention.specs.inner.Room.{attend_fits}
use Rattle.number_floats.proofs.Unique.{one}

abbrev pub Attends : List Float → ℕ → ℕ → ℕ → ℕ → ℕ → ℕ → ℕ → ℕ → ℕ → Float → Bool → List Float → Type 0
Attends s q k v kt row out t heads hd scaling r s' =
    (r ≡ (attend_fits (length s) q k v kt row out t heads hd && all_finite (scores_of t heads hd scaling (region s q (t * (heads * hd))) (region s k (t * (heads * hd))))))
    × (s' ≡ cond (attend_fits (length s) q k v kt row out t heads hd) (put (blank zero32 row t (put s kt (turned_keys t (heads * hd) (region s k (t * (heads * hd)))))) out (attention_of t heads hd scaling (region s q (t * (heads * hd))) (region s k (t * (heads * hd))) (region s v (t * (heads * hd))))) s)

pub attend-unique : (s : List Float) (q k v kt row out t heads hd : ℕ) (scaling : Float) (r r' : Bool) (s' s'' : List Float)
    → Attends s q k v kt row out t heads hd scaling r s' → Attends s q k v kt row out t heads hd scaling r' s'' → (r ≡ r') × (s' ≡ s'')
attend-unique s q k v kt row out t heads hd scaling r r' s' s'' a b = (one _ a.0 b.0, one _ a.1 b.1)
