-- Any two results that satisfy the contract of a public function are equal. Assumes nothing.
use mathlib.Core.Path.{◌≡◌}
use mathlib.Core.Bool.{Bool}
use mathlib.Core.List.{List}
use Prim.Native.Nat.{ℕ, ◌*◌}
use lib.ListN.{length}
use lib.Ieee.{Float}
use Rattle.buffers.specs.Rows.{tab}
use Rattle.buffers.specs.Region.{region, copied, cleared}
use Rattle.number_floats.specs.Constants.{zero32}
use Rattle.buffers.specs.inner.Room as Room
use Rattle.number_floats.proofs.Unique.{one}

pub clear-unique : (s : List Float) (s' s'' : List Float) → s' ≡ cleared s → s'' ≡ cleared s → s' ≡ s''
clear-unique s s' s'' = one _

abbrev pub ClearsAt : List Float → ℕ → ℕ → List Float → Type 0
ClearsAt s at n s' =
    s' ≡ Room.where_fits (Room.inside (length s) at n) s at (tab n (λ _. zero32))

pub clear-at-unique : (s : List Float) (at n : ℕ) (s' s'' : List Float) → ClearsAt s at n s' → ClearsAt s at n s'' → s' ≡ s''
clear-at-unique s at n s' s'' = one _

pub copy-unique : (x out : List Float) (out' out'' : List Float) → out' ≡ copied x out → out'' ≡ copied x out → out' ≡ out''
copy-unique x out out' out'' = one _

pub part-unique : (s : List Float) (a n : ℕ) (r r' : List Float) → r ≡ region s a n → r' ≡ region s a n → r ≡ r'
part-unique s a n r r' = one _

pub inside-unique : (len at n : ℕ) (r r' : Bool) → r ≡ Room.inside len at n → r' ≡ Room.inside len at n → r ≡ r'
inside-unique len at n r r' = one _

pub rows-inside-unique : (len at n d : ℕ) (r r' : Bool) → r ≡ Room.inside len at (n * d) → r' ≡ Room.inside len at (n * d) → r ≡ r'
rows-inside-unique len at n d r r' = one _

pub aside-unique : (x n y m : ℕ) (r r' : Bool) → r ≡ Room.aside x n y m → r' ≡ Room.aside x n y m → r ≡ r'
aside-unique x n y m r r' = one _
