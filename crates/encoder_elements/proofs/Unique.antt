-- Any two results that satisfy the contract of a public function are equal. Assumes nothing.
use mathlib.Core.Path.{◌≡◌}
use mathlib.Core.List.{List}
use Prim.Native.Nat.{ℕ}
use lib.ListN.{length}
use lib.Ieee.{Float}
use Rattle.buffers.specs.Region.{region}
use Rattle.encoder_elements.specs.Element.{added, gated, rounded, gelued}
use Rattle.buffers.specs.inner.Room as Room
use Rattle.buffers.specs.inner.Room.{where_fits}
use Rattle.encoder_elements.specs.inner.Room.{pair_fits}
use Rattle.number_floats.proofs.Unique.{one}

abbrev pub AddsInto : List Float → ℕ → ℕ → ℕ → List Float → Type 0
AddsInto s y z n s' =
    s' ≡ where_fits (pair_fits (length s) y z n) s y (added n (region s y n) (region s z n))

pub add-into-unique : (s : List Float) (y z n : ℕ) (s' s'' : List Float) → AddsInto s y z n s' → AddsInto s y z n s'' → s' ≡ s''
add-into-unique s y z n s' s'' = one _

abbrev pub Gates : List Float → ℕ → ℕ → ℕ → List Float → Type 0
Gates s y z n s' =
    s' ≡ where_fits (pair_fits (length s) y z n) s y (gated n (region s y n) (region s z n))

pub gate-unique : (s : List Float) (y z n : ℕ) (s' s'' : List Float) → Gates s y z n s' → Gates s y z n s'' → s' ≡ s''
gate-unique s y z n s' s'' = one _

abbrev pub Truncates : List Float → ℕ → ℕ → List Float → Type 0
Truncates s y n s' =
    s' ≡ where_fits (Room.inside (length s) y n) s y (rounded n (region s y n))

pub truncate-to-bf16-inplace-unique : (s : List Float) (y n : ℕ) (s' s'' : List Float) → Truncates s y n s' → Truncates s y n s'' → s' ≡ s''
truncate-to-bf16-inplace-unique s y n s' s'' = one _

abbrev pub Gelus : List Float → ℕ → ℕ → List Float → Type 0
Gelus s y n s' =
    s' ≡ where_fits (Room.inside (length s) y n) s y (gelued n (region s y n))

pub gelu-inplace-unique : (s : List Float) (y n : ℕ) (s' s'' : List Float) → Gelus s y n s' → Gelus s y n s'' → s' ≡ s''
gelu-inplace-unique s y n s' s'' = one _
