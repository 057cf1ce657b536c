-- Any two results that satisfy the contract of a public function are equal. Assumes nothing.
use Rattle.std.proofs.Common.{◌≡◌, ℕ, min, List, length}
use lib.Ieee.{Float}
use Rattle.number_bf16_half_root.specs.Bf16 as Bf16
use Rattle.number_bf16_half_root.specs.Half.{half}
use Rattle.number_bf16_half_root.specs.Root as Root
use Rattle.number_bf16_half_root.specs.Packed.{packed, widened, packed_all, widened_all}
use Rattle.number_floats.proofs.Unique.{one}

pub bf16-unique : (x : ℕ) (r r' : ℕ) → r ≡ Bf16.bf16 x → r' ≡ Bf16.bf16 x → r ≡ r'
bf16-unique x r r' = one _

pub bf16-f32-unique : (x : Float) (r r' : Float) → r ≡ Bf16.bf16_of x → r' ≡ Bf16.bf16_of x → r ≡ r'
bf16-f32-unique x r r' = one _

pub half-to-f32-unique : (bits : ℕ) (r r' : ℕ) → r ≡ half bits → r' ≡ half bits → r ≡ r'
half-to-f32-unique bits r r' = one _

pub root-unique : (x : ℕ) (r r' : ℕ) → r ≡ Root.root x → r' ≡ Root.root x → r ≡ r'
root-unique x r r' = one _

pub root-f32-unique : (x : Float) (r r' : Float) → r ≡ Root.root_of x → r' ≡ Root.root_of x → r ≡ r'
root-f32-unique x r r' = one _

pub bf16-pack-unique : (x : ℕ) (r r' : ℕ) → r ≡ packed x → r' ≡ packed x → r ≡ r'
bf16-pack-unique x r r' = one _

pub bf16-widen-unique : (b : ℕ) (r r' : ℕ) → r ≡ widened b → r' ≡ widened b → r ≡ r'
bf16-widen-unique b r r' = one _

-- the contracts, as types of a count and of the output at exit
abbrev pub Packs : List ℕ → List ℕ → ℕ → List ℕ → Type 0
Packs x out r out' = (r ≡ min (length x) (length out)) × (out' ≡ packed_all x out)

pub bf16-pack-all-unique : (x out : List ℕ) (r r' : ℕ) (out' out'' : List ℕ) → Packs x out r out' → Packs x out r' out'' → (r ≡ r') × (out' ≡ out'')
bf16-pack-all-unique x out r r' out' out'' a b = (one _ a.0 b.0, one _ a.1 b.1)

abbrev pub Widens : List ℕ → List ℕ → ℕ → List ℕ → Type 0
Widens b out r out' = (r ≡ min (length b) (length out)) × (out' ≡ widened_all b out)

pub bf16-widen-all-unique : (b out : List ℕ) (r r' : ℕ) (out' out'' : List ℕ) → Widens b out r out' → Widens b out r' out'' → (r ≡ r') × (out' ≡ out'')
bf16-widen-all-unique b out r r' out' out'' p q = (one _ p.0 q.0, one _ p.1 q.1)
