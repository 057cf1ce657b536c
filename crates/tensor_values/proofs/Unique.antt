-- Any two results that satisfy the contract of a public function are equal. Assumes nothing.
use mathlib.Core.Path.{◌≡◌}
use mathlib.Core.List.{List}
use Prim.Native.Nat.{ℕ}
use Rattle.number_floats.proofs.Unique.{one}
use Rattle.buffers.specs.Region.{copied}
use Rattle.tensor_values.specs.declared.Kind.{Kind}
use Rattle.tensor_values.specs.Values.{size_of, values_of}

pub size-of-unique : (k : Kind) (r r' : ℕ) → r ≡ size_of k → r' ≡ size_of k → r ≡ r'
size-of-unique k r r' = one _

pub widen-unique : (k : Kind) (b out out' out'' : List ℕ) → out' ≡ copied (values_of k b) out → out'' ≡ copied (values_of k b) out → out' ≡ out''
widen-unique k b out out' out'' = one _
