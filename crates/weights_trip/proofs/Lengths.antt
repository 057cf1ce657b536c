-- The plainest header is so short that eight bytes say its length. A coarse bound does: a number has at most one digit more than
-- it counts. Assumes nothing.
use mathlib.Core.Path.{ap}
use mathlib.Core.List.{List, [], ◌∷◌, ◌++◌}
use Prim.Native.Nat.{ℕ, ◌+◌, ◌*◌, ◌^◌, ◌≤◌, ◌<◌}
use native.Mathlib.Omega.{arith}
use lib.ListN.{length, length-append}
use Rattle.json_members.specs.Names.{word}
use Rattle.tensor_values.specs.declared.Kind.{Kind}
use Rattle.tensor_values.specs.declared.Kind.TheVariants.{F32, BF16, F16}
use Rattle.tensor_header.specs.Tensors.{Tensor}
use Rattle.weights_trip.specs.Plainest.{dtype_of, bytes_in, entry_text, entries_text, header_text}
use Rattle.weights_trip.proofs.Entries.{Fine, fine, bytes_of_all, few, entry-parts}
use Rattle.weights_trip.proofs.Sums.{decimal-length}

kind-length : (k : Kind) → length (dtype_of k) ≤ 4
kind-length F32 = omega arith
kind-length BF16 = omega arith
kind-length F16 = omega arith

-- below 2 ^ 42 bytes, where the data have at most 2 ^ 40
entry_length : (k : Kind) (t : Tensor) (a : ℕ) → length t.name ≤ 150 → a + bytes_in k t ≤ 1099511627776 → length (entry_text k t a) < 4398046511104
entry_length k t a h i =
    let n = few k t in
    let e = simp length-append at (ap length (entry-parts k t a [])) in
    omega (arith, e, kind-length k, decimal-length t.count, decimal-length a, decimal-length (a + bytes_in k t))

entries-length : (k : Kind) (ts : List Tensor) (a : ℕ) → Fine ts → a + bytes_of_all k ts ≤ 1099511627776 → length (entries_text k ts a) ≤ length ts * 4398046511104
unfolding entries_text
entries-length k [] a f h = omega arith
entries-length k (t ∷ []) a (fine p q f) h = omega (arith, entry_length k t a q (omega arith))
entries-length k (t ∷ (u ∷ ts)) a (fine p q f) h =
    let b = a + bytes_in k t in
    omega (arith, entry_length k t a q (omega arith), entries-length k (u ∷ ts) b f (omega arith), length-append (entry_text k t a ++ word ",") (entries_text k (u ∷ ts) b), length-append (entry_text k t a) (word ","))

pub header-short : (k : Kind) (ts : List Tensor) → Fine ts → length ts ≤ 440 → bytes_of_all k ts ≤ 1099511627776 → length (header_text k ts) < 2 ^ 64
unfolding header_text
header-short k ts f n h = omega (arith, entries-length k ts 0 f (omega arith), length-append (word "{" ++ entries_text k ts 0) (word "}"), length-append (word "{") (entries_text k ts 0))
