-- Bytes written one piece after another are bytes. Assumes nothing.
use mathlib.Core.List.{List, [], ◌∷◌, ◌++◌}
use Prim.Native.Nat.{ℕ, zero, suc, ◌<◌}
use native.Mathlib.Omega.{arith}
use Rattle.buffers.specs.Rows.{tab, rows}
use Rattle.buffers.specs.Lent.{Bytes}

pub bytes-append : (xs ys : List ℕ) → Bytes xs → Bytes ys → Bytes (xs ++ ys)
bytes-append [] ys a b k = b k
bytes-append (x ∷ xs) ys a b zero = a zero
bytes-append (x ∷ xs) ys a b (suc k) = bytes-append xs ys (λ i. a (suc i)) b k

pub no_bytes : Bytes []
no_bytes k = omega arith

pub one_byte : (x : ℕ) → x < 256 → Bytes (x ∷ [])
one_byte x h zero = h
one_byte x h (suc k) = omega arith

pub bytes-tab : (n : ℕ) (f : ℕ → ℕ) → ((i : ℕ) → i < n → f i < 256) → Bytes (tab n f)
unfolding tab
bytes-tab zero f h = no_bytes
bytes-tab (suc n) f h = bytes-append (tab n f) (f n ∷ []) (bytes-tab n f (λ i l. h i (omega arith))) (one_byte (f n) (h n (omega arith)))

pub bytes-rows : (n : ℕ) (f : ℕ → List ℕ) → ((i : ℕ) → i < n → Bytes (f i)) → Bytes (rows n f)
unfolding rows
bytes-rows zero f h = no_bytes
bytes-rows (suc n) f h = bytes-append (rows n f) (f n) (bytes-rows n f (λ i l. h i (omega arith))) (h n (omega arith))
