-- Where no two tensors have the same name, each is found in the plainest header, at its place. Assumes nothing.
use Rattle.std.specs.Prelude.{None, Some}
use mathlib.Core.Path.{◌≡◌, refl}
use mathlib.Core.Bool.{true, false}
use mathlib.Core.List.{List, [], ◌∷◌}
use Prim.Native.Nat.{ℕ, zero, suc, ◌+◌, ◌*◌, ◌≤◌, ◌<◌}
use native.Mathlib.Omega.{arith}
use lib.ListN.{length}
use borrow.Author.Tests.{eq-eqb}
use Rattle.json_members.specs.Names.{Entry, same, lookup}
use Rattle.tensor_values.specs.declared.Kind.{Kind}
use Rattle.tensor_values.specs.Values.{size_of}
use Rattle.tensor_header.specs.Tensors.{Tensor, entry_at, count_at}
use Rattle.weights.specs.File.{Found, described, found_in}
use Rattle.weights_trip.specs.Plainest.{dtype_of}
use Rattle.weights_trip.proofs.Entries.{bytes_of_all, Listed, nothing, listed}

-- none of the tensors has the name w
pub data New (w : List ℕ) : List Tensor → Type 0 where
  new_none : New w []
  new : {t : Tensor} {ts : List Tensor} → same t.name w ≡ false → New w ts → New w (t ∷ ts)

-- no two have the same name
pub data Apart : List Tensor → Type 0 where
  apart_none : Apart []
  apart : {t : Tensor} {ts : List Tensor} → New t.name ts → Apart ts → Apart (t ∷ ts)

-- ---- by its name

pub same_self : (w : List ℕ) → same w w ≡ true
unfolding same
same_self [] = refl
same_self (x ∷ w) = rw (eq-eqb x x refl, same_self w) refl

unlisted : {k : Kind} {a : ℕ} {ts : List Tensor} {es : List Entry} {w : List ℕ} → Listed k a ts es → New w ts → lookup w es ≡ None
unfolding lookup
unlisted nothing new_none = refl
unlisted (listed e v l) (new h n) = rw (unlisted l n, e, h) refl

-- entries of which each is the one that its name finds
pub data Finds (all : List Entry) : List Entry → Type 0 where
  finds-none : Finds all []
  finds : {e : Entry} {es : List Entry} → lookup e.name all ≡ Some e → Finds all es → Finds all (e ∷ es)

finds-more : {all es : List Entry} (x : Entry) → Finds all es → Finds (x ∷ all) es
unfolding lookup
finds-more x finds-none = finds-none
finds-more x (finds {e = e} h f) = finds {e = e} (rw h refl) (finds-more x f)

pub finds-all : {k : Kind} {a : ℕ} {ts : List Tensor} {es : List Entry} → Listed k a ts es → Apart ts → Finds es es
unfolding lookup
finds-all nothing apart_none = finds-none
finds-all (listed {e = x} {es = es} e v l) (apart n p) =
    let u : lookup x.name es ≡ None = rw e (unlisted l n) in
    finds {e = x} (rw (u, same_self x.name) refl) (finds-more x (finds-all l p))

-- ---- by its number

-- it is described by its kind, its count and its bytes, which begin somewhere and lie in the data
pub record Placed (k : Kind) (bytes : ℕ) (f : Found) (count : ℕ) : Type 0 where
  pub begin : ℕ
  pub is : f ≡ described (dtype_of k) (count ∷ []) begin (begin + count * size_of k)
  pub inside : begin + count * size_of k ≤ bytes

placed-in :
    {k : Kind} {a : ℕ} {ts : List Tensor} {es all : List Entry} (bytes : ℕ) → Listed k a ts es → Finds all es → a + bytes_of_all k ts ≤ bytes →
    (i : ℕ) → i < length ts → Placed k bytes (found_in (entry_at ts all i)) (count_at ts i)
unfolding entry_at count_at
placed-in bytes nothing finds-none h i j = absurd (omega arith)
placed-in bytes (listed {a = a} e v l) (finds f g) h zero j = record { begin = a; is = rw (← e, f) v; inside = omega arith }
placed-in bytes (listed e v l) (finds f g) h (suc i) j = placed-in bytes l g (omega arith) i (omega arith)

pub placed :
    {k : Kind} {a : ℕ} {ts : List Tensor} {es : List Entry} (bytes : ℕ) → Listed k a ts es → Apart ts → a + bytes_of_all k ts ≤ bytes →
    (i : ℕ) → i < length ts → Placed k bytes (found_in (entry_at ts es i)) (count_at ts i)
placed bytes l p h = placed-in bytes l (finds-all l p) h
