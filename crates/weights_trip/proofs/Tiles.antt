-- Tensors whose bytes stand one behind the other have, joined, the values of all the bytes. Assumes nothing.
use Rattle.std.specs.Prelude.{Some}
use mathlib.Core.Path.{◌≡◌, refl, sym, ap, ◌∙◌}
use mathlib.Core.List.{List, [], ◌∷◌, ◌++◌, append_assoc, append-nil}
use Prim.Native.Nat.{ℕ, zero, suc, ◌+◌, ◌*◌, ◌/◌, ◌≤◌, ◌<◌}
use native.Mathlib.Nat.{add-sub_cancel_left, add-mul}
use native.Mathlib.Omega.{arith}
use lib.ListN.{length, take, drop, length-append, length-drop}
use lib.Seq.{take-add, drop-drop, take-append-le, drop-append-le, drop-append-add}
use Rattle.buffers.specs.Rows.{tab, rows}
use Rattle.buffers.specs.Region.{region}
use Rattle.buffers.proofs.Lists.{fit, tab-ext, tab-add}
use Rattle.buffers.proofs.Regions.{length-region}
use Rattle.json_members.specs.Names.{Entry, same}
use Rattle.tensor_values.specs.declared.Kind.{Kind}
use Rattle.tensor_values.specs.declared.Kind.TheVariants.{F32, BF16, F16}
use Rattle.tensor_values.specs.Values.{size_of, little, widened_by, value_of, values_of}
use Rattle.tensor_header.specs.Tensors.{Tensor, entry_at}
use Rattle.weights.specs.File.{kind_of, found_in, floats_in}
use Rattle.weights_trip.specs.Plainest.{dtype_of, bytes_in}
use Rattle.weights_trip.proofs.Entries.{bytes_of_all, Listed, nothing, listed}
use Rattle.weights_trip.proofs.Found.{Finds, finds-none, finds}

-- ---- values of bytes in two parts, of which the first makes m values

module _ (x y : List ℕ) (m z : ℕ) (h : length x ≡ m * z) where
  in-first : (i : ℕ) → i < m → region (x ++ y) (i * z) z ≡ region x (i * z) z
  in-first i g =
      let f = fit z g in
      let d : i * z ≤ length x = omega arith in
      let e : z ≤ length (drop (i * z) x) = simp length-drop (omega arith) in
      rw (drop-append-le (i * z) x y d, take-append-le z (drop (i * z) x) y e) refl

  in-second : (i : ℕ) → region (x ++ y) ((m + i) * z) z ≡ region y (i * z) z
  in-second i =
      let e : (m + i) * z ≡ length x + i * z = add-mul m i z ∙ ap (λ (n : ℕ). n + i * z) (sym h) in
      ap (λ (n : ℕ). region (x ++ y) n z) e ∙ ap (λ (l : List ℕ). take z l) (drop-append-add x y (i * z))

wholes : (k : Kind) (m n : ℕ) → (m * size_of k + n) / size_of k ≡ m + n / size_of k
wholes F32 m n = omega arith
wholes BF16 m n = omega arith
wholes F16 m n = omega arith

whole : (k : Kind) (m : ℕ) → m * size_of k / size_of k ≡ m
whole F32 m = omega arith
whole BF16 m = omega arith
whole F16 m = omega arith

pub values-append : (k : Kind) (x y : List ℕ) (m : ℕ) → length x ≡ m * size_of k → values_of k (x ++ y) ≡ values_of k x ++ values_of k y
unfolding values_of value_of
values-append k x y m h =
    let z = size_of k in
    let n = length y / z in
    let f : ℕ → ℕ = value_of k (x ++ y) in
    let e : length (x ++ y) / z ≡ m + n = ap (λ (i : ℕ). i / z) (length-append x y ∙ ap (λ (i : ℕ). i + length y) h) ∙ wholes k m (length y) in
    let a : tab m f ≡ tab (length x / z) (value_of k x) = tab-ext m f (value_of k x) (λ i g. ap (λ (l : List ℕ). widened_by k (little l)) (in-first x y m z h i g)) ∙ ap (λ (i : ℕ). tab i (value_of k x)) (sym (ap (λ (i : ℕ). i / z) h ∙ whole k m)) in
    let b : tab n (λ i. f (m + i)) ≡ tab n (value_of k y) = tab-ext n (λ i. f (m + i)) (value_of k y) (λ i g. ap (λ (l : List ℕ). widened_by k (little l)) (in-second x y m z h i)) in
    ap (λ (i : ℕ). tab i f) e ∙ tab-add m n f ∙ ap (λ (l : List ℕ). l ++ tab n (λ i. f (m + i))) a ∙ ap (λ (l : List ℕ). tab (length x / z) (value_of k x) ++ l) b

region-split : (l : List ℕ) (a m n : ℕ) → region l a (m + n) ≡ region l a m ++ region l (a + m) n
region-split l a m n = take-add m n (drop a l) ∙ ap (λ (x : List ℕ). region l a m ++ take n x) (drop-drop m a l)

-- ---- tensor after tensor

rows-front : (n : ℕ) (f : ℕ → List ℕ) → rows (suc n) f ≡ f 0 ++ rows n (λ i. f (suc i))
unfolding rows
rows-front zero f = sym (append-nil (f 0))
rows-front (suc n) f = ap (λ (l : List ℕ). l ++ f (suc n)) (rows-front n f) ∙ append_assoc (f 0) (rows n (λ i. f (suc i))) (f (suc n))

pub kind-of : (k : Kind) → kind_of (dtype_of k) ≡ Some k
unfolding same
kind-of F32 = refl
kind-of BF16 = refl
kind-of F16 = refl

no-values : (k : Kind) → [] ≡ values_of k []
unfolding values_of tab
no-values F32 = refl
no-values BF16 = refl
no-values F16 = refl

pub tiled :
    {k : Kind} {a : ℕ} {ts : List Tensor} {es all : List Entry} (bytes : List ℕ) → Listed k a ts es → Finds all es → a + bytes_of_all k ts ≤ length bytes →
    rows (length ts) (λ i. floats_in bytes (found_in (entry_at ts all i))) ≡ values_of k (region bytes a (bytes_of_all k ts))
unfolding rows entry_at
tiled {k} {a} bytes nothing finds-none h = no-values k
tiled {k} {all = all} bytes (listed {a = a} {t = t} {ts = ts} e v l) (finds f g) h =
    let n = bytes_in k t in
    let r = bytes_of_all k ts in
    let own : floats_in bytes (found_in (entry_at (t ∷ ts) all 0)) ≡ values_of k (region bytes a n) = rw (← e, f, v, kind-of k, add-sub_cancel_left a n) refl in
    rows-front (length ts) (λ i. floats_in bytes (found_in (entry_at (t ∷ ts) all i)))
    ∙ ap (λ (x : List ℕ). x ++ rows (length ts) (λ i. floats_in bytes (found_in (entry_at ts all i)))) own
    ∙ ap (λ (x : List ℕ). values_of k (region bytes a n) ++ x) (tiled bytes l g (omega arith))
    ∙ sym (values-append k (region bytes a n) (region bytes (a + n) r) t.count (length-region bytes a n (omega arith)))
    ∙ ap (values_of k) (sym (region-split bytes a n r))
