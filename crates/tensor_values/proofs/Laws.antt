-- The statements of specs/Laws.antt, and where the values go. Assumes nothing.
use mathlib.Core.Path.{◌≡◌, refl, sym, ap, ◌∙◌}
use mathlib.Core.List.{List, [], ◌∷◌, map}
use Prim.Native.Nat.{ℕ, zero, suc, ◌*◌, ◌/◌, ◌^◌, ◌≤◌, ◌<◌}
use native.Mathlib.Omega.{arith}
use borrow.Author.Tests.{le-leb, lt-leb}
use lib.ListN.{length, get_or}
use Rattle.buffers.specs.Rows.{tab, rows}
use Rattle.buffers.specs.Region.{put, copied}
use Rattle.buffers.specs.Each.{each}
use Rattle.buffers.specs.Lent.{Bytes}
use Rattle.buffers.proofs.Regions.{put-over}
use Rattle.buffers.proofs.Bytes.{no_bytes, bytes-rows}
use Rattle.buffers.proofs.Lists.{length-tab, get_or-tab, tab-ext, tab-self, length-pieces, piece-at}
use Rattle.number_bf16_half_root.specs.Half.{half}
use Rattle.number_bf16_half_root.specs.Packed.{widened}
use Rattle.tensor_values.specs.declared.Kind.{Kind}
use Rattle.tensor_values.specs.declared.Kind.TheVariants.{F32, BF16, F16}
use Rattle.tensor_values.specs.Values.{size_of, little, widened_by, value_of, values_of, digits, bytes_by}
use Rattle.tensor_values.specs.Laws.{How-many, Made-of-bytes, F32-back, BF16-widened, F16-widened}

pub size-positive : (k : Kind) → 0 < size_of k
size-positive F32 = omega arith
size-positive BF16 = omega arith
size-positive F16 = omega arith

pub length-values : How-many
unfolding values_of
length-values k b = length-tab (length b / size_of k) (value_of k b)

pub value-at : (k : Kind) (b : List ℕ) (i : ℕ) → i < length b / size_of k → get_or (values_of k b) i 0 ≡ value_of k b i
unfolding values_of
value-at k b i h = get_or-tab (length b / size_of k) i (value_of k b) 0 h

-- ---- what the loops leave is what the contract says
pub fits : (k : Kind) (b out : List ℕ) → length b / size_of k ≤ length out → put out 0 (values_of k b) ≡ copied (values_of k b) out
unfolding copied
fits k b out h =
    let l : length (values_of k b) ≤ length out = rw (length-values k b) h in
    put-over out (values_of k b) l ∙ sym (simp (le-leb (length (values_of k b)) (length out) l))

pub short : (k : Kind) (b out : List ℕ) → length out < length b / size_of k → out ≡ copied (values_of k b) out
unfolding copied
short k b out h = sym (simp (lt-leb (length (values_of k b)) (length out) (rw (length-values k b) h)))

-- ---- bytes of numbers, read back
length_digits : (n x : ℕ) → length (digits n x) ≡ n
unfolding digits
length_digits zero x = refl
length_digits (suc n) x = ap suc (length_digits n (x / 256))

bytes-digits : (n x : ℕ) → Bytes (digits n x)
unfolding digits
bytes-digits zero x i = no_bytes i
bytes-digits (suc n) x zero = omega arith
bytes-digits (suc n) x (suc i) = bytes-digits n (x / 256) i

pub bytes-by : Made-of-bytes
bytes-by n l = bytes-rows (length l) (λ i. digits n (get_or l i 0)) (λ i h. bytes-digits n (get_or l i 0))

pub length-bytes : (n : ℕ) (l : List ℕ) → length (bytes_by n l) ≡ length l * n
length-bytes n l = length-pieces (length l) n (λ i. digits n (get_or l i 0)) (λ i h. length_digits n (get_or l i 0))

two_back : (x : ℕ) → x < 2 ^ 16 → little (digits 2 x) ≡ x
unfolding digits
two_back x h = omega arith

four-back : (x : ℕ) → x < 2 ^ 32 → little (digits 4 x) ≡ x
unfolding digits
four-back x h = omega arith

whole : (k : Kind) (n : ℕ) → n * size_of k / size_of k ≡ n
whole F32 n = omega arith
whole BF16 n = omega arith
whole F16 n = omega arith

values-back : (k : Kind) (l : List ℕ) → ((i : ℕ) → little (digits (size_of k) (get_or l i 0)) ≡ get_or l i 0) → values_of k (bytes_by (size_of k) l) ≡ each 0 (length l) (widened_by k) l
unfolding value_of values_of
values-back k l h =
    let n = length l in
    let m = size_of k in
    let D : ℕ → List ℕ = λ i. digits m (get_or l i 0) in
    let d : (i : ℕ) → i < n → length (D i) ≡ m = λ i g. length_digits m (get_or l i 0) in
    ap (λ (j : ℕ). tab (j / m) (value_of k (rows n D))) (length-bytes m l)
    ∙ ap (λ (j : ℕ). tab j (value_of k (rows n D))) (whole k n)
    ∙ tab-ext n (value_of k (rows n D)) (λ i. widened_by k (get_or l i 0)) (λ i g. ap (λ (r : List ℕ). widened_by k (little r)) (piece-at n m i D d g) ∙ ap (widened_by k) (h i))

-- each element by its index, and all of them
each_map : (f : ℕ → ℕ) (l : List ℕ) → each 0 (length l) f l ≡ map f l
each_map f l = tab-ext (length l) (λ i. f (get_or l i 0)) (λ i. get_or (map f l) i 0) (at l) ∙ tab-self (map f l) (length l) 0 (same l)
  where
    same : (l : List ℕ) → length (map f l) ≡ length l
    same [] = refl
    same (x ∷ l) = ap suc (same l)

    at : (l : List ℕ) (i : ℕ) → i < length l → f (get_or l i 0) ≡ get_or (map f l) i 0
    at [] i h = absurd (omega arith)
    at (x ∷ l) zero h = refl
    at (x ∷ l) (suc i) h = at l i (omega arith)

pub values-of-bytes : F32-back
values-of-bytes l h = values-back F32 l (λ i. four-back (get_or l i 0) (h i)) ∙ tab-self l (length l) 0 refl

pub values-of-bf16s : BF16-widened
values-of-bf16s l h = values-back BF16 l (λ i. two_back (get_or l i 0) (h i)) ∙ each_map widened l

pub values-of-halves : F16-widened
values-of-halves l h = values-back F16 l (λ i. two_back (get_or l i 0) (h i)) ∙ each_map half l
