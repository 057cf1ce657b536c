-- Laws of `count`, and of pieces that may be empty. Assumes nothing.
use mathlib.Core.Path.{◌≡◌, refl, sym, ap, ◌∙◌}
use mathlib.Core.Bool.{Bool, true, false, not, ◌&&◌, cond, true≢false}
use mathlib.Core.List.{List, [], ◌++◌, append_assoc}
use Prim.Native.Nat.{ℕ, zero, suc, ◌+◌, ◌*◌, ◌-◌, ◌≤◌, ◌<◌}
use native.Mathlib.Nat.{add-zero, add-suc, add_assoc, zero-mul}
use native.Mathlib.Omega.{arith}
use native.Mathlib.Decide.{dec_lt}
use native.Mathlib.Numerals.{add-one}
use lib.ListN.{length, take, drop, length-append}
use lib.Seq.{take_at, drop_at}
use Rattle.buffers.specs.Rows.{rows, all, count}
use Rattle.buffers.specs.Region.{region, put}
use Rattle.buffers.proofs.Lists.{rows-add}
use Rattle.buffers.proofs.Regions.{put-append}

one-le : (b : Bool) → cond b 1 0 ≤ 1
one-le true = omega arith
one-le false = omega arith

pub count-le : (n : ℕ) (f : ℕ → Bool) → count n f ≤ n
unfolding count
count-le zero f = omega arith
count-le (suc n) f = omega (arith, count-le n f, one-le (f n))

-- a turn of a loop that counts
pub count-step : (n : ℕ) (f : ℕ → Bool) (a b : ℕ) → a ≡ count n f → b ≡ cond (f n) 1 0 → a + b ≡ count (n + 1) f
unfolding count
count-step n f a b d e = rw (add-one n, d, e) refl

pub count_add : (n m : ℕ) (f : ℕ → Bool) → count (n + m) f ≡ count n f + count m (λ j. f (n + j))
unfolding count
count_add n zero f = ap (λ (k : ℕ). count k f) (add-zero n) ∙ sym (add-zero (count n f))
count_add n (suc m) f =
    ap (λ (k : ℕ). count k f) (add-suc n m) ∙ ap (λ (k : ℕ). k + cond (f (n + m)) 1 0) (count_add n m f) ∙ add_assoc (count n f) (count m (λ j. f (n + j))) (cond (f (n + m)) 1 0)

pub count-mono : (n m : ℕ) (f : ℕ → Bool) → n ≤ m → count n f ≤ count m f
count-mono n m f h =
    let e : n + (m - n) ≡ m = omega arith in
    let g = count_add n (m - n) f in
    let k : count (n + (m - n)) f ≡ count m f = ap (λ (i : ℕ). count i f) e in
    omega (arith, g, k)

pub count-ext : (n : ℕ) (f g : ℕ → Bool) → ((i : ℕ) → i < n → f i ≡ g i) → count n f ≡ count n g
unfolding count
count-ext zero f g h = refl
count-ext (suc n) f g h = let e = count-ext n f g (λ i l. h i (omega arith)) in let e' = h n (omega arith) in cc

-- entries of three elements, of those that are counted
pub length-entries : {A : Type 0} (n : ℕ) (f : ℕ → Bool) (g : ℕ → List A) → ((i : ℕ) → length (g i) ≡ 3) → length (rows n (λ i. cond (f i) (g i) [])) ≡ count n f * 3
unfolding rows count
length-entries zero f g e = sym (zero-mul 3)
length-entries (suc n) f g e =
    length-append (rows n (λ i. cond (f i) (g i) [])) (cond (f n) (g n) []) ∙ go (f n) (length-entries n f g e)
  where
    go : (b : Bool) → length (rows n (λ i. cond (f i) (g i) [])) ≡ count n f * 3 → length (rows n (λ i. cond (f i) (g i) [])) + length (cond b (g n) []) ≡ (count n f + cond b 1 0) * 3
    go true r = omega (arith, r, e n)
    go false r = omega (arith, r)

-- a turn of a loop that writes pieces of any length, one behind the other
pub put-more : {A : Type 0} (s : List A) (y r : ℕ) (f : ℕ → List A) (o : ℕ) → o ≡ y + length (rows r f) → put (put s y (rows r f)) o (f r) ≡ put s y (rows (r + 1) f)
unfolding rows
put-more s y r f o e = rw add-one (put-append s y (rows r f) (f r) o e)

-- ---- what fails is counted exactly where not all passes
pub none-fails : (n : ℕ) (f : ℕ → Bool) → count n (λ i. not (f i)) ≡ 0 → all n f ≡ true
unfolding count all
none-fails zero f e = refl
none-fails (suc n) f e = go (f n) refl (λ z. none-fails n f z)
  where
    go : (b : Bool) → f n ≡ b → (count n (λ i. not (f i)) ≡ 0 → all n f ≡ true) → all n f && f n ≡ true
    go true h r = rw (h, r (omega (arith, e))) refl
    go false h r = let z : ◌≡◌ {A = ℕ} (cond (not (f n)) 1 0) 1 = rw h refl in absurd (omega (arith, e, z))

pub one-fails : (n : ℕ) (f : ℕ → Bool) → 0 < count n (λ i. not (f i)) → all n f ≡ false
unfolding count all
one-fails zero f l = absurd (omega arith)
one-fails (suc n) f l = go (f n) refl (all n f) refl (λ z. one-fails n f z)
  where
    go : (b : Bool) → f n ≡ b → (a : Bool) → all n f ≡ a → (0 < count n (λ i. not (f i)) → all n f ≡ false) → all n f && f n ≡ false
    go true h a g r = let z : ◌≡◌ {A = ℕ} (cond (not (f n)) 1 0) 0 = rw h refl in rw (h, r (omega (arith, l, z))) refl
    go false h true g r = rw (h, g) refl
    go false h false g r = rw (h, g) refl

-- ---- the j-th that passes: each that passes has its number, each number below the count is of one, and they rise
pub count_at : (n i : ℕ) (f : ℕ → Bool) → i < n → f i ≡ true → count i f < count n f
count_at n i f l e =
    let z = count-step i f (count i f) (cond (f i) 1 0) refl refl in
    let u : ◌≡◌ {A = ℕ} (cond (f i) 1 0) 1 = rw e refl in
    omega (arith, z, u, count-mono (i + 1) n f (omega arith))

pub record Passes (n : ℕ) (f : ℕ → Bool) (j : ℕ) : Type 0 where
  pub at : ℕ
  pub inside : at < n
  pub passes : f at ≡ true
  pub numbered : count at f ≡ j

pub passes_at : (n : ℕ) (f : ℕ → Bool) (j : ℕ) → j < count n f → Passes n f j
unfolding count
passes_at zero f j l = absurd (omega arith)
passes_at (suc n) f j l = go (f n) refl (dec_lt j (count n f)) (λ z. passes_at n f j z)
  where
    go : (b : Bool) → f n ≡ b → Dec (j < count n f) → (j < count n f → Passes n f j) → Passes (suc n) f j
    go b e (yes h) r = let p = r h in record { at = p.at; inside = omega (arith, p.inside); passes = p.passes; numbered = p.numbered }
    go true e (no h) r = let z : ◌≡◌ {A = ℕ} (cond (f n) 1 0) 1 = rw e refl in record { at = n; inside = omega arith; passes = e; numbered = omega (arith, l, z) }
    go false e (no h) r = let z : ◌≡◌ {A = ℕ} (cond (f n) 1 0) 0 = rw e refl in absurd (omega (arith, l, z))

-- the entry of one that passes stands at its number
pub entry_at : {A : Type 0} (n i : ℕ) (f : ℕ → Bool) (g : ℕ → List A) → ((i : ℕ) → length (g i) ≡ 3) → i < n → f i ≡ true → region (rows n (λ i. cond (f i) (g i) [])) (count i f * 3) 3 ≡ g i
unfolding rows
entry_at {A} n i f g e l h =
    let r : ℕ → List A = λ i. cond (f i) (g i) [] in
    let m = n - (i + 1) in
    let q : n ≡ (i + 1) + m = omega arith in
    let rest = rows m (λ j. r (i + 1 + j)) in
    let u : r i ≡ g i = rw h refl in
    let s : rows n r ≡ rows i r ++ (g i ++ rest) =
    ap (λ (x : ℕ). rows x r) q ∙ rows-add (i + 1) m r ∙ ap (λ (x : ℕ). rows x r ++ rest) (add-one i) ∙ append_assoc (rows i r) (r i) rest ∙ ap (λ (x : List A). rows i r ++ (x ++ rest)) u in
    ap (λ (x : List A). take 3 (drop (count i f * 3) x)) s
    ∙ ap (take 3) (drop_at (rows i r) (g i ++ rest) (count i f * 3) (length-entries i f g e))
    ∙ take_at (g i) rest 3 (e i)
