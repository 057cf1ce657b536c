-- Laws of what is written band by band: a band is one piece of each row, and once every band is written the rows are one
-- write. Assumes nothing.
use mathlib.Core.Path.{◌≡◌, refl, sym, ap, ◌∙◌}
use mathlib.Core.Bool.{Bool, true, false, ◌&&◌}
use mathlib.Core.List.{List, []}
use Prim.Native.Nat.{ℕ, zero, suc, ◌+◌, ◌*◌, ◌-◌, ◌≤◌, ◌<◌}
use native.Mathlib.Omega.{arith}
use lib.ListN.{length, drop, take-append-drop}
use lib.Seq.{drop-drop}
use lib.Ieee.{Float}
use Rattle.buffers.specs.Rows.{tab, rows, all}
use Rattle.buffers.specs.Region.{region, put, put_rows}
use Rattle.buffers.specs.Each.{blank}
use Rattle.buffers.specs.inner.Apart.{Apart, before}
use Rattle.buffers.proofs.Regions.{put-append, put-put, put-comm, put-split, region-put, length-region, apart-sym}
use Rattle.buffers.proofs.Lists.{fit, length-tab, tab-add, length-rows}
use Rattle.buffers.proofs.Steps.{blank-region}
use Rattle.encoder_kernels.specs.Kernels.{all_finite}
use Rattle.encoder_kernels.proofs.Finites.{all-finite-append, all-finite-rows}

module _ {A : Type 0} where
  -- a write apart from the pieces may come before them
  pub puts-put : (s : List A) (at : ℕ → ℕ) (f : ℕ → List A) (n a : ℕ) (l : List A) → ((i : ℕ) → i < n → Apart (at i) (length (f i)) a (length l))
      → put_rows (put s a l) n at f ≡ put (put_rows s n at f) a l
  unfolding put_rows
  puts-put s at f zero a l h = refl
  puts-put s at f (suc n) a l h =
      ap (λ x. put x (at n) (f n)) (puts-put s at f n a l (λ i k. h i (omega arith)))
      ∙ put-comm (put_rows s n at f) a l (at n) (f n) (h n (omega arith))

  pub puts_none : (s : List A) (at : ℕ → ℕ) (n : ℕ) → put_rows s n at (λ _. []) ≡ s
  unfolding put_rows put
  puts_none s at zero = refl
  puts_none s at (suc n) = puts_none s at n

  -- what lies apart from the pieces is as it was
  pub puts-region : (s : List A) (at : ℕ → ℕ) (f : ℕ → List A) (n x k : ℕ) → ((i : ℕ) → i < n → Apart x k (at i) (length (f i)))
      → region (put_rows s n at f) x k ≡ region s x k
  unfolding put_rows
  puts-region s at f zero x k h = refl
  puts-region s at f (suc n) x k h =
      region-put (put_rows s n at f) (at n) (f n) x k (h n (omega arith)) ∙ puts-region s at f n x k (λ i l. h i (omega arith))

  -- also in a scratch of which a part is blank
  pub puts_seen : (d : A) (g m : ℕ) (s u : List A) (at : ℕ → ℕ) (f : ℕ → List A) (n x k : ℕ) → blank d g m u ≡ put_rows (blank d g m s) n at f
      → Apart x k g m → ((i : ℕ) → i < n → Apart x k (at i) (length (f i))) → region u x k ≡ region s x k
  puts_seen d g m s u at f n x k e a h =
      sym (blank-region d g m u x k a) ∙ ap (λ l. region l x k) e ∙ puts-region (blank d g m s) at f n x k h ∙ blank-region d g m s x k a

  -- h bands of n rows of dim, and the next
  pub puts-more : (F : ℕ → ℕ → List A) (hd : ℕ) → ((i h : ℕ) → length (F i h) ≡ hd) → (s : List A) (out dim h n : ℕ) → h * hd + hd ≤ dim
      → put_rows (put_rows s n (λ i. out + i * dim) (λ i. rows h (F i))) n (λ i. out + (i * dim + h * hd)) (λ i. F i h)
      ≡ put_rows s n (λ i. out + i * dim) (λ i. rows (suc h) (F i))
  unfolding put_rows rows
  puts-more F hd len s out dim h zero b = refl
  puts-more F hd len s out dim h (suc n) b =
      let X = put_rows s n (λ i. out + i * dim) (λ i. rows h (F i)) in
      let Y = put_rows X n (λ i. out + (i * dim + h * hd)) (λ i. F i h) in
      let l = length-rows (F n) hd (len n) h in
      ap (λ x. put x (out + (n * dim + h * hd)) (F n h))
      (puts-put X (λ i. out + (i * dim + h * hd)) (λ i. F i h) n (out + n * dim) (rows h (F n)) (λ i k. let f = fit dim k in rw (len i h, l) (before (omega arith))))
      ∙ put-append Y (out + n * dim) (rows h (F n)) (F n h) (out + (n * dim + h * hd)) (rw l (omega arith))
      ∙ ap (λ x. put x (out + n * dim) (rows (suc h) (F n))) (puts-more F hd len s out dim h n b)

  -- a write inside the blank does not show
  within : (d : A) (at i r : ℕ) (s ys : List A) → blank d at (i + (length ys + r)) (put s (at + i) ys) ≡ blank d at (i + (length ys + r)) s
  within d at i r s ys =
      let m = length ys in
      let K : ℕ → A = λ _. d in
      let li = length-tab i K in
      let lm = length-tab m K in
      let X = put s at (tab i K) in
      let three : (x : List A) → blank d at (i + (m + r)) x ≡ put (put (put x at (tab i K)) (at + i) (tab m K)) (at + i + m) (tab r K) =
      λ x. ap (put x at) (tab-add i (m + r) K)
      ∙ sym (put-append x at (tab i K) (tab (m + r) K) (at + i) (rw li refl))
      ∙ ap (put (put x at (tab i K)) (at + i)) (tab-add m r K)
      ∙ sym (put-append (put x at (tab i K)) (at + i) (tab m K) (tab r K) (at + i + m) (rw lm refl)) in
      three (put s (at + i) ys)
      ∙ ap (λ x. put (put x (at + i) (tab m K)) (at + i + m) (tab r K)) (put-comm s (at + i) ys at (tab i K) (rw li (before (omega arith))))
      ∙ ap (λ x. put x (at + i + m) (tab r K)) (put-put X (at + i) ys (tab m K) (sym lm))
      ∙ sym (three s)

  pub blank-in : (d : A) (at n y : ℕ) (s ys : List A) → at ≤ y → y + length ys ≤ at + n → blank d at n (put s y ys) ≡ blank d at n s
  blank-in d at n y s ys a b =
      let p : at + (y - at) ≡ y = omega arith in
      let q : y - at + (length ys + (at + n - (y + length ys))) ≡ n = omega arith in
      rw (p, q) at (within d at (y - at) (at + n - (y + length ys)) s ys)

  -- what stands there, written again
  put-again : (s : List A) (at n : ℕ) → at + n ≤ length s → put s at (region s at n) ≡ s
  put-again s at n h =
      let l = length-region s at n h in
      put-split s at (region s at n) (rw l h)
      ∙ rw (l, ← drop-drop n at s, take-append-drop n (drop at s)) (take-append-drop at s)

  -- a scratch whose part at k was blank, written over what it had there
  pub blank-back : (d : A) (k n out : ℕ) (s u l : List A) → k + n ≤ length s → Apart out (length l) k n → blank d k n u ≡ put (blank d k n s) out l
      → put u k (region s k n) ≡ put s out l
  blank-back d k n out s u l h a e =
      let R = region s k n in
      let r = length-region s k n h in
      let T = tab n (λ _. d) in
      let m : length T ≡ length R = length-tab n (λ _. d) ∙ sym r in
      sym (put-put u k T R m)
      ∙ ap (λ x. put x k R) e
      ∙ put-comm (put s k T) out l k R (rw r (apart-sym a))
      ∙ ap (λ x. put x out l) (put-put s k T R m ∙ put-again s k n h)

all_true : (n : ℕ) → true ≡ all n (λ _. true)
unfolding all
all_true zero = refl
all_true (suc n) = rw (← all_true n)

four : (a b c d : Bool) → (a && b) && (c && d) ≡ (a && c) && (b && d)
four true true c d = refl
four true false true d = refl
four true false false d = refl
four false b c d = refl

all-and : (n : ℕ) (f g : ℕ → Bool) → all n f && all n g ≡ all n (λ i. f i && g i)
unfolding all
all-and zero f g = refl
all-and (suc n) f g = four (all n f) (f n) (all n g) (g n) ∙ ap (λ b. b && (f n && g n)) (all-and n f g)

all-swap : (n m : ℕ) (f : ℕ → ℕ → Bool) → all n (λ i. all m (f i)) ≡ all m (λ j. all n (λ i. f i j))
unfolding all
all-swap zero m f = all_true m
all-swap (suc n) m f = ap (λ b. b && all m (f n)) (all-swap n m f) ∙ all-and m (λ j. all n (λ i. f i j)) (f n)

all-finites : (n m : ℕ) (f : ℕ → ℕ → List Float) → all_finite (rows n (λ i. rows m (f i))) ≡ all n (λ i. all m (λ j. all_finite (f i j)))
unfolding rows all all_finite
all-finites zero m f = refl
all-finites (suc n) m f = all-finite-append (rows n (λ i. rows m (f i))) (rows m (f n)) ∙ rw (all-finites n m f, all-finite-rows m (f n))

-- all are finite whichever way they are gone through
pub all-finite-turned : (n m : ℕ) (f : ℕ → ℕ → List Float) → all_finite (rows m (λ j. rows n (λ i. f i j))) ≡ all_finite (rows n (λ i. rows m (f i)))
all-finite-turned n m f = all-finites m n (λ j i. f i j) ∙ all-swap m n (λ j i. all_finite (f i j)) ∙ sym (all-finites n m f)
