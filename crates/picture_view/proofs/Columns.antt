-- Pieces of rows, written column by column: they are the rows, where no row reaches into the next. Assumes nothing.
use mathlib.Core.Path.{◌≡◌, refl, sym, ap, ◌∙◌}
use mathlib.Core.List.{List, [], ◌++◌}
use Prim.Native.Nat.{ℕ, zero, suc, ◌+◌, ◌<◌}
use native.Mathlib.Nat.{add-zero}
use native.Mathlib.Omega.{arith}
use lib.ListN.{length}
use Rattle.buffers.specs.Region.{put, put_rows}
use Rattle.buffers.specs.inner.Apart.{Apart}
use Rattle.buffers.proofs.Regions.{put-nil, put-append, put-comm}

module _ {A : Type 0} where
  pub puts_none : (s : List A) (n : ℕ) (at : ℕ → ℕ) → put_rows s n at (λ _. []) ≡ s
  unfolding put_rows
  puts_none s zero at = refl
  puts_none s (suc n) at = put-nil (put_rows s n at (λ _. [])) (at n) ∙ puts_none s n at

  -- a write apart from all pieces can as well come first
  pub puts-put : (s : List A) (n : ℕ) (at : ℕ → ℕ) (f : ℕ → List A) (b : ℕ) (ys : List A) → ((i : ℕ) → i < n → Apart b (length ys) (at i) (length (f i)))
      → put (put_rows s n at f) b ys ≡ put_rows (put s b ys) n at f
  unfolding put_rows
  puts-put s zero at f b ys h = refl
  puts-put s (suc n) at f b ys h =
      put-comm (put_rows s n at f) (at n) (f n) b ys (h n (omega arith)) ∙ ap (λ (l : List A). put l (at n) (f n)) (puts-put s n at f b ys (λ i k. h i (omega arith)))

  -- pieces behind the pieces of rows make the rows longer
  pub puts-longer : (s : List A) (n : ℕ) (at bt : ℕ → ℕ) (f g : ℕ → List A) → ((i : ℕ) → i < n → bt i ≡ at i + length (f i))
      → ((i j : ℕ) → i < j → j < n → Apart (at j) (length (f j)) (bt i) (length (g i)))
      → put_rows (put_rows s n at f) n bt g ≡ put_rows s n at (λ i. f i ++ g i)
  unfolding put_rows
  puts-longer s zero at bt f g e h = refl
  puts-longer s (suc n) at bt f g e h =
      let t = put_rows s n at f in
      let r = put_rows s n at (λ i. f i ++ g i) in
      ap (λ (l : List A). put l (bt n) (g n))
      (sym (puts-put t n bt g (at n) (f n) (λ i k. h i n k (omega arith)))
      ∙ ap (λ (l : List A). put l (at n) (f n)) (puts-longer s n at bt f g (λ i k. e i (omega arith)) (λ i j k m. h i j k (omega arith))))
      ∙ put-append r (at n) (f n) (g n) (bt n) (e n (omega arith))

  -- more rows behind rows
  pub puts-more : (s : List A) (y n : ℕ) (at : ℕ → ℕ) (f : ℕ → List A) → put_rows (put_rows s y at f) n (λ i. at (y + i)) (λ i. f (y + i)) ≡ put_rows s (y + n) at f
  unfolding put_rows
  puts-more s y zero at f = ap (λ (k : ℕ). put_rows s k at f) (sym (add-zero y))
  puts-more s y (suc n) at f =
      let e : suc (y + n) ≡ y + suc n = omega arith in
      ap (λ (l : List A). put l (at (y + n)) (f (y + n))) (puts-more s y n at f) ∙ ap (λ (k : ℕ). put_rows s k at f) e
