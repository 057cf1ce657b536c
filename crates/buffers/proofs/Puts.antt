-- Laws of `put_rows`: what was written, and what was kept. Assumes nothing.
use mathlib.Core.Path.{◌≡◌, refl, sym, ap, ◌∙◌}
use mathlib.Core.List.{List}
use Prim.Native.Nat.{ℕ, zero, suc, ◌+◌, ◌*◌, ◌≤◌, ◌<◌}
use native.Mathlib.Omega.{arith}
use native.Mathlib.Numerals.{add-one}
use native.Mathlib.Decide.{dec_lt}
use lib.ListN.{length, get_or}
use Rattle.buffers.specs.Region.{put, put_rows}
use Rattle.buffers.specs.inner.Apart.{Apart, before}
use Rattle.buffers.proofs.Regions.{length-put, get_or-put, get_or-put-same}
use Rattle.buffers.specs.Rows.{rows}
use Rattle.buffers.proofs.Lists.{put-rows}

module _ {A : Type 0} (s : List A) (at : ℕ → ℕ) (f : ℕ → List A) where
  pub length-puts : (n : ℕ) → length (put_rows s n at f) ≡ length s
  unfolding put_rows
  length-puts zero = refl
  length-puts (suc n) = length-put (put_rows s n at f) (at n) (f n) ∙ length-puts n

  -- a turn of a loop that writes them
  pub puts-step : (n : ℕ) → put (put_rows s n at f) (at n) (f n) ≡ put_rows s (n + 1) at f
  unfolding put_rows
  puts-step n = ap (λ (k : ℕ). put_rows s k at f) (sym (add-one n))

  -- a place in none of the pieces is kept
  pub puts-keep : (n k : ℕ) (d : A) → ((y : ℕ) → y < n → Apart k 1 (at y) (length (f y))) → get_or (put_rows s n at f) k d ≡ get_or s k d
  unfolding put_rows
  puts-keep zero k d h = refl
  puts-keep (suc n) k d h = get_or-put (put_rows s n at f) (at n) (f n) k d (h n (omega arith)) ∙ puts-keep n k d (λ y l. h y (omega arith))

  -- a place in piece y has what piece y has, where later pieces lie behind it
  pub puts-at : (n y j m : ℕ) (d : A) → y < n → j < m → ((i : ℕ) → i < n → length (f i) ≡ m) → ((i : ℕ) → i < n → at i + m ≤ length s) → ((i k : ℕ) → i < k → at i + m ≤ at k)
      → get_or (put_rows s n at f) (at y + j) d ≡ get_or (f y) j d
  unfolding put_rows
  puts-at zero y j m d hy hj len room apart = absurd (omega arith)
  puts-at (suc n) y j m d hy hj len room apart = go (dec_lt y n) (λ l. puts-at n y j m d l hj (λ i k. len i (omega arith)) (λ i k. room i (omega arith)) apart)
    where
      go : Dec (y < n) → (y < n → get_or (put_rows s n at f) (at y + j) d ≡ get_or (f y) j d) → get_or (put (put_rows s n at f) (at n) (f n)) (at y + j) d ≡ get_or (f y) j d
      go (yes l) r =
          let e = apart y n l in
          get_or-put (put_rows s n at f) (at n) (f n) (at y + j) d (before (omega arith)) ∙ r l
      go (no k) r =
          let e : y ≡ n = omega arith in
          let g = len n (omega arith) in
          let r = room n (omega arith) in
          rw e (get_or-put-same (put_rows s n at f) (at n) (f n) j d (omega arith) (omega (arith, length-puts n)))

  -- pieces m long, m apart, are one write
  pub puts-joined : (m y n : ℕ) → ((i : ℕ) → length (f i) ≡ m) → ((i : ℕ) → i < n → at i ≡ y + i * m) → put_rows s n at f ≡ put s y (rows n f)
  unfolding put_rows rows put
  puts-joined m y zero len e = refl
  puts-joined m y (suc n) len e =
      ap (λ (l : List A). put l (at n) (f n)) (puts-joined m y n len (λ i h. e i (omega arith)))
      ∙ ap (λ (k : ℕ). put (put s y (rows n f)) k (f n)) (e n (omega arith))
      ∙ put-rows f m len s y n
      ∙ ap (λ (k : ℕ). put s y (rows k f)) (add-one n)

pub puts-ext : {A : Type 0} (s : List A) (at bt : ℕ → ℕ) (f g : ℕ → List A) (n : ℕ) → ((y : ℕ) → y < n → at y ≡ bt y) → ((y : ℕ) → y < n → f y ≡ g y) → put_rows s n at f ≡ put_rows s n bt g
unfolding put_rows
puts-ext s at bt f g zero p e = refl
puts-ext s at bt f g (suc n) p e =
    let a = puts-ext s at bt f g n (λ y h. p y (omega arith)) (λ y h. e y (omega arith)) in
    let b = p n (omega arith) in
    let c = e n (omega arith) in
    cc
