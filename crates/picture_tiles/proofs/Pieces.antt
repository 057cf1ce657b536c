-- Laws of the cut along one side, n long, into pieces t long, and of rounding up. Assumes nothing.
use mathlib.Core.Path.{◌≡◌, sym, ap, ◌∙◌}
use Prim.Native.Nat.{ℕ, suc, ◌+◌, ◌*◌, ◌-◌, ◌/◌, ◌%◌, ◌≤◌, ◌<◌}
use native.Mathlib.Nat.{suc-mul, mul-le-mul_right, le-div_iff_mul-le, div-lt_iff_lt-mul, div-add-mod', mod-lt, lt-div-mul-add}
use native.Mathlib.Omega.{arith}
use native.Mathlib.Decide.{dec_lt}
use Rattle.picture_limits.proofs.Places.{quotient, remainder}
use Rattle.picture_tiles.specs.Cut.{pieces, own, up}

module _ (t n : ℕ) (ht : 0 < t) where
  -- a piece starts inside, and what starts inside is a piece
  pub piece-starts : (j : ℕ) → j < pieces t n → j * t < n
  piece-starts j h = let e : suc j * t ≤ n + (t - 1) = (le-div_iff_mul-le ht).0 h in omega (arith, e, suc-mul j t)

  pub is-piece : (j : ℕ) → j * t < n → j < pieces t n
  is-piece j h = let e : suc j * t ≤ n + (t - 1) = omega (arith, suc-mul j t) in (le-div_iff_mul-le ht).1 e

  pub no-piece : (j : ℕ) → pieces t n ≤ j → n ≤ j * t
  no-piece j h = go (dec_lt (j * t) n)
    where
      go : Dec (j * t < n) → n ≤ j * t
      go (yes l) = let e = is-piece j l in absurd (omega arith)
      go (no m) = omega arith

  -- each piece has something, and ends inside; what is no piece has nothing
  pub own-low : (j : ℕ) → j < pieces t n → 1 ≤ own t n j
  own-low j h = let e = piece-starts j h in omega arith

  pub own-high : (j : ℕ) → own t n j ≤ t
  own-high j = omega arith

  pub own-ends : (j : ℕ) → j < pieces t n → j * t + own t n j ≤ n
  own-ends j h = let e = piece-starts j h in omega arith

  pub own-none : (j : ℕ) → pieces t n ≤ j → own t n j ≡ 0
  own-none j h = let e = no-piece j h in omega arith

  -- place r lies in piece r / t, at r % t
  pub covered : (r : ℕ) → r < n → (r / t < pieces t n) × (r % t < own t n (r / t)) × (r / t * t + r % t ≡ r)
  covered r h =
      let e = div-add-mod' r t in
      let m = mod-lt r ht in
      (is-piece (r / t) (omega (arith, e)), omega (arith, e, m), e)

  -- and in no other, and at no other place
  pub once : (r j y : ℕ) → y < own t n j → j * t + y ≡ r → (r < n) × (j ≡ r / t) × (y ≡ r % t)
  once r j y h e =
      let l : y < t = omega arith in
      (omega arith, sym (quotient t ht j y l) ∙ ap (λ (z : ℕ). z / t) e, sym (remainder t ht j y l) ∙ ap (λ (z : ℕ). z % t) e)

module _ (a : ℕ) (ha : 0 < a) where
  pub up-covers : (x : ℕ) → x ≤ up a x
  up-covers x = let e : x + (a - 1) < (x + (a - 1)) / a * a + a = lt-div-mul-add ha in omega arith

  pub up-low : (x : ℕ) → 1 ≤ x → a ≤ up a x
  up-low x h = let u : 1 ≤ (x + (a - 1)) / a = (le-div_iff_mul-le ha).1 (omega arith) in omega (arith, mul-le-mul_right a u)

  pub up-high : (k x : ℕ) → x ≤ k * a → up a x ≤ k * a
  up-high k x h =
      let l : x + (a - 1) < suc k * a = omega (arith, suc-mul k a) in
      let u : (x + (a - 1)) / a < suc k = (div-lt_iff_lt-mul ha).1 l in
      mul-le-mul_right a (omega (arith, u))
