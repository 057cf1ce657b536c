-- Halving: its turns, its end, and that in a channel that rises or falls it ends at a byte's own place. Assumes nothing.
use mathlib.Core.Path.{◌≡◌, refl, sym, ap, ◌∙◌, subst}
use mathlib.Core.Bool.{Bool, true, false, cond}
use mathlib.Core.Logic.{⊎_elim}
use Prim.Native.Nat.{ℕ, zero, suc, ◌+◌, ◌-◌, ◌/◌, ◌≤◌, ◌<◌}
use native.Mathlib.Omega.{arith}
use native.Mathlib.Decide.{dec_lt}
use borrow.Author.Tests.{lt-ltb, le-ltb}
use lib.Dec.{T, ltb}
use lib.Ieee.{Float, lt}
use lib.Ieee.Bits.{is_true}
use Rattle.number_floats.proofs.Order.{lt-self, lt_trans}
use Rattle.picture_samples.specs.Samples.{rising, falling, channel_allowed, value}
use Rattle.picture_samples.proofs.Channels.{rises, falls, ordered}
use Rattle.picture_spot.specs.inner.Spot.{beyond, halving, halved}

module _ (f : ℕ → Bool) where
  -- a turn goes on in the half where the test says; where there is no room for one, it has ended
  lower : (n low high : ℕ) → low < high → f ((low + high) / 2) ≡ true → halving f (suc n) low high ≡ halving f n low ((low + high) / 2)
  unfolding halving
  lower n low high h e = rw (lt-ltb low high h, e) refl

  upper : (n low high : ℕ) → low < high → f ((low + high) / 2) ≡ false → halving f (suc n) low high ≡ halving f n ((low + high) / 2 + 1) high
  unfolding halving
  upper n low high h e = rw (lt-ltb low high h, e) refl

  pub ended : (n low high : ℕ) → high ≤ low → halving f n low high ≡ low
  unfolding halving
  ended zero low high h = refl
  ended (suc n) low high h = rw (le-ltb low high h) refl

  -- turns that are not needed change nothing
  enough : (n low high : ℕ) → high ≤ low + n → halving f (suc n) low high ≡ halving f n low high
  enough zero low high h = let z : high ≤ low = omega arith in ended 1 low high z ∙ sym (ended 0 low high z)
  enough (suc n) low high h = go (dec_lt low high) (f ((low + high) / 2)) refl (λ a b l. enough n a b l)
    where
      go : Dec (low < high) → (b : Bool) → f ((low + high) / 2) ≡ b → ((a b : ℕ) → b ≤ a + n → halving f (suc n) a b ≡ halving f n a b) → halving f (suc (suc n)) low high ≡ halving f (suc n) low high
      go (no d) b e r = let z : high ≤ low = omega arith in ended (suc (suc n)) low high z ∙ sym (ended (suc n) low high z)
      go (yes d) true e r = lower (suc n) low high d e ∙ r low ((low + high) / 2) (omega arith) ∙ sym (lower n low high d e)
      go (yes d) false e r = upper (suc n) low high d e ∙ r ((low + high) / 2 + 1) high (omega arith) ∙ sym (upper n low high d e)

  pub turn_low : (low high : ℕ) → low < high → high ≤ 255 → f ((low + high) / 2) ≡ true → halving f 255 low high ≡ halving f 255 low ((low + high) / 2)
  turn_low low high h m e = lower 254 low high h e ∙ sym (enough 254 low ((low + high) / 2) (omega arith))

  pub turn-high : (low high : ℕ) → low < high → high ≤ 255 → f ((low + high) / 2) ≡ false → halving f 255 low high ≡ halving f 255 ((low + high) / 2 + 1) high
  turn-high low high h m e = upper 254 low high h e ∙ sym (enough 254 ((low + high) / 2 + 1) high (omega arith))

  halving-le : (n low high : ℕ) → low ≤ high → halving f n low high ≤ high
  unfolding halving
  halving-le zero low high h = h
  halving-le (suc n) low high h = go (dec_lt low high) (f ((low + high) / 2)) refl (λ a b l. halving-le n a b l)
    where
      go : Dec (low < high) → (b : Bool) → f ((low + high) / 2) ≡ b → ((a b : ℕ) → a ≤ b → halving f n a b ≤ b) → halving f (suc n) low high ≤ high
      go (no d) b e r = let z : high ≤ low = omega arith in omega (arith, ended (suc n) low high z)
      go (yes d) true e r = omega (arith, lower n low high d e, r low ((low + high) / 2) (omega arith))
      go (yes d) false e r = omega (arith, upper n low high d e, r ((low + high) / 2 + 1) high (omega arith))

  -- where the test passes from place b on, and not before, halving ends at b
  finds : (b n low high : ℕ) → high ≤ low + n → low ≤ b → b ≤ high → ((j : ℕ) → j < b → f j ≡ false) → ((j : ℕ) → b ≤ j → j < high → f j ≡ true) → halving f n low high ≡ b
  unfolding halving
  finds b zero low high k l h off on = omega arith
  finds b (suc n) low high k l h off on = go (dec_lt low high) (dec_lt ((low + high) / 2) b) (λ a d u v w x. finds b n a d u v w off x)
    where
      go : Dec (low < high) → Dec ((low + high) / 2 < b)
          → ((a d : ℕ) → d ≤ a + n → a ≤ b → b ≤ d → ((j : ℕ) → b ≤ j → j < d → f j ≡ true) → halving f n a d ≡ b)
          → halving f (suc n) low high ≡ b
      go (no d) q r = let z : high ≤ low = omega arith in let e : low ≡ b = omega arith in ended (suc n) low high z ∙ e
      go (yes d) (yes q) r = upper n low high d (off ((low + high) / 2) q) ∙ r ((low + high) / 2 + 1) high (omega arith) (omega arith) h on
      go (yes d) (no q) r =
          let z : b ≤ (low + high) / 2 = omega arith in
          lower n low high d (on ((low + high) / 2) z (omega arith)) ∙ r low ((low + high) / 2) (omega arith) l z (λ j u v. on j u (omega arith))

pub halved-lt : (k : ℕ → ℕ → ℕ) (c : ℕ) (v : Float) → halved k c v < 256
unfolding halved
halved-lt k c v = omega (arith, halving-le (beyond k c v) 255 0 255 (omega arith))

never : (x y : Float) → T (lt x y) → lt y x ≡ false
never x y l = go (lt y x) refl
  where
    go : (b : Bool) → lt y x ≡ b → lt y x ≡ false
    go false e = e
    go true e = absurd (subst T (lt-self x) (lt_trans x y x l (subst T (sym e) tt)))

-- in a channel that rises the first value is below the last, and in one that falls it is not
up_of : (v : ℕ → Float) → rising v ≡ true → lt (v 0) (v 255) ≡ true
up_of v r = is_true (lt (v 0) (v 255)) (rises v r 0 255 (omega arith) (omega arith))

down-of : (v : ℕ → Float) → falling v ≡ true → lt (v 0) (v 255) ≡ false
down-of v f = never (v 255) (v 0) (falls v f 0 255 (omega arith) (omega arith))

module _ (k : ℕ → ℕ → ℕ) (c : ℕ) (a : channel_allowed (value k c) ≡ true) where
  -- of a byte's own value the bytes up to it do not lie beyond, and those above it do
  beyond-not : (b j : ℕ) → b < 256 → j < b → beyond k c (value k c b) j ≡ false
  unfolding beyond
  beyond-not b j l m = ⊎_elim up down (ordered (value k c) a)
    where
      not-above : (r : rising (value k c) ≡ true) → Dec (suc j < b) → lt (value k c b) (value k c (suc j)) ≡ false
      not-above r (yes d) = never (value k c (suc j)) (value k c b) (rises (value k c) r (suc j) b d l)
      not-above r (no d) = let e : suc j ≡ b = omega arith in rw e (lt-self (value k c b))

      not-below : (r : falling (value k c) ≡ true) → Dec (suc j < b) → lt (value k c (suc j)) (value k c b) ≡ false
      not-below r (yes d) = never (value k c b) (value k c (suc j)) (falls (value k c) r (suc j) b d l)
      not-below r (no d) = let e : suc j ≡ b = omega arith in rw e (lt-self (value k c b))

      up : rising (value k c) ≡ true → cond (lt (value k c 0) (value k c 255)) (lt (value k c b) (value k c (suc j))) (lt (value k c (suc j)) (value k c b)) ≡ false
      up r = rw (up_of (value k c) r) (not-above r (dec_lt (suc j) b))

      down : falling (value k c) ≡ true → cond (lt (value k c 0) (value k c 255)) (lt (value k c b) (value k c (suc j))) (lt (value k c (suc j)) (value k c b)) ≡ false
      down r = rw (down-of (value k c) r) (not-below r (dec_lt (suc j) b))

  beyond-on : (b j : ℕ) → b ≤ j → j < 255 → beyond k c (value k c b) j ≡ true
  unfolding beyond
  beyond-on b j l m = ⊎_elim up down (ordered (value k c) a)
    where
      up : rising (value k c) ≡ true → cond (lt (value k c 0) (value k c 255)) (lt (value k c b) (value k c (suc j))) (lt (value k c (suc j)) (value k c b)) ≡ true
      up r = rw (up_of (value k c) r) (is_true _ (rises (value k c) r b (suc j) (omega arith) (omega arith)))

      down : falling (value k c) ≡ true → cond (lt (value k c 0) (value k c 255)) (lt (value k c b) (value k c (suc j))) (lt (value k c (suc j)) (value k c b)) ≡ true
      down r = rw (down-of (value k c) r) (is_true _ (falls (value k c) r b (suc j) (omega arith) (omega arith)))

  pub halved-right : (b : ℕ) → b < 256 → halved k c (value k c b) ≡ b
  unfolding halved
  halved-right b l = finds (beyond k c (value k c b)) b 255 0 255 (omega arith) (omega arith) (omega arith) (λ j m. beyond-not b j l m) (λ j u m. beyond-on b j u m)
