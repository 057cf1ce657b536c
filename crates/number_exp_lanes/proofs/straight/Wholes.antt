-- A sum of whole numbers, and a float against a whole number, by these numbers alone. Assumes nothing.
use mathlib.Core.Path.{◌≡◌, refl, sym, ap, ◌∙◌}
use mathlib.Core.Logic.{inl, inr}
use mathlib.Core.Bool.{Bool, true, false, ◌&&◌}
use Prim.Native.Nat.{ℕ, ◌+◌, ◌-◌, ◌*◌, ◌≤◌, ◌<◌}
use native.Mathlib.Nat.{mul-one, zero-mul, add-mul, mul_assoc, mul_right_comm, mul-pos, mul-le-mul_right, mul-lt-mul_of_pos_right}
use native.Mathlib.Omega.{arith}
use borrow.Author.Tests.{lt-ltb, le-ltb}
use lib.IntN.{ℤ}
use lib.Dec.{ltb, lit<}
use lib.Ieee.{Float, nan, inf, fin, binary64, up, down, below, lt, round, sum, add}
use lib.Ieee.Fits.{down_pos}
use lib.Ieee.Exact.{HasValue}
use lib.Ieee.Scale.{round_same}
use Rattle.number_floats.proofs.Ways.{lt-or-ge}

-- ---- a common factor
ltb-scale : (a b g : ℕ) → 0 < g → ltb (a * g) (b * g) ≡ ltb a b
ltb-scale a b g G = elim (lt-or-ge a b) [
  | inl l ↦ lt-ltb (a * g) (b * g) (mul-lt-mul_of_pos_right l G) ∙ sym (lt-ltb a b l)
  | inr h ↦ le-ltb (a * g) (b * g) (mul-le-mul_right g h) ∙ sym (le-ltb a b h)
]

less : (a b g : ℕ) → a * g - b * g ≡ (a - b) * g
less a b g = elim (lt-or-ge a b) [
  | inl l ↦
      let z : a - b ≡ 0 = omega arith in
      let h : a * g ≤ b * g = mul-le-mul_right g (omega arith) in
      (let e : a * g - b * g ≡ 0 = omega arith in e) ∙ sym (ap (λ (n : ℕ). n * g) z ∙ zero-mul g)
  | inr h ↦
      let z : a - b + b ≡ a = omega arith in
      let e : (a - b) * g + b * g ≡ a * g = sym (add-mul (a - b) b g) ∙ ap (λ (n : ℕ). n * g) z in
      omega arith
]

module _ (g : ℕ) (G : 0 < g) where
  round-scale : (s : Bool) (n a : ℕ) → n ≡ a * g → round binary64 s n g ≡ round binary64 s a 1
  round-scale s n a e = round_same binary64 s n g a 1 G (lit< tt) (mul-one n ∙ e)

  sum-scale : (s : Bool) (a : ℕ) (t : Bool) (b : ℕ) → sum binary64 s (a * g) t (b * g) g ≡ sum binary64 s a t b 1
  unfolding sum
  sum-scale s a t b =
      rw (ltb-scale a b g G, ltb-scale b a g G, round-scale s (a * g + b * g) (a + b) (sym (add-mul a b g)), round-scale t (b * g - a * g) (b - a) (less b a g), round-scale (s && ltb b a) (a * g - b * g) (a - b) (less a b g)) refl

  below-scale : (s : Bool) (a : ℕ) (t : Bool) (b : ℕ) → below s (a * g) t (b * g) ≡ below s a t b
  below-scale false a false b = ltb-scale a b g G
  below-scale false a true b = refl
  below-scale true a false b = ap (ltb 0) (sym (add-mul a b g)) ∙ ap (λ (n : ℕ). ltb n ((a + b) * g)) (sym (zero-mul g)) ∙ ltb-scale 0 (a + b) g G
  below-scale true a true b = ltb-scale b a g G

-- ---- x is ±a and y is ±b
pub add-whole : (x y : Float) (s : Bool) (a : ℕ) (t : Bool) (b : ℕ) → HasValue x s a 1 → HasValue y t b 1 → add binary64 x y ≡ sum binary64 s a t b 1
unfolding add
add-whole nan y s a t b v w = absurd v
add-whole (inf u) y s a t b v w = absurd v
add-whole (fin u m e) nan s a t b v w = absurd w
add-whole (fin u m e) (inf r) s a t b v w = absurd w
add-whole (fin u m e) (fin r n d) s a t b v w =
    let p : m * up e * down d ≡ a * (down e * down d) = ap (λ (z : ℕ). z * down d) (sym (mul-one (m * up e)) ∙ v.1) ∙ mul_assoc a (down e) (down d) in
    let q : n * up d * down e ≡ b * (down e * down d) = ap (λ (z : ℕ). z * down e) (sym (mul-one (n * up d)) ∙ w.1) ∙ mul_right_comm b (down d) (down e) ∙ mul_assoc b (down e) (down d) in
    (λ i. sum binary64 (v.0 i) (p i) (w.0 i) (q i) (down e * down d)) ∙ sum-scale (down e * down d) (mul-pos (down_pos e) (down_pos d)) s a t b

-- t is ±b
pub lt-whole : (s : Bool) (m : ℕ) (e : ℤ) (t : Float) (u : Bool) (b : ℕ) → HasValue t u b 1 → lt (fin s m e) t ≡ below s (m * up e) u (b * down e)
unfolding lt
lt-whole s m e nan u b v = absurd v
lt-whole s m e (inf r) u b v = absurd v
lt-whole s m e (fin r n d) u b v =
    let q : n * up d * down e ≡ b * down e * down d = ap (λ (z : ℕ). z * down e) (sym (mul-one (n * up d)) ∙ v.1) ∙ mul_right_comm b (down d) (down e) in
    (λ i. below s (m * up e * down d) (v.0 i) (q i)) ∙ below-scale (down d) (down_pos d) s (m * up e) u (b * down e)
