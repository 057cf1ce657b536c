-- T near zero: which line of the rule it is, that either zero is kept, and that it is odd there. Assumes nothing.
use Rattle.std.proofs.Common.{◌≡◌, ℕ, ◌+◌, ◌*◌, ◌<◌, Bool, true, false, cond, not, ◌&&◌, ◌||◌, eqb, ltb, sym, refl, ap, ◌∙◌, subst, true≢false, arith, ltb→lt, le-ltb, lt-ltb, ne_eqb, eqb-true}
use mathlib.Core.Bool.{beq}
use lib.Dec as Dec
use lib.Ieee as Ieee
use lib.Ieee.{Float, nan, inf, fin, binary32, binary64, up, down, neg, add, sub, mul, div, lt, le, eq, ne, below, level, of_bits, to_bits}
use lib.Ieee.Bits.{is_true}
use Rattle.number_floats.specs.Narrow.{narrow}
use Rattle.number_floats.proofs.Order.{lt_trans}
use Rattle.number_floats.proofs.Patterns.{is-nan}
use Rattle.number_floats.proofs.Signs.{neg-neg, mul-neg, mul-neg-both, narrow-neg, lt-neg}
use Rattle.number_exp_tanh.specs.Tanh as S
use Rattle.number_exp_tanh.specs.Tanh.{ten, sixty_fourth, near, bend, near_zero, tanh_bits}

-- what is below is not at most
not-level : (s t : Bool) (a b : ℕ) → Dec.T (below t b s a) → below s a t b || level s a t b ≡ false
not-level false false a b h = let l = ltb→lt b a h in rw (le-ltb a b (omega arith), ne_eqb a b (λ e. omega arith)) refl
not-level false true a b h = both (eqb a b) (eqb a 0) refl refl
  where
    both : (p q : Bool) → eqb a b ≡ p → eqb a 0 ≡ q → p && q ≡ false
    both false q e d = refl
    both true false e d = refl
    both true true e d = absurd (omega (arith, eqb-true a b e, eqb-true a 0 d, ltb→lt 0 (b + a) h))
not-level true false a b h = absurd h
not-level true true a b h = let l = ltb→lt a b h in rw (le-ltb b a (omega arith), ne_eqb a b (λ e. omega arith)) refl

lt-le : (x y : Float) → Dec.T (lt y x) → le x y ≡ false
unfolding lt le eq
lt-le x nan h = absurd h
lt-le nan (inf t) h = absurd h
lt-le (inf true) (inf true) h = absurd h
lt-le (inf true) (inf false) h = absurd h
lt-le (inf false) (inf true) h = refl
lt-le (inf false) (inf false) h = absurd h
lt-le (fin s m e) (inf true) h = refl
lt-le (fin s m e) (inf false) h = absurd h
lt-le nan (fin t n d) h = absurd h
lt-le (inf true) (fin t n d) h = absurd h
lt-le (inf false) (fin t n d) h = refl
lt-le (fin s m e) (fin t n d) h = not-level s t (m * up e * down d) (n * up d * down e) h

-- ---- the tests before it fail
left-of : (a b : Bool) → a && b ≡ true → a ≡ true
left-of true b e = refl
left-of false b e = e

right_of : (a b : Bool) → a && b ≡ true → b ≡ true
right_of true b e = e
right_of false b e = absurd (true≢false (sym e))

and-swap : (a b : Bool) → a && b ≡ b && a
and-swap true true = refl
and-swap true false = refl
and-swap false true = refl
and-swap false false = refl

nan-not : Dec.T (lt nan sixty_fourth) → ⊥
unfolding lt
nan-not t = t

module _ (y : Float) (h : near y ≡ true) where
  above : Dec.T (lt (neg sixty_fourth) y)
  above = subst Dec.T (sym (left-of (lt (neg sixty_fourth) y) (lt y sixty_fourth) h)) tt

  under : Dec.T (lt y sixty_fourth)
  under = subst Dec.T (sym (right_of (lt (neg sixty_fourth) y) (lt y sixty_fourth) h)) tt

  a-number : ne y y ≡ false
  a-number = go (ne y y) refl
    where
      go : (b : Bool) → ne y y ≡ b → ne y y ≡ false
      go false e = e
      go true e = absurd (nan-not (subst (λ (v : Float). Dec.T (lt v sixty_fourth)) (is-nan y e) under))

  not_top : le ten y ≡ false
  unfolding of_bits lt
  not_top = lt-le ten y (lt_trans y sixty_fourth ten under tt)

  not-bottom : le y (neg ten) ≡ false
  unfolding of_bits lt neg
  not-bottom = lt-le y (neg ten) (lt_trans (neg ten) (neg sixty_fourth) y tt above)

  -- so T is the mended line
  pub near-is : S.T y ≡ narrow (near_zero y)
  unfolding S.T
  near-is = rw (a-number, not_top, not-bottom, h) refl

-- ---- odd
pub near-neg : (y : Float) → near (neg y) ≡ near y
near-neg y =
    ap (λ (b : Bool). b && lt (neg y) sixty_fourth) (lt-neg sixty_fourth y)
    ∙ ap (λ (b : Bool). lt y sixty_fourth && b) (ap (lt (neg y)) (sym (neg-neg sixty_fourth)) ∙ lt-neg y (neg sixty_fourth))
    ∙ and-swap (lt y sixty_fourth) (lt (neg sixty_fourth) y)

near-odd : (y : Float) → near_zero (neg y) ≡ neg (near_zero y)
unfolding near_zero
near-odd y = ap (λ (z : Float). mul binary64 (neg y) (bend z)) (mul-neg-both binary64 y) ∙ mul-neg binary64 y (bend (mul binary64 y y))

-- T(−y) is T(y) with its sign flipped
pub odd-near : (y : Float) → near y ≡ true → S.T (neg y) ≡ neg (S.T y)
odd-near y h = near-is (neg y) (near-neg y ∙ h) ∙ ap narrow (near-odd y) ∙ narrow-neg (near_zero y) ∙ ap neg (sym (near-is y h))

-- ---- either zero gives itself, and so do the smallest subnormals
pub minus-zero : tanh_bits 0x8000_0000 ≡ 0x8000_0000
unfolding tanh_bits S.T near_zero to_bits ne of_bits le neg narrow mul add sub div
minus-zero = refl

pub plus-zero : tanh_bits 0 ≡ 0
unfolding tanh_bits S.T near_zero to_bits ne of_bits le neg narrow mul add sub div
plus-zero = refl

pub smallest : tanh_bits 1 ≡ 1
unfolding tanh_bits S.T near_zero to_bits ne of_bits le neg narrow mul add sub div
smallest = refl
