-- Which of the sizes of a growing f is nearest to v, from the two that v lies between. Assumes nothing.
use Rattle.std.proofs.Common.{◌≡◌, ℕ, suc, ◌+◌, ◌*◌, ◌%◌, ◌<◌, ◌≤◌, sym, ap, inl, inr, le_of_eq, le_refl, le_of_lt, eq-or-lt_of_le, arith}
use Rattle.number_floats.proofs.Ways.{lt-or-ge}
use Rattle.number_floats.specs.Size.{gap, Nearest}

-- ---- distances, over plain numbers
under : (a b v : ℕ) → a ≤ b → b ≤ v → gap b v ≤ gap a v
under a b v h k = omega arith

over : (a b v : ℕ) → v ≤ a → a ≤ b → gap a v ≤ gap b v
over a b v h k = omega arith

under-lt : (a b v : ℕ) → a < b → b ≤ v → gap a v ≡ gap b v → ⊥
under-lt a b v h k e = omega arith

over-lt : (a b v : ℕ) → v ≤ a → a < b → gap b v ≡ gap a v → ⊥
over-lt a b v h k e = omega arith

across : (a b v : ℕ) → a ≤ v → v ≤ b → 2 * v ≤ a + b → gap a v ≤ gap b v
across a b v h k l = omega arith

across' : (a b v : ℕ) → a ≤ v → v ≤ b → a + b ≤ 2 * v → gap b v ≤ gap a v
across' a b v h k l = omega arith

level : (a b v : ℕ) → a ≤ v → v ≤ b → gap b v ≡ gap a v → 2 * v ≡ a + b
level a b v h k e = omega arith

module _ (f : ℕ → ℕ) (grows : (a b : ℕ) → a < b → f a < f b) where
  pub weakly : (a b : ℕ) → a ≤ b → f a ≤ f b
  weakly a b h = elim (eq-or-lt_of_le h) [ inl e ↦ le_of_eq (ap f e) | inr l ↦ le_of_lt (grows a b l) ]

  -- v is beyond the last
  pub at_top : (top v : ℕ) → f top ≤ v → Nearest f top v top
  at_top top v h = record {
    held = le_refl top;
    near = λ q l. under (f q) (f top) v (weakly q top l) h;
    even = λ q l e d. elim (eq-or-lt_of_le l) [ inl p ↦ absurd (d p) | inr m ↦ absurd (under-lt (f q) (f top) v (grows q top m) h e) ];
  }

  module _ (top v r : ℕ) (lo : f r ≤ v) (hi : v < f (suc r)) where
    pub low : r ≤ top → 2 * v ≤ f r + f (suc r) → (2 * v ≡ f r + f (suc r) → r % 2 ≡ 0) → Nearest f top v r
    low h l t = record {
      held = h;
      near = λ q k. elim (lt-or-ge r q) [
        | inl m ↦ let w : f (suc r) ≤ f q = weakly (suc r) q m in across (f r) (f q) v lo (omega arith) (omega arith)
        | inr m ↦ under (f q) (f r) v (weakly q r m) lo
      ];
      even = λ q k e d. elim (lt-or-ge r q) [
        | inl m ↦ let w : f (suc r) ≤ f q = weakly (suc r) q m in let z : 2 * v ≡ f r + f q = level (f r) (f q) v lo (omega arith) e in t (omega arith)
        | inr m ↦ elim (eq-or-lt_of_le m) [ inl p ↦ absurd (d p) | inr s ↦ absurd (under-lt (f q) (f r) v (grows q r s) lo e) ]
      ];
    }

    pub high : suc r ≤ top → f r + f (suc r) ≤ 2 * v → (2 * v ≡ f r + f (suc r) → suc r % 2 ≡ 0) → Nearest f top v (suc r)
    high h l t = record {
      held = h;
      near = λ q k. elim (lt-or-ge r q) [
        | inl m ↦ over (f (suc r)) (f q) v (le_of_lt hi) (weakly (suc r) q m)
        | inr m ↦ let w : f q ≤ f r = weakly q r m in across' (f q) (f (suc r)) v (omega arith) (le_of_lt hi) (omega arith)
      ];
      even = λ q k e d. elim (lt-or-ge r q) [
        | inl m ↦ elim (eq-or-lt_of_le m) [ inl p ↦ absurd (d (sym p)) | inr s ↦ absurd (over-lt (f (suc r)) (f q) v (le_of_lt hi) (grows (suc r) q s) e) ]
        | inr m ↦ let w : f q ≤ f r = weakly q r m in let z : 2 * v ≡ f q + f (suc r) = level (f q) (f (suc r)) v (omega arith) (le_of_lt hi) (sym e) in t (omega arith)
      ];
    }

  -- ---- two that meet the statement are equal
  pub unique : (top v r s : ℕ) → Nearest f top v r → Nearest f top v s → r ≡ s
  unique top v r s n m = elim (lt-or-ge r s) [ inl l ↦ absurd (apart r s n m l) | inr g ↦ elim (eq-or-lt_of_le g) [ inl e ↦ sym e | inr l ↦ absurd (apart s r m n l) ] ]
    where
      both : (a b x y w : ℕ) → a % 2 ≡ 0 → b % 2 ≡ 0 → b ≡ suc a → ⊥
      both a b x y w p q e = omega arith

      apart : (a b : ℕ) → Nearest f top v a → Nearest f top v b → a < b → ⊥
      apart a b n m l =
          let e : gap (f a) v ≡ gap (f b) v = omega (arith, n.near b m.held, m.near a n.held) in
          let ev-a : a % 2 ≡ 0 = n.even b m.held (sym e) (λ p. omega arith) in
          let ev-b : b % 2 ≡ 0 = m.even a n.held e (λ p. omega arith) in
          let x : f a < f (suc a) = grows a (suc a) (omega arith) in
          let c : suc a < b = omega arith in
          let y : f (suc a) < f b = grows (suc a) b c in
          let z : gap (f a) v ≤ gap (f (suc a)) v = n.near (suc a) (omega (arith, m.held)) in
          middle (f a) (f (suc a)) (f b) v x y e z
        where
          middle : (x y z v : ℕ) → x < y → y < z → gap x v ≡ gap z v → gap x v ≤ gap y v → ⊥
          middle x y z v a b c d = omega arith
