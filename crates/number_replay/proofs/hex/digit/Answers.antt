-- `hex::digit` meets its contract. Assumes nothing.
use Rattle.std.proofs.Common.{◌≡◌, ℕ, ◌+◌, ◌-◌, ◌<◌, ◌≤◌, Bool, true, false, cond, leb, ltb, Option, Some, None, refl, arith}
use borrow.Author.Tests.{leb-true, ltb-false, le-leb, lt-leb, lt-ltb, le-ltb}
use Rattle.number_replay.specs.Hex.{digit_of}
use Rattle.number_replay.proofs.hex.digit.Goals as goal

numeral : (b : ℕ) → 48 ≤ b → b ≤ 57 → ◌≡◌ {A = Option ℕ} (Some (b - 48)) (digit_of b)
unfolding digit_of
numeral b h k = simp (le-ltb _ _ h, le-leb _ _ k)

letter : (b : ℕ) → 97 ≤ b → b ≤ 102 → ◌≡◌ {A = Option ℕ} (Some (b - 97 + 10)) (digit_of b)
unfolding digit_of
letter b h k =
    let l : 48 ≤ b = omega arith in
    let m : 57 < b = omega arith in
    simp (le-ltb _ _ l, lt-leb _ _ m, le-ltb _ _ h, le-leb _ _ k)

neither : (b : ℕ) → (48 ≤ b → 57 < b) → (97 ≤ b → 102 < b) → ◌≡◌ {A = Option ℕ} None (digit_of b)
unfolding digit_of
neither b p q = go (ltb b 48) refl (leb b 57) refl (ltb b 97) refl (leb b 102) refl
  where
    go : (r : Bool) → ltb b 48 ≡ r → (s : Bool) → leb b 57 ≡ s → (t : Bool) → ltb b 97 ≡ t → (u : Bool) → leb b 102 ≡ u
        → ◌≡◌ {A = Option ℕ} None (cond r None (cond s (Some (b - 48)) (cond t None (cond u (Some (b - 97 + 10)) None))))
    go true i s j t k u l = refl
    go false i true j t k u l = absurd (omega (arith, p (ltb-false b 48 i), leb-true b 57 j))
    go false i false j true k u l = refl
    go false i false j false k true l = absurd (omega (arith, q (ltb-false b 97 k), leb-true b 102 l))
    go false i false j false k false l = refl

pub returns-in-48-to-57 : goal.returns-in-48-to-57
returns-in-48-to-57 c = numeral c.args.b (omega arith) (omega arith)

pub returns-in-97-to-102 : goal.returns-in-97-to-102
returns-in-97-to-102 c = letter c.args.b (omega arith) (omega arith)

pub returns-in_default : goal.returns-in_default
returns-in_default c = neither c.args.b (λ h. omega arith) (λ h. omega arith)

pub returns-in_default-2 : goal.returns-in_default-2
returns-in_default-2 c = neither c.args.b (λ h. omega arith) (λ h. omega arith)

pub returns-in_default-3 : goal.returns-in_default-3
returns-in_default-3 c = neither c.args.b (λ h. omega arith) (λ h. omega arith)
