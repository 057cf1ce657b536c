-- Finding a byte by its pattern in a table k, whose entries in a channel are distinct. Assumes nothing.
use mathlib.Core.Path.{◌≡◌, refl, sym, ap, ◌∙◌}
use mathlib.Core.Bool.{Bool, true}
use mathlib.Core.List.{List}
use Prim.Native.Nat.{ℕ, zero, suc, ◌+◌, ◌*◌, ◌≤◌, ◌<◌}
use native.Mathlib.Omega.{arith}
use borrow.Author.Tests.{eq-eqb, ne_eqb, eqb-true, ltb-true}
use lib.Dec.{eqb, ltb}
use lib.ListN.{get_or}
use lib.Ieee.{Float, nan, binary32, to_bits}
use Rattle.buffers.specs.Rows.{first}
use Rattle.buffers.proofs.Lists.{all-at, all-ext, first-at, first-none, first-le, first_passes}
use Rattle.picture_samples.specs.Samples.{byte_of}

-- no two bytes of channel c have the same pattern
abbrev pub Distinct : (ℕ → ℕ → ℕ) → ℕ → Type 0
Distinct k c = (i j : ℕ) → i < 256 → j < 256 → k c i ≡ k c j → i ≡ j

-- the same patterns for every byte of the three channels
abbrev pub Same : (ℕ → ℕ → ℕ) → (ℕ → ℕ → ℕ) → Type 0
Same k m = (c b : ℕ) → c < 3 → b < 256 → k c b ≡ m c b

module _ (k : ℕ → ℕ → ℕ) (c : ℕ) where
  pub found : (x b : ℕ) → Distinct k c → b < 256 → k c b ≡ x → byte_of k c x ≡ b
  unfolding byte_of
  found x b d h e =
      first-at 256 (λ i. eqb x (k c i)) b h (eq-eqb _ _ (sym e)) (λ j l. ne_eqb _ _ (λ g. let z = d j b (omega arith) h (sym g ∙ sym e) in omega arith))

  pub missed : (x : ℕ) → ((b : ℕ) → b < 256 → k c b ≡ x → ⊥) → byte_of k c x ≡ 256
  unfolding byte_of
  missed x n = first-none 256 (λ i. eqb x (k c i)) (λ j l. ne_eqb _ _ (λ g. n j l (sym g)))

  pub byte_le : (x : ℕ) → byte_of k c x ≤ 256
  unfolding byte_of
  byte_le x = first-le 256 (λ i. eqb x (k c i))

  -- the byte of a byte's pattern, and the pattern of a found byte
  pub byte-back : (b : ℕ) → Distinct k c → b < 256 → byte_of k c (k c b) ≡ b
  byte-back b d h = found (k c b) b d h refl

  pub pattern-back : (x : ℕ) → byte_of k c x < 256 → k c (byte_of k c x) ≡ x
  unfolding byte_of
  pattern-back x h = sym (eqb-true _ _ (first_passes 256 (λ i. eqb x (k c i)) h))

-- ---- equal tables find the same
first-ext : (n : ℕ) (f g : ℕ → Bool) → ((i : ℕ) → i < n → f i ≡ g i) → first n f ≡ first n g
unfolding first
first-ext zero f g h = refl
first-ext (suc n) f g h =
    let e = h zero (omega arith) in
    let r = first-ext n (λ i. f (suc i)) (λ i. g (suc i)) (λ i l. h (suc i) (omega arith)) in
    cc

module _ (k m : ℕ → ℕ → ℕ) (s : Same k m) where
  pub byte-same : (c x : ℕ) → c < 3 → byte_of k c x ≡ byte_of m c x
  unfolding byte_of
  byte-same c x h = first-ext 256 (λ b. eqb x (k c b)) (λ b. eqb x (m c b)) (λ b l. ap (λ (y : ℕ). eqb x y) (s c b h l))
