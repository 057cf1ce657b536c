-- The tests on what is kept of an entry are those on what the header says. Assumes nothing.
use Rattle.std.specs.Prelude.{Option, None, Some}
use mathlib.Core.Path.{◌≡◌, refl, sym, ap, subst, ◌∙◌}
use mathlib.Core.Bool.{Bool, true, false, not}
use mathlib.Core.List.{List}
use Prim.Native.Nat.{ℕ, ◌^◌, ◌<◌}
use native.Mathlib.Decide.{dec_lt}
use native.Mathlib.Omega.{arith}
use lib.Dec.{eqb}
use lib.ListN.{length, get_or}
use borrow.Author.Tests.{ne_eqb}
use Rattle.json_members.specs.Names.{Entry}
use Rattle.json_lists.specs.Lists.{product, held}
use Rattle.json_lists.proofs.Counted.{held_in, held_out}
use Rattle.encoder_settings.specs.declared.EncoderSettings.{EncoderSettings}
use Rattle.encoder_settings.specs.Settings.{allowed}
use Rattle.tensor_values.specs.declared.Kind.{Kind}
use Rattle.tensor_header.specs.Tensors.{tensors, entry_at, count_at}
use Rattle.weights.specs.File.{Found, missing, damaged, described, found_in, kind_of, is_damaged, is_other, is_misplaced, other_count, misplaced_by}
use Rattle.weights.specs.inner.Described.{summary_by, Kept, summary, Describes, fails_damaged, fails_other, fails_misplaced, Holds}
use Rattle.weights.proofs.Sums.{counts-positive}

-- a product that is not held is no count
held-eq : (p n : ℕ) → 0 < n → n < 2 ^ 64 → eqb (held p) n ≡ eqb p n
held-eq p n h k = of (dec_lt p (2 ^ 64))
  where
    of : Dec (p < 2 ^ 64) → eqb (held p) n ≡ eqb p n
    of (yes x) = ap (λ (q : ℕ). eqb q n) (held_in p x)
    of (no x) = ap (λ (q : ℕ). eqb q n) (held_out p (omega arith)) ∙ ne_eqb 0 n (λ e. omega arith) ∙ sym (ne_eqb p n (λ e. omega arith))

damaged-is : (shape : List ℕ) (begin end : ℕ) (k : Option Kind) → fails_damaged (summary_by shape begin end k) ≡ false
damaged-is shape begin end None = refl
damaged-is shape begin end (Some k) = refl

other-is : (count : ℕ) → 0 < count → count < 2 ^ 64 → (shape : List ℕ) (begin end : ℕ) (k : Option Kind) → fails_other count (summary_by shape begin end k) ≡ other_count count shape k
other-is count h l shape begin end None = refl
other-is count h l shape begin end (Some k) = ap not (held-eq (product shape) count h l)

misplaced-is : (bytes count : ℕ) (shape : List ℕ) (begin end : ℕ) (k : Option Kind) → fails_misplaced bytes count (summary_by shape begin end k) ≡ misplaced_by bytes count begin end k
misplaced-is bytes count shape begin end None = refl
misplaced-is bytes count shape begin end (Some k) = refl

pub damaged-found : (f : Found) → fails_damaged (summary f) ≡ is_damaged f
damaged-found missing = refl
damaged-found damaged = refl
damaged-found (described dtype shape begin end) = damaged-is shape begin end (kind_of dtype)

pub other-found : (count : ℕ) → 0 < count → count < 2 ^ 64 → (f : Found) → fails_other count (summary f) ≡ is_other count f
other-found count h l missing = refl
other-found count h l damaged = refl
other-found count h l (described dtype shape begin end) = other-is count h l shape begin end (kind_of dtype)

pub misplaced-found : (bytes count : ℕ) (f : Found) → fails_misplaced bytes count (summary f) ≡ is_misplaced bytes count f
misplaced-found bytes count missing = refl
misplaced-found bytes count damaged = refl
misplaced-found bytes count (described dtype shape begin end) = misplaced-is bytes count shape begin end (kind_of dtype)

module _ (s : EncoderSettings) (h places : List ℕ) (es : List Entry) (a : allowed s ≡ true) (o : Holds s h places es) where
  -- what is described at the place of tensor i is what the header says of it
  pub kept-is : (i : ℕ) → i < length (tensors s) → (d : Kept) → Describes h (get_or places i 0) d → d ≡ summary (found_in (entry_at (tensors s) es i))
  kept-is i x d q = q.is 32 (entry_at (tensors s) es i) (omega arith) (o.stands i x) (o.place i x)

  pub tried : (answers : Kept → ℕ → Bool → Type 0) (f : ℕ → Found → Bool) → ((x : Found) (count : ℕ) (b : Bool) → 0 < count → count < 2 ^ 64 → answers (summary x) count b → b ≡ f count x) → (i : ℕ) → i < length (tensors s) → (d : Kept) (n : ℕ) (r : Bool) → n ≡ count_at (tensors s) i → Describes h (get_or places i 0) d → answers d n r → r ≡ f (count_at (tensors s) i) (found_in (entry_at (tensors s) es i))
  tried answers f told i x d n r e q z =
      let c = counts-positive s a i x in
      told _ _ r c.0 (omega (arith, c.1)) (subst (λ (m : ℕ). answers (summary (found_in (entry_at (tensors s) es i))) m r) e (subst (λ (k : Kept). answers k n r) (kept-is i x d q) z))
