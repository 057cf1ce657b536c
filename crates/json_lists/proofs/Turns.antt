-- The numbers of a list in a slice, one after another. Assumes nothing.
use Rattle.std.specs.Prelude.{Option, None, Some}
use mathlib.Core.Path.{◌≡◌, refl, sym, ap, ◌∙◌}
use mathlib.Core.List.{List, [], ◌∷◌, ◌++◌, append_assoc}
use Prim.Native.Nat.{ℕ, ◌+◌, ◌≤◌, ◌<◌}
use native.Mathlib.Numerals.{add-one}
use native.Mathlib.Omega.{arith}
use lib.ListN.{length, get_or, drop, length-append, drop_of_length-le}
use lib.Seq.{drop-cons}
use borrow.Author.Tests.{ne_eqb}
use Rattle.json_grammar.specs.inner.Machine.{digits, past}
use Rattle.json_grammar.specs.inner.Steps.{Skips, LexesTo}
use Rattle.json_read.specs.inner.Steps.{Part}
use Rattle.json_read.specs.inner.Steps.{parted, Parts}
use Rattle.json_members.specs.inner.Bytes.{size_at}
use Rattle.json_lists.specs.Lists.{joined, product, held, sums_of, said_of}
use Rattle.json_lists.specs.inner.Bytes.{awaited, numbers_from, opened, numbers_at}
use Rattle.json_lists.specs.declared.Sizes.{Sizes}
use Rattle.json_lists.proofs.Listing.{behind_digits, digits-go, awaited-law, parted_by, behind-law}

-- ---- the brackets

module _ (s : List ℕ) (at : ℕ) where
  pub list-end : length s ≤ at → numbers_at (drop at s) ≡ None
  unfolding numbers_at
  list-end h = rw (drop_of_length-le s h)

  pub list-other : at < length s → (get_or s at 0 ≡ 0x5B → ⊥) → numbers_at (drop at s) ≡ None
  unfolding numbers_at
  list-other h w = rw (drop-cons s at 0 h, ne_eqb (get_or s at 0) 0x5B w)

  pub list-opened : {i : ℕ} → at < length s → get_or s at 0 ≡ 0x5B → Skips s (at + 1) i → numbers_at (drop at s) ≡ opened (drop i s)
  unfolding numbers_at
  list-opened h w k = rw (k.same, add-one at, drop-cons s at 0 h, w)

  pub opened-end : length s ≤ at → opened (drop at s) ≡ None
  unfolding opened
  opened-end h = rw (drop_of_length-le s h)

  pub opened-closed : at < length s → get_or s at 0 ≡ 0x5D → opened (drop at s) ≡ Some []
  unfolding opened
  opened-closed h w = rw (drop-cons s at 0 h, w)

  pub opened-number : at < length s → (get_or s at 0 ≡ 0x5D → ⊥) → opened (drop at s) ≡ numbers_from awaited (drop at s)
  unfolding opened
  opened-number h w = rw (drop-cons s at 0 h, ne_eqb (get_or s at 0) 0x5D w)

-- ---- one number

-- a number from i on, its digits from v to e, and what parts it from the next
pub turn : {s : List ℕ} {i v e : ℕ} {o : Option ℕ} {r : Part} → Skips s i v → o ≡ size_at (drop v s) → LexesTo s v (digits ∷ []) e → Parts s e 0x5D r → numbers_from awaited (drop i s) ≡ joined o (parted_by (parted s r))
turn {s} {i} {v} {e} {o} {r} k z d p =
    let h : past (drop e s) ≡ past (behind_digits (drop v s)) = d.same 0 ∙ digits-go 0 (drop v s) in
    let g : drop e s ≡ behind_digits (drop v s) = cc (h) in
    awaited-law (drop i s) ∙ rw (← k.same, ← z, ← g, p.same) (ap (joined o) (behind-law (drop e s)))

pub turn-none : {s : List ℕ} {i v : ℕ} → Skips s i v → None ≡ size_at (drop v s) → numbers_from awaited (drop i s) ≡ None
turn-none {s} {i} k z = awaited-law (drop i s) ∙ rw (← k.same, ← z) refl

pub turn_end : (s : List ℕ) (i : ℕ) → length s ≤ i → numbers_from awaited (drop i s) ≡ None
unfolding numbers_from
turn_end s i h = rw (drop_of_length-le s h)

-- ---- along the numbers

-- numbers in front of others, where there are others
abbrev added : List ℕ → Option (List ℕ) → Option (List ℕ)
added ns None = None
added ns (Some ms) = Some (ns ++ ms)

added_none : (o : Option (List ℕ)) → o ≡ added [] o
added_none None = refl
added_none (Some ms) = refl

added-one : (ns : List ℕ) (n : ℕ) (o : Option (List ℕ)) → added ns (joined (Some n) o) ≡ added (ns ++ (n ∷ [])) o
added-one ns n None = refl
added-one ns n (Some ms) = ap Some (sym (append_assoc ns (n ∷ []) ms))

-- the numbers up to i were read, and t is said of them
pub record Going (s : List ℕ) (at : ℕ) (t : Sizes) (i : ℕ) : Type 0 where
  pub numbers : List ℕ
  pub said : t ≡ sums_of numbers
  pub few : length numbers ≤ i
  pub left : numbers_from awaited (drop at s) ≡ added numbers (numbers_from awaited (drop i s))

pub begin : (s : List ℕ) (at : ℕ) → Going s at (record { count = 0; first = 0; second = 0; product = 1 }) at
unfolding sums_of product held
begin s at = record { numbers = []; said = refl; few = omega arith; left = added_none (numbers_from awaited (drop at s)) }

-- u is said of one number more
abbrev pub Grows : Sizes → ℕ → Sizes → Type 0
Grows t n u = (ns : List ℕ) → t ≡ sums_of ns → u ≡ sums_of (ns ++ (n ∷ []))

module _ {s : List ℕ} {at : ℕ} {t : Sizes} {i : ℕ} (g : Going s at t i) where
  pub count-few : t.count ≤ i
  unfolding sums_of
  count-few = rw g.said g.few

  pub goes_on : (n : ℕ) {j : ℕ} {u : Sizes} → Grows t n u → numbers_from awaited (drop i s) ≡ joined (Some n) (numbers_from awaited (drop j s)) → i < j → Going s at u j
  goes_on n {j} w e h =
      record {
        numbers = g.numbers ++ (n ∷ []);
        said = w g.numbers g.said;
        few = simp length-append (omega (arith, g.few));
        left = g.left ∙ rw e (added-one g.numbers n (numbers_from awaited (drop j s)));
      }

  pub closes : (n : ℕ) {u : Sizes} → Grows t n u → numbers_from awaited (drop i s) ≡ Some (n ∷ []) → Some u ≡ said_of (numbers_from awaited (drop at s))
  unfolding said_of
  closes n w e = ap Some (w g.numbers g.said) ∙ rw (g.left, e) refl

  pub stops : numbers_from awaited (drop i s) ≡ None → None ≡ said_of (numbers_from awaited (drop at s))
  unfolding said_of
  stops e = rw (g.left, e) refl
