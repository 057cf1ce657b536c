-- What single bytes do: blanks, digits, words and numbers. Assumes nothing.
use mathlib.Core.Path.{◌≡◌, refl, sym, ◌∙◌}
use mathlib.Core.Bool.{Bool, true, false, ◌&&◌, ◌||◌, false≢true}
use mathlib.Core.List.{List, [], ◌∷◌}
use mathlib.Core.Option.{none}
use Prim.Native.Nat.{ℕ, ◌+◌, ◌≤◌, ◌<◌}
use native.Mathlib.Numerals.{add-one}
use native.Mathlib.Omega.{arith}
use lib.Dec.{leb, eqb}
use lib.ListN.{length, get_or, drop, drop_of_length-le}
use lib.Seq.{drop-cons}
use borrow.Author.Tests.{leb-true, leb-false, eqb-false}
use Rattle.json_grammar.specs.inner.Machine.{Class, just, lowest, highest, digit, Sym, natural, digits, frac, exp, signed, range, one, from, byte, alts, nullable, within, or_else, pick, took, empty, stuck, settled, settle, ready, go}
use Rattle.json_grammar.specs.inner.Steps.{is_blank, is_digit, is_more, Lexes, letters, skip}
use Rattle.std.specs.Prelude.{Ok, Err}
use Rattle.json_grammar.specs.declared.scan.Fault.TheVariants as F
use Rattle.json_grammar.proofs.Picks.{inside, outside_low, outside_high, clear, at, settle-at}
use Rattle.json_grammar.proofs.Steps.{go-nil, go-took, byte-out, or-neither, ends, stops}

-- ---- blanks

pub skip_at : (s : List ℕ) (i : ℕ) → i < length s → is_blank (get_or s i 0) ≡ true → skip (drop i s) ≡ skip (drop (i + 1) s)
unfolding skip
skip_at s i h e = rw (add-one i, drop-cons s i 0 h, e)

pub skip-none : (s : List ℕ) (i : ℕ) → i < length s → is_blank (get_or s i 0) ≡ false → skip (drop i s) ≡ drop i s
unfolding skip
skip-none s i h e = rw (drop-cons s i 0 h, e)

pub skip-end : (s : List ℕ) (i : ℕ) → length s ≤ i → skip (drop i s) ≡ drop i s
unfolding skip
skip-end s i h = rw (drop_of_length-le s h)

-- ---- a byte of a class

module _ (k : Class) (α : List Sym) (b : ℕ) where
  pub class_low : b < lowest k → settle (range k ∷ α) b ≡ stuck
  unfolding settle alts pick nullable
  class_low h = rw (outside_low (from (lowest k) (highest k) []) b h)

  pub class-high : highest k < b → settle (range k ∷ α) b ≡ stuck
  unfolding settle alts pick nullable
  class-high h = rw (outside_high (from (lowest k) (highest k) []) b h)

  pub class-in : lowest k ≤ b → b ≤ highest k → settle (range k ∷ α) b ≡ took false α
  unfolding settle alts pick
  class-in h w = rw (inside (from (lowest k) (highest k) []) b h w)

module _ (α : List Sym) (b : ℕ) where
  pub digit-took : is_digit b ≡ true → settle (range digit ∷ α) b ≡ took false α
  unfolding settle alts pick within
  digit-took h = rw h

  pub digit-stuck : is_digit b ≡ false → settle (range digit ∷ α) b ≡ stuck
  unfolding settle alts pick within nullable
  digit-stuck h = rw h

  pub digits-took : is_digit b ≡ true → settle (digits ∷ α) b ≡ took false (digits ∷ α)
  unfolding settle alts pick within
  digits-took h = rw h

  pub digits-skip : is_digit b ≡ false → settle (digits ∷ α) b ≡ settle α b
  unfolding settle alts pick within nullable
  digits-skip h = rw h

  pub frac-skip : (b ≡ 0x2E → ⊥) → settle (frac ∷ α) b ≡ settle α b
  unfolding settle alts pick nullable
  frac-skip h = rw (byte-out 0x2E b (range digit ∷ (digits ∷ [])) h)

  pub exp-skip : (b ≡ 0x65 → ⊥) → (b ≡ 0x45 → ⊥) → settle (exp ∷ α) b ≡ settle α b
  unfolding settle alts pick nullable
  exp-skip h w = rw (byte-out 0x65 b (signed ∷ []) h, byte-out 0x45 b (signed ∷ []) w)

  -- no sign: a digit is as good
  pub signed-digit : (b ≡ 0x2D → ⊥) → (b ≡ 0x2B → ⊥) → settle (signed ∷ α) b ≡ settle (range digit ∷ (digits ∷ α)) b
  unfolding settle alts pick nullable within
  signed-digit h w = rw (byte-out 0x2D b (range digit ∷ (digits ∷ [])) h, byte-out 0x2B b (range digit ∷ (digits ∷ [])) w) (of (is_digit b) refl)
    where
      of : (t : Bool) → is_digit b ≡ t → settled (or_else (within (from 0x30 0x39 (digits ∷ [])) b) (from 0x30 0x39 (digits ∷ [])) none) false α (settle α b) ≡ settled (or_else (within (from 0x30 0x39 []) b) (from 0x30 0x39 []) none) false (digits ∷ α) (settle (digits ∷ α) b)
      of true e = rw e
      of false e = rw e

  pub natural-stuck : is_digit b ≡ false → settle (natural ∷ α) b ≡ stuck
  unfolding settle alts pick nullable
  natural-stuck h = of (leb 0x30 b) (leb b 0x39) refl refl h
    where
      of : (t u : Bool) → leb 0x30 b ≡ t → leb b 0x39 ≡ u → (t && u) ≡ false → settle (natural ∷ α) b ≡ stuck
      of true true p q k = absurd (false≢true (sym k))
      of true false p q k =
          let w : 0x39 < b = leb-false b 0x39 q in
          rw (outside_high (byte 0x30 (frac ∷ (exp ∷ []))) b (omega arith), outside_high (from 0x31 0x39 (digits ∷ (frac ∷ (exp ∷ [])))) b (omega arith))
      of false u p q k =
          let w : b < 0x30 = leb-false 0x30 b p in
          rw (outside_low (byte 0x30 (frac ∷ (exp ∷ []))) b (omega arith), outside_low (from 0x31 0x39 (digits ∷ (frac ∷ (exp ∷ [])))) b (omega arith))

  pub digit-range : is_digit b ≡ true → (0x30 ≤ b) × (b ≤ 0x39)
  digit-range h = of (leb 0x30 b) (leb b 0x39) refl refl h
    where
      of : (t u : Bool) → leb 0x30 b ≡ t → leb b 0x39 ≡ u → (t && u) ≡ true → (0x30 ≤ b) × (b ≤ 0x39)
      of true true p q k = (leb-true 0x30 b p, leb-true b 0x39 q)
      of true false p q k = absurd (false≢true k)
      of false u p q k = absurd (false≢true k)

  pub natural-more : is_digit b ≡ true → (b ≡ 0x30 → ⊥) → settle (natural ∷ α) b ≡ took false (digits ∷ (frac ∷ (exp ∷ α)))
  unfolding alts at clear
  natural-more h w = let k = digit-range h in settle-at natural α 0x31 0x39 1 b refl (omega arith) (omega arith)

-- behind digits that no fraction and no exponent follows nothing is expected
pub more-none : (b : ℕ) → is_more b ≡ false → settle (frac ∷ (exp ∷ [])) b ≡ empty
unfolding settle
more-none b h =
    let p = or-neither (eqb b 0x2E) (eqb b 0x65 || eqb b 0x45) h in
    let q = or-neither (eqb b 0x65) (eqb b 0x45) p.1 in
    frac-skip (exp ∷ []) b (eqb-false b 0x2E p.0) ∙ exp-skip [] b (eqb-false b 0x65 q.0) (eqb-false b 0x45 q.1)

-- ---- words

pub letters-at : (w : List ℕ) (j : ℕ) → j < length w → letters (drop j w) ≡ one (get_or w j 0) ∷ letters (drop (j + 1) w)
unfolding letters
letters-at w j h = rw (add-one j, drop-cons w j 0 h)

-- ---- words, from letter j on

module _ {s : List ℕ} {i : ℕ} (w : List ℕ) (j : ℕ) where
  pub word_end : length s ≤ i → j < length w → Lexes s i (letters (drop j w)) (Err (F.Stop i))
  unfolding ready nullable
  word_end h k = rw (letters-at w j k) (ends refl h)

  pub word-other : i < length s → j < length w → (get_or s i 0 ≡ get_or w j 0 → ⊥) → Lexes s i (letters (drop j w)) (Err (F.Stop i))
  unfolding settle alts pick nullable
  word-other h k ne = rw (letters-at w j k) (stops h (rw (byte-out (get_or w j 0) (get_or s i 0) [] ne)))

  pub word-done : length w ≤ j → Lexes s i (letters (drop j w)) (Ok i)
  unfolding letters
  word-done h = record { same = λ d. rw (drop_of_length-le w h) (sym (go-nil d (drop i s))); low = omega arith; high = omega arith }

pub word_more :
    (s : List ℕ) (i : ℕ) (w : List ℕ) (j d : ℕ) →
    i < length s →
    j < length w →
    get_or s i 0 ≡ get_or w j 0 →
    go d (letters (drop j w)) (drop i s) ≡ go d (letters (drop (j + 1) w)) (drop (i + 1) s)
word_more s i w j d h k e =
    rw (letters-at w j k) (go-took s i d (one (get_or w j 0) ∷ letters (drop (j + 1) w)) (letters (drop (j + 1) w)) h
    (class-in (just (get_or w j 0)) (letters (drop (j + 1) w)) (get_or s i 0) (omega arith) (omega arith)))
