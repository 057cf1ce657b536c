-- Laws of a line's fields: one after another, and the last. Assumes nothing.
use mathlib.Core.Path.{◌≡◌, refl, sym, ap, ◌∙◌}
use mathlib.Core.Bool.{Bool, true, false, cond}
use mathlib.Core.List.{List, [], ◌∷◌}
use Rattle.std.specs.Prelude.{Option, None, Some}
use Prim.Native.Nat.{ℕ, suc, ◌+◌, ◌-◌, ◌*◌, ◌≤◌, ◌<◌}
use native.Mathlib.Nat.{le_refl}
use native.Mathlib.Decide.{dec_lt}
use native.Mathlib.Numerals.{add-one}
use native.Mathlib.Omega.{arith}
use borrow.Author.Tests.{eqb-true, eqb-false, ne_eqb, leb-true, leb-false}
use lib.Dec.{eqb, leb}
use lib.ListN.{length, take, drop, length-drop}
use lib.Seq.{take_all}
use Rattle.unpatch_form.specs.Words.{onto, pieces, same, ◌>>=◌, one_piece, end, joined, behind}
use Rattle.unpatch_form.specs.Decimal.{is_digit, digits_from, decimal, up_to, limited}
use Rattle.unpatch_form.specs.Hex.{nibble, pair, hex_pairs, hex_bytes}
use Rattle.unpatch_form.specs.Form.{fields, small, as_pair, with_two, two, three, row_fields}
use Rattle.unpatch_form.specs.inner.Steps.{until}
use Rattle.unpatch_form.proofs.Pieces.{until-le, pieces-cut, pieces-one}

-- what is left from `at` on, as `&s[at..]` has it
pub rest : (s : List ℕ) (at : ℕ) → take (length s - at) (drop at s) ≡ drop at s
rest s at = take_all (length s - at) (drop at s) (simp length-drop (le_refl (length s - at)))

-- ---- the first of several
pub some-piece : (s : ℕ) (l : List ℕ) → (p : List ℕ) × (ps : List (List ℕ)) × (pieces s l ≡ p ∷ ps)
unfolding pieces onto
some-piece s [] = ([], [], refl)
some-piece s (b ∷ bs) = go (eqb b s) (some-piece s bs)
  where
    go : (t : Bool) → ((p : List ℕ) × (ps : List (List ℕ)) × (pieces s bs ≡ p ∷ ps)) → (p : List ℕ) × (ps : List (List ℕ)) × (cond t ([] ∷ pieces s bs) (onto b (pieces s bs)) ≡ p ∷ ps)
    go true r = ([], pieces s bs, refl)
    go false r = (b ∷ r.0, r.1, ap (onto b) r.2)

pub behind-cut : (w l : List ℕ) → until 9 l < length l → behind w (fields l) ≡ cond (same (take (until 9 l) l) w) (Some (fields (drop (suc (until 9 l)) l))) None
behind-cut w l h =
    let r = some-piece 9 (drop (suc (until 9 l)) l) in
    rw (pieces-cut 9 l h, r.2) refl

pub behind-alone : (w l : List ℕ) → until 9 l ≡ length l → behind w (fields l) ≡ None
behind-alone w l e = rw (pieces-one 9 l e) refl

-- ---- one after another
module _ {A B : Type 0} (f : List ℕ → Option A) (g : A → List (List ℕ) → Option B) where
  -- where g wants more
  pub first_alone : ((a : A) → g a [] ≡ None) → (s : ℕ) (l : List ℕ) → until s l ≡ length l → one_piece f g (pieces s l) ≡ None
  first_alone none_left s l e = rw (pieces-one s l e) (go (f l))
    where
      go : (o : Option A) → (o >>= λ a. g a []) ≡ None
      go None = refl
      go (Some a) = none_left a

  -- the first ends at e
  pub first-cut : (s : ℕ) (l : List ℕ) (e : ℕ) → e ≡ until s l → e < length l → one_piece f g (pieces s l) ≡ (f (take e l) >>= λ a. g a (pieces s (drop (e + 1) l)))
  first-cut s l e d h = rw (add-one e, d, pieces-cut s l (rw d at h)) refl

-- ---- the last: a reader that refuses a tab may read on to the end
abbrev pub Refuses : {A : Type 0} → (List ℕ → Option A) → Type 0
Refuses f = (l : List ℕ) → until 9 l < length l → f l ≡ None

pub last-field : {A B : Type 0} (f : List ℕ → Option A) (g : A → Option B) → Refuses f → (l : List ℕ) → one_piece f (λ a. end (g a)) (fields l) ≡ (f l >>= g)
last-field {A} {B} f g no-tab l = go (dec_lt (until 9 l) (length l))
  where
    more : (o : Option A) (p : List ℕ) (ps : List (List ℕ)) → (o >>= λ a. end (g a) (p ∷ ps)) ≡ None
    more None p ps = refl
    more (Some a) p ps = refl

    go : Dec (until 9 l < length l) → one_piece f (λ a. end (g a)) (fields l) ≡ (f l >>= g)
    go (yes h) =
        let r = some-piece 9 (drop (suc (until 9 l)) l) in
        rw (pieces-cut 9 l h, r.2, no-tab l h) (more (f (take (until 9 l) l)) r.0 r.1)
    go (no h) = rw (pieces-one 9 l (omega (arith, until-le 9 l))) refl

-- what stands in front of the rest
tail : (b : ℕ) (bs : List ℕ) → until 9 (b ∷ bs) < length (b ∷ bs) → (b ≡ 9 → ⊥) → until 9 bs < length bs
unfolding until
tail b bs h n = let k = rw (ne_eqb b 9 n) at h in omega arith

digits-refuse : (n : ℕ) → Refuses (digits_from n)
unfolding digits_from
digits-refuse n [] h = absurd (omega (arith, until-le 9 []))
digits-refuse n (b ∷ bs) h = go (eqb b 9) refl (λ k. digits-refuse (n * 10 + (b - 48)) bs k)
  where
    last : (t : Bool) → digits_from (n * 10 + (b - 48)) bs ≡ None → cond t (digits_from (n * 10 + (b - 48)) bs) None ≡ None
    last true e = e
    last false e = refl

    go : (t : Bool) → eqb b 9 ≡ t → (until 9 bs < length bs → digits_from (n * 10 + (b - 48)) bs ≡ None) → cond (is_digit b) (digits_from (n * 10 + (b - 48)) bs) None ≡ None
    go true e r = rw (eqb-true b 9 e) refl
    go false e r = last (is_digit b) (r (tail b bs h (λ k. eqb-false b 9 e k)))

pub decimal-refuses : Refuses decimal
unfolding decimal
decimal-refuses [] h = refl
decimal-refuses (b ∷ []) h = digits-refuse 0 (b ∷ []) h
decimal-refuses (b ∷ (d ∷ bs)) h = go (eqb b 48) (digits-refuse 0 (b ∷ (d ∷ bs)) h)
  where
    go : (t : Bool) → digits_from 0 (b ∷ (d ∷ bs)) ≡ None → cond t None (digits_from 0 (b ∷ (d ∷ bs))) ≡ None
    go true e = refl
    go false e = e

pub limited-refuses : (most : ℕ) → Refuses (limited most)
limited-refuses most l h = rw (decimal-refuses l h) refl

pairs-refuse : Refuses hex_pairs
unfolding hex_pairs pair nibble
pairs-refuse [] h = absurd (omega (arith, until-le 9 []))
pairs-refuse (a ∷ []) h = refl
pairs-refuse (a ∷ (b ∷ bs)) h = go (eqb a 9) refl (eqb b 9) refl (λ k. pairs-refuse bs k)
  where
    second : (o : Option ℕ) → b ≡ 9 → ((o >>= λ x. nibble b >>= λ y. Some (x * 16 + y)) >>= λ x. joined (x ∷ []) (hex_pairs bs)) ≡ None
    second None e = refl
    second (Some x) e = rw e refl

    last : (o : Option ℕ) → hex_pairs bs ≡ None → (o >>= λ x. joined (x ∷ []) (hex_pairs bs)) ≡ None
    last None e = refl
    last (Some x) e = rw e refl

    go : (t : Bool) → eqb a 9 ≡ t → (u : Bool) → eqb b 9 ≡ u → (until 9 bs < length bs → hex_pairs bs ≡ None) → (pair a b >>= λ x. joined (x ∷ []) (hex_pairs bs)) ≡ None
    go true e u f r = rw (eqb-true a 9 e) refl
    go false e true f r = second (nibble a) (eqb-true b 9 f)
    go false e false f r = last (pair a b) (r (tail b bs (tail a (b ∷ bs) h (λ k. eqb-false a 9 e k)) (λ k. eqb-false b 9 f k)))

pub hex-refuses : Refuses hex_bytes
hex-refuses [] h = refl
hex-refuses (b ∷ bs) h = pairs-refuse (b ∷ bs) h

-- ---- a limit that is the number itself
pub limit-none : (i : ℕ) (o : Option ℕ) → (o >>= up_to i) ≡ None → (h : Option (List ℕ)) → (o >>= λ k. h >>= λ l. cond (eqb k i) (Some l) None) ≡ None
limit-none i None e h = refl
limit-none i (Some k) e None = refl
limit-none i (Some k) e (Some l) = go (leb k i) refl e
  where
    go : (t : Bool) → leb k i ≡ t → cond t (Some k) None ≡ None → cond (eqb k i) (Some l) None ≡ None
    go true f g = let z : ◌≡◌ {A = ℕ} 0 1 = cc in absurd (omega arith)
    go false f g = let h = leb-false k i f in rw (ne_eqb k i (λ d. omega arith)) refl

pub limit-some : (most n : ℕ) (o : Option ℕ) → (o >>= up_to most) ≡ Some n → (o ≡ Some n) × (n ≤ most)
limit-some most n None e = let z : ◌≡◌ {A = ℕ} 0 1 = cc in absurd (omega arith)
limit-some most n (Some k) e = go (leb k most) refl e
  where
    go : (t : Bool) → leb k most ≡ t → cond t (Some k) None ≡ Some n → (Some k ≡ Some n) × (n ≤ most)
    go true f g = let h = leb-true k most f in let d : k ≡ n = cc in (g, omega arith)
    go false f g = let z : ◌≡◌ {A = ℕ} 0 1 = cc in absurd (omega arith)

-- ---- the lines' fields, where the first ends at e
module _ (s : List ℕ) (e : ℕ) (found : e ≡ until 9 s) where
  pub two-alone : e ≡ length s → two (fields s) ≡ None
  two-alone h = first_alone small (λ a. one_piece small λ b. end (as_pair a b)) (λ a. refl) 9 s (sym found ∙ h)

  pub two-cut : e < length s → two (fields s) ≡ (small (take e s) >>= λ a. small (drop (e + 1) s) >>= as_pair a)
  two-cut h =
      first-cut small (λ a. one_piece small λ b. end (as_pair a b)) 9 s e found h ∙ go (small (take e s))
    where
      go : (o : Option ℕ) → (o >>= λ a. one_piece small (λ b. end (as_pair a b)) (fields (drop (e + 1) s))) ≡ (o >>= λ a. small (drop (e + 1) s) >>= as_pair a)
      go None = refl
      go (Some a) = last-field small (as_pair a) (limited-refuses 64) (drop (e + 1) s)

  pub three-alone : e ≡ length s → three (fields s) ≡ None
  three-alone h = first_alone small (λ a fs. two fs >>= with_two a) (λ a. refl) 9 s (sym found ∙ h)

  pub three-cut : e < length s → three (fields s) ≡ (small (take e s) >>= λ a. two (fields (drop (e + 1) s)) >>= with_two a)
  three-cut h = first-cut small (λ a fs. two fs >>= with_two a) 9 s e found h

  pub row-alone : (i : ℕ) → e ≡ length s → row_fields i (fields s) ≡ None
  row-alone i h = first_alone decimal (λ k. one_piece hex_bytes λ bs. end (cond (eqb k i) (Some bs) None)) (λ k. refl) 9 s (sym found ∙ h)

  pub row_cut : (i : ℕ) → e < length s → row_fields i (fields s) ≡ (decimal (take e s) >>= λ k. hex_bytes (drop (e + 1) s) >>= λ bs. cond (eqb k i) (Some bs) None)
  row_cut i h =
      first-cut decimal (λ k. one_piece hex_bytes λ bs. end (cond (eqb k i) (Some bs) None)) 9 s e found h ∙ go (decimal (take e s))
    where
      go : (o : Option ℕ) → (o >>= λ k. one_piece hex_bytes (λ bs. end (cond (eqb k i) (Some bs) None)) (fields (drop (e + 1) s))) ≡ (o >>= λ k. hex_bytes (drop (e + 1) s) >>= λ bs. cond (eqb k i) (Some bs) None)
      go None = refl
      go (Some k) = last-field hex_bytes (λ bs. cond (eqb k i) (Some bs) None) hex-refuses (drop (e + 1) s)
