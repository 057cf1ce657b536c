-- Laws of records: bytes that are the same, the text that unpatch leaves, and one record after another. Assumes nothing.
use mathlib.Core.Path.{◌≡◌, refl, sym, ap, ◌∙◌}
use mathlib.Core.Bool.{Bool, true, false}
use mathlib.Core.List.{List, [], ◌∷◌}
use Prim.Native.Nat.{ℕ, zero, suc, ◌+◌, ◌-◌, ◌≤◌, ◌<◌}
use native.Mathlib.Omega.{arith}
use borrow.Author.Tests.{eq-eqb, eqb-true, le-leb, lt-ltb, le-ltb}
use lib.Dec.{eqb}
use lib.ListN.{length, take, drop, length-drop}
use lib.Seq.{take_at, drop-drop}
use Rattle.buffers.proofs.Lists.{and_left, and_right}
use Rattle.buffers.specs.Region.{region}
use Rattle.unpatch_form.specs.Words.{same}
use Rattle.unpatch_text.specs.Answer.{answer, room, length_left, text_left}
use Rattle.unpatch_replay.specs.declared.record.Step.{Step}
use Rattle.unpatch_replay.specs.declared.replay.Counts.{Counts}
use Rattle.unpatch_replay.specs.Record.{size_of, unread, step_of, counted, tally}

-- ---- bytes that are the same
same_self : (xs : List ℕ) → same xs xs ≡ true
unfolding same
same_self [] = refl
same_self (x ∷ xs) = rw (eq-eqb x x refl, same_self xs) refl

same-eq : (xs ys : List ℕ) → same xs ys ≡ true → xs ≡ ys
unfolding same
same-eq [] [] e = refl
same-eq [] (y ∷ ys) e = let z : ◌≡◌ {A = ℕ} 0 1 = cc in absurd (omega arith)
same-eq (x ∷ xs) [] e = let z : ◌≡◌ {A = ℕ} 0 1 = cc in absurd (omega arith)
same-eq (x ∷ xs) (y ∷ ys) e = rw (eqb-true x y (and_left (eqb x y) (same xs ys) e), same-eq xs ys (and_right (eqb x y) (same xs ys) e)) refl

pub same_by : (r : Bool) (xs ys : List ℕ) → (r ≡ true → xs ≡ ys) → (xs ≡ ys → r ≡ true) → r ≡ same xs ys
same_by true xs ys f g = sym (ap (λ (l : List ℕ). same xs l) (sym (f refl)) ∙ same_self xs)
same_by false xs ys f g = go (same xs ys) refl
  where
    go : (b : Bool) → same xs ys ≡ b → false ≡ b
    go false e = refl
    go true e = g (same-eq xs ys e)

-- ---- the text that unpatch leaves where the output has room
pub left : (t old : List ℕ) → room ≤ length old → take (length_left (answer t) old) (text_left (answer t) old) ≡ answer t
left t old h = rw (le-leb room (length old) h) (take_at (answer t) _ _ refl)

-- ---- the first record
pub step-short : (t : List ℕ) → length t < 12 → unread t ≡ step_of t
unfolding step_of
step-short t h = rw (lt-ltb (length t) 12 h) refl

module _ (t : List ℕ) (n m : ℕ) (long : 12 ≤ length t) (n-is : n ≡ size_of (region t 0 5)) (m-is : m ≡ size_of (region t 6 5)) where
  pub step_cut : length t - 12 < n + m → unread t ≡ step_of t
  unfolding step_of
  step_cut h = rw (le-ltb (length t) 12 long, ← n-is, ← m-is, lt-ltb (length t - 12) (n + m) h) refl

  pub step-whole : (b : Bool) → n + m ≤ length t - 12 → b ≡ same (answer (region t 12 n)) (region t (12 + n) m) → record { len = 12 + n + m; same = b } ≡ step_of t
  unfolding step_of
  step-whole b h e = rw (le-ltb (length t) 12 long, ← n-is, ← m-is, le-ltb (length t - 12) (n + m) h, e) refl

-- ---- one record after another
tally-next : (k : ℕ) (c : Counts) (t : List ℕ) → 0 < length t → tally (suc k) c t ≡ tally k (counted (step_of t).same c) (drop (step_of t).len t)
unfolding tally
tally-next k c [] h = absurd (omega arith)
tally-next k c (b ∷ bs) h = refl

pub tally-end : (k : ℕ) (c : Counts) → tally k c [] ≡ c
unfolding tally
tally-end zero c = refl
tally-end (suc k) c = refl

-- what is counted from `at` on, of records that are at most k
abbrev pub Left : List ℕ → ℕ → Counts → Counts → Type 0
Left t at c all = (k : ℕ) × (length t - at ≤ k) × (tally k c (drop at t) ≡ all)

pub turn : (t : List ℕ) (at : ℕ) (c all : Counts) (s : Step) → at < length t → s ≡ step_of (drop at t) → 0 < s.len → Left t at c all → Left t (at + s.len) (counted s.same c) all
turn t at c all s h e l (zero, a, b) = absurd (omega arith)
turn t at c all s h e l (suc k, a, b) =
    let d : tally (suc k) c (drop at t) ≡ tally k (counted s.same c) (drop s.len (drop at t)) = rw e (tally-next k c (drop at t) (rw length-drop (omega arith))) in
    (k, omega arith, ap (tally k (counted s.same c)) (sym (drop-drop s.len at t)) ∙ sym d ∙ b)

pub counted-sum : (b : Bool) (c : Counts) → (counted b c).agree + (counted b c).differ ≡ c.agree + c.differ + 1
counted-sum true c = omega arith
counted-sum false c = omega arith
