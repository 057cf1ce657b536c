-- The rows of a strip: what two slots hold, and what is mixed of them. Assumes nothing.
use mathlib.Core.Path.{◌≡◌, refl, sym, ap, ◌∙◌}
use mathlib.Core.Logic.{inl, inr}
use mathlib.Core.Bool.{Bool, true, false}
use mathlib.Core.List.{List, [], ◌∷◌}
use Prim.Native.Nat.{ℕ, zero, suc, ◌+◌, ◌*◌, ◌%◌, ◌≤◌, ◌<◌}
use native.Mathlib.Nat.{eq-or-lt_of_le}
use native.Mathlib.Omega.{arith}
use borrow.Author.Tests.{eqb-true, eqb-false}
use lib.Dec.{eqb}
use lib.ListN.{length, get_or, set, length-set}
use lib.Seq.{get_or-set_same, get_or-set_other}
use lib.Ieee.{Float, nan, binary64, sub}
use Rattle.number_floats.proofs.Ways.{lt-or-ge}
use Rattle.buffers.specs.Region.{region, put}
use Rattle.buffers.specs.inner.Apart.{Apart, before, after}
use Rattle.buffers.specs.Rows.{tab, rows}
use Rattle.buffers.proofs.Lists.{length-rows, length-tab, get_d_rows, get_or-tab}
use Rattle.buffers.proofs.Regions.{region-put, region-put-same, get_or-region, get_or-put-same}
use Rattle.number_floats.specs.Constants.{one64}
use Rattle.picture_resize.specs.declared.Near.{Near}
use Rattle.picture_resize.specs.Resize.{near, blend, mix, resized_at}
use Rattle.picture_resize.specs.inner.Weighed.{weighed}
use Rattle.picture_patches.specs.declared.rows.Frame.{Frame}
use Rattle.picture_patches.specs.inner.Strip.{strip, span, left_of, right_of, left_row, right_row, Slots, Held, mixed_at, mixed_row, RowAt, Banded}

-- ---- a slot for either parity of rows, each with m values of the row that it holds, counted from 1
module _ {A : Type 0} (row : ℕ → List A) (m : ℕ) (M : m ≤ span) (L : (y : ℕ) → length (row y) ≡ m) where
  abbrev pub Holds : List ℕ → List A → Type 0
  Holds held s = (y : ℕ) → get_or held (y % 2) 0 ≡ y + 1 → region s (y % 2 * span) m ≡ row y

  module _ (held : List ℕ) (s : List A) (two : length held ≡ 2) (room : length s ≡ 2 * span) (h : Holds held s) (y : ℕ) where
    abbrev after-it : ℕ → Type 0
    after-it k = get_or (set held (y % 2) (y + 1)) (k % 2) 0 ≡ k + 1 → region (put s (y % 2 * span) (row y)) (k % 2 * span) m ≡ row k

    -- the row's own slot, and the other one
    own : (k : ℕ) → k % 2 ≡ y % 2 → after-it k
    own k p e =
        let q : y + 1 ≡ k + 1 = sym (get_or-set_same held (y % 2) (y + 1) 0 (omega arith)) ∙ ap (λ (i : ℕ). get_or (set held (y % 2) (y + 1)) i 0) (sym p) ∙ e in
        let r : y ≡ k = omega arith in
        ap (λ (i : ℕ). region (put s (y % 2 * span) (row y)) (i * span) m) p ∙ region-put-same s (y % 2 * span) (row y) m (sym (L y)) (omega (arith, L y)) ∙ ap row r

    apart : (k : ℕ) → (k % 2 ≡ y % 2 → ⊥) → Apart (k % 2 * span) m (y % 2 * span) (length (row y))
    apart k p = elim (lt-or-ge (k % 2) (y % 2)) [
      | inl l ↦ before (omega arith)
      | inr g ↦ elim (eq-or-lt_of_le g) [ inl e ↦ absurd (p (sym e)) | inr l ↦ after (omega (arith, L y)) ]
    ]

    other : (k : ℕ) → (k % 2 ≡ y % 2 → ⊥) → after-it k
    other k p e =
        region-put s (y % 2 * span) (row y) (k % 2 * span) m (apart k p)
        ∙ h k (sym (get_or-set_other held (y % 2) (k % 2) (y + 1) 0 p) ∙ e)

    pub put-held : Holds (set held (y % 2) (y + 1)) (put s (y % 2 * span) (row y))
    put-held k = either (eqb (k % 2) (y % 2)) refl
      where
        either : (b : Bool) → eqb (k % 2) (y % 2) ≡ b → after-it k
        either true e = own k (eqb-true _ _ e)
        either false e = other k (eqb-false _ _ e)

    -- the row is there already
    pub kept-held : get_or held (y % 2) 0 ≡ y + 1 → Holds (set held (y % 2) (y + 1)) s
    kept-held e k g = either (eqb (k % 2) (y % 2)) refl
      where
        either : (b : Bool) → eqb (k % 2) (y % 2) ≡ b → region s (k % 2 * span) m ≡ row k
        either true p = h k (ap (λ (i : ℕ). get_or held i 0) (eqb-true _ _ p) ∙ e ∙ sym (get_or-set_same held (y % 2) (y + 1) 0 (omega arith)) ∙ ap (λ (i : ℕ). get_or (set held (y % 2) (y + 1)) i 0) (sym (eqb-true _ _ p)) ∙ g)
        either false p = h k (sym (get_or-set_other held (y % 2) (k % 2) (y + 1) 0 (eqb-false _ _ p)) ∙ g)

-- ---- both sides of a row
module _ (rgb : List ℕ) (f : Frame) (x n : ℕ) (held : List ℕ) (left right : List Float) (room : Slots n (length left) (length right)) (h : Held rgb f x n held left right) (y : ℕ) where
  abbrev lefts-of : ℕ → List Float
  lefts-of k = left_row rgb f.w f.tw k x n

  abbrev rights-of : ℕ → List Float
  rights-of k = right_row rgb f.w f.tw k x n

  fits : n * 3 ≤ span
  fits = omega (arith, room.columns)

  pub weighed-held : {l r : List Float} → l ≡ put left (y % 2 * span) (lefts-of y) → r ≡ put right (y % 2 * span) (rights-of y) → Held rgb f x n (set held (y % 2) (y + 1)) l r
  weighed-held e g =
      record {
        two = length-set held (y % 2) (y + 1) ∙ h.two;
        lefts = λ k q. rw e (put-held lefts-of (n * 3) fits (λ i. length-rows _ 3 (λ j. length-tab 3 _) n) held left h.two room.left-long h.lefts y k q);
        rights = λ k q. rw g (put-held rights-of (n * 3) fits (λ i. length-rows _ 3 (λ j. length-tab 3 _) n) held right h.two room.right-long h.rights y k q);
      }

  pub there-held : {l r : List Float} → get_or held (y % 2) 0 ≡ y + 1 → l ≡ left → r ≡ right → Held rgb f x n (set held (y % 2) (y + 1)) l r
  there-held p e g =
      record {
        two = length-set held (y % 2) (y + 1) ∙ h.two;
        lefts = λ k q. rw e (kept-held lefts-of (n * 3) fits (λ i. length-rows _ 3 (λ j. length-tab 3 _) n) held left h.two room.left-long h.lefts y p k q);
        rights = λ k q. rw g (kept-held rights-of (n * 3) fits (λ i. length-rows _ 3 (λ j. length-tab 3 _) n) held right h.two room.right-long h.rights y p k q);
      }

-- ---- two neighbouring rows are held at once
pub neighbours : (from to i : ℕ) → 0 < from → ((near from to i).low ≤ (near from to i).high) × ((near from to i).high ≤ (near from to i).low + 1)
unfolding near
neighbours from to i h = (omega arith, omega arith)

pub first-stays : (held : List ℕ) (low high : ℕ) → length held ≡ 2 → low ≤ high → high ≤ low + 1 → get_or (set (set held (low % 2) (low + 1)) (high % 2) (high + 1)) (low % 2) 0 ≡ low + 1
first-stays held low high two l h = elim (eq-or-lt_of_le l) [
  | inl e ↦ rw e (get_or-set_same (set held (high % 2) (high + 1)) (high % 2) (high + 1) 0 (simp length-set (omega arith)))
  | inr g ↦
      get_or-set_other (set held (low % 2) (low + 1)) (high % 2) (low % 2) (high + 1) 0 (λ p. omega arith)
      ∙ get_or-set_same held (low % 2) (low + 1) 0 (omega arith)
]

pub second_is : (held : List ℕ) (low high : ℕ) → length held ≡ 2 → get_or (set (set held (low % 2) (low + 1)) (high % 2) (high + 1)) (high % 2) 0 ≡ high + 1
second_is held low high two = get_or-set_same (set held (low % 2) (low + 1)) (high % 2) (high + 1) 0 (simp length-set (omega arith))

-- ---- what stands at a place of a row that is held
row_at : (s : List Float) (at n : ℕ) (g : ℕ → ℕ → Float) → region s at (n * 3) ≡ rows n (λ j. tab 3 (g j)) → (j c : ℕ) → j < n → c < 3 → get_or s (at + (j * 3 + c)) nan ≡ g j c
row_at s at n g e j c J C =
    sym (get_or-region s at (n * 3) (j * 3 + c) nan (omega arith))
    ∙ ap (λ (l : List Float). get_or l (j * 3 + c) nan) e
    ∙ get_d_rows (λ i. tab 3 (g i)) 3 (λ i. length-tab 3 (g i)) n j c nan J C
    ∙ get_or-tab 3 c (g j) nan C

module _ (rgb : List ℕ) (f : Frame) (r x n : ℕ) (held : List ℕ) (left right : List Float) (wide : 0 < f.h) (h : Held rgb f x n held left right) where
  abbrev y : Near
  y = near f.h f.th r

  abbrev u : ℕ
  u = y.low % 2 * span

  abbrev v : ℕ
  v = y.high % 2 * span

  module _ (low : get_or held (y.low % 2) 0 ≡ y.low + 1) (high : get_or held (y.high % 2) 0 ≡ y.high + 1) where
    byte-is : (j c : ℕ) → j < n → c < 3 → mixed_at left right (u + (j * 3 + c)) (v + (j * 3 + c)) (sub binary64 one64 y.part) y.part ≡ resized_at rgb f.h f.w f.th f.tw r (x + j) c
    unfolding mix blend weighed
    byte-is j c J C =
        rw (row_at left u n (λ i. left_of rgb f.w y.low (near f.w f.tw (x + i))) (h.lefts y.low low) j c J C, row_at right u n (λ i. right_of rgb f.w y.low (near f.w f.tw (x + i))) (h.rights y.low low) j c J C, row_at left v n (λ i. left_of rgb f.w y.high (near f.w f.tw (x + i))) (h.lefts y.high high) j c J C, row_at right v n (λ i. right_of rgb f.w y.high (near f.w f.tw (x + i))) (h.rights y.high high) j c J C) refl

    pub row-mixed : (band t : List ℕ) (at : ℕ) → at + n * 3 ≤ length band → t ≡ put band at (mixed_row left right u v (sub binary64 one64 y.part) y.part (n * 3)) → RowAt rgb f r x n at t
    row-mixed band t at room e j c J C =
        let g : ℕ → ℕ = λ m. mixed_at left right (u + m) (v + m) (sub binary64 one64 y.part) y.part in
        let long : length (tab (n * 3) g) ≡ n * 3 = length-tab (n * 3) g in
        ap (λ (s : List ℕ). get_or s (at + (j * 3 + c)) 0) e
        ∙ get_or-put-same band at (tab (n * 3) g) (j * 3 + c) 0 (omega arith) (omega arith)
        ∙ get_or-tab (n * 3) (j * 3 + c) g 0 (omega arith)
        ∙ byte-is j c J C

-- ---- row below row
pub banded-step : (rgb : List ℕ) (f : Frame) (r x n i : ℕ) (s t : List ℕ) → n ≤ strip → Banded rgb f r x n i s → RowAt rgb f (r + i) x n (i * span) t → ((k : ℕ) → k < i * span → get_or t k 0 ≡ get_or s k 0) → Banded rgb f r x n (i + 1) t
banded-step rgb f r x n i s t wide b last kept = record { row = go }
  where
    go : (k : ℕ) → k < i + 1 → RowAt rgb f (r + k) x n (k * span) t
    go k h j c J C = elim (lt-or-ge k i) [
      | inl l ↦ kept (k * span + (j * 3 + c)) (omega arith) ∙ b.row k l j c J C
      | inr g ↦ let e : i ≡ k = omega arith in rw (sym e) (last j c J C)
    ]

-- nothing is held at first
pub none-held : (rgb : List ℕ) (f : Frame) (x n : ℕ) (left right : List Float) → Held rgb f x n (0 ∷ 0 ∷ []) left right
none-held rgb f x n left right = record { two = refl; lefts = λ y e. absurd (none y (y % 2) e); rights = λ y e. absurd (none y (y % 2) e) }
  where
    none : (y k : ℕ) → get_or (0 ∷ 0 ∷ []) k 0 ≡ y + 1 → ⊥
    none y zero e = omega arith
    none y (suc zero) e = omega arith
    none y (suc (suc k)) e = omega arith
