-- `face_picture::patch` meets its contract: the part is empty exactly where there is no such patch. Assumes nothing.
use mathlib.Core.Path.{◌≡◌, refl, sym, ap, ◌∙◌}
use mathlib.Core.Bool.{Bool, true, false, cond, ◌&&◌}
use mathlib.Core.List.{List, []}
use Prim.Native.Nat.{ℕ, ◌+◌, ◌*◌, ◌≤◌, ◌<◌}
use native.Mathlib.Omega.{arith}
use borrow.Author.Tests.{leb-true}
use lib.Dec.{leb}
use lib.ListN.{length, take, drop, length-drop}
use lib.Seq.{length-take-le}
use lib.Ieee.{Float}
use Rattle.buffers.proofs.Lists.{and_left, and_right}
use Rattle.picture_limits.specs.Settings.{within}
use Rattle.picture_limits.specs.Places.{patch_floats}
use Rattle.picture.specs.Part.{patch_part}
use Rattle.picture_limits.proofs.Places.{times}
use Rattle.picture_limits.proofs.Sides.{within-says}
use Rattle.face_picture.specs.declared.PatchPlace.{PatchPlace}
use Rattle.face_picture.specs.Reports.{place_of}
use Rattle.face_picture.proofs.patch.Goals as goal

module _ (l : List Float) (p i : ℕ) where
  abbrev n : ℕ
  n = patch_floats p

  abbrev test : Bool
  test = within 1 32 p && leb (i * n + n) (length l)

  inside : test ≡ true → (0 < n) × (i * n + n ≤ length l)
  inside e =
      let w = within-says 1 32 p (and_left (within 1 32 p) (leb (i * n + n) (length l)) e) in
      (omega (arith, times 1 1 p p w.0 w.0), leb-true _ _ (and_right (within 1 32 p) (leb (i * n + n) (length l)) e))

  long : test ≡ true → length (take n (drop (i * n) l)) ≡ n
  long e = length-take-le n (drop (i * n) l) (let g = inside e in rw (length-drop (i * n) l) (omega arith))

  abbrev at : Bool → PatchPlace
  at b = cond b (record { start = i * n; len = n }) (record { start = 0; len = 0 })

  abbrev part : Bool → List Float
  part b = cond b (take n (drop (i * n) l)) []

  none : (b : Bool) → (b ≡ true → (0 < n) × (length (part true) ≡ n)) → length (part b) ≡ 0 → record { start = 0; len = 0 } ≡ at b
  none true f e = absurd (let g = f refl in omega arith)
  none false f e = refl

  some : (b : Bool) → (b ≡ true → length (part true) ≡ n) → (length (part b) ≡ 0 → ⊥) → record { start = i * length (part b); len = length (part b) } ≡ at b
  some true f e = ap (λ (k : ℕ). record { start = i * k; len = k }) (f refl)
  some false f e = absurd (e refl)

  fits : (b : Bool) → (b ≡ true → (length (part true) ≡ n) × (i * n + n ≤ length l)) → i * length (part b) ≤ length l
  fits true f = let g = f refl in let e = ap (λ (k : ℕ). i * k) g.0 in omega arith
  fits false f = omega arith

empty : (l : List Float) (p i k : ℕ) → k ≡ length (patch_part l p i) → k ≡ 0 → record { start = 0; len = 0 } ≡ place_of (length l) p i
unfolding patch_part place_of
empty l p i k e z = none l p i (test l p i) (λ t. ((inside l p i t).0, long l p i t)) (sym e ∙ z)

there : (l : List Float) (p i k : ℕ) → k ≡ length (patch_part l p i) → (k ≡ 0 → ⊥) → record { start = i * k; len = k } ≡ place_of (length l) p i
unfolding patch_part place_of
there l p i k e z = ap (λ (m : ℕ). record { start = i * m; len = m }) e ∙ some l p i (test l p i) (long l p i) (λ g. z (e ∙ g))

bounded : (l : List Float) (p i k : ℕ) → k ≡ length (patch_part l p i) → i * k ≤ length l
unfolding patch_part
bounded l p i k e = rw e (fits l p i (test l p i) (λ t. (long l p i t, (inside l p i t).1)))

pub returns-then-len-eq0 : goal.returns-then-len-eq0
returns-then-len-eq0 c = empty c.args.patches.now c.args.patch_size c.args.i _ (ap length c.patch-len.ensures) c.if-len-eq0.true

pub overflow_mul-result : goal.overflow_mul-result
overflow_mul-result c = omega (arith, c.well_formed, bounded c.args.patches.now c.args.patch_size c.args.i _ (ap length c.patch-len.ensures))

pub returns : goal.returns
returns c = there c.args.patches.now c.args.patch_size c.args.i _ (ap length c.patch-len.ensures) c.if-len-eq0.false
