-- A full table is finite exactly when the tables of rows and of columns for which it stands are; and a call by these answers as the
-- call by the full tables does. Assumes nothing.
use mathlib.Core.Bool.{Bool, true, false, ◌&&◌}
use mathlib.Core.Path.{◌≡◌, refl, sym, ap, ◌∙◌}
use mathlib.Core.List.{List, [], ◌∷◌, ◌++◌}
use Prim.Native.Nat.{ℕ, zero, suc, ◌*◌, ◌/◌, ◌<◌}
use native.Mathlib.Omega.{arith}
use borrow.Author.Tests.{eqb-true}
use lib.Dec.{eqb}
use lib.ListN.{length, take}
use lib.Seq.{take_all}
use lib.Ieee.{Float}
use Rattle.buffers.specs.Rows.{rows, all}
use Rattle.buffers.specs.Region.{region}
use Rattle.buffers.proofs.Lists.{equal-rows, all-ext}
use Rattle.buffers.proofs.Rooms.{and_parts}
use Rattle.encoder_kernels.specs.Kernels.{all_finite}
use Rattle.encoder_kernels.proofs.Finites.{all-finite-append, all-finite-rows}
use Rattle.encoder_steps.specs.Run.{stages_finite}
use Rattle.encoder_rotation.specs.Axes.{twice, axis_row, expand}
use Rattle.encoder_blocks.specs.declared.Sizes.{Sizes}

both : (a b : Bool) → (a && b) && (a && b) ≡ (a && b)
both true true = refl
both true false = refl
both false b = refl

twice-finite : (r c : List Float) → all_finite (twice r c) ≡ (all_finite r && all_finite c)
twice-finite r c = all-finite-append (r ++ c) (r ++ c) ∙ rw (all-finite-append r c) (both (all_finite r) (all_finite c))

-- one test beside every one of some others
beside : (n : ℕ) (a : Bool) (g : ℕ → Bool) → all (suc n) (λ w. a && g w) ≡ (a && all (suc n) g)
unfolding all
beside zero a g = refl_of a (g 0)
  where
    refl_of : (a b : Bool) → (true && (a && b)) ≡ (a && (true && b))
    refl_of true b = refl
    refl_of false b = refl
beside (suc n) a g = ap (λ (b : Bool). b && (a && g (suc n))) (beside n a g) ∙ part a (all (suc n) g) (g (suc n))
  where
    part : (a b c : Bool) → ((a && b) && (a && c)) ≡ (a && (b && c))
    part true b c = refl
    part false b c = refl

-- the same the other way round
besides : (n : ℕ) (f : ℕ → Bool) (b : Bool) → all (suc n) (λ h. f h && b) ≡ (all (suc n) f && b)
unfolding all
besides zero f b = refl_of (f 0) b
  where
    refl_of : (a b : Bool) → (true && (a && b)) ≡ ((true && a) && b)
    refl_of a b = refl
besides (suc n) f b = ap (λ (c : Bool). c && (f (suc n) && b)) (besides n f b) ∙ part (all (suc n) f) (f (suc n)) b
  where
    part : (a c b : Bool) → ((a && b) && (c && b)) ≡ ((a && c) && b)
    part true true true = refl
    part true true false = refl
    part true false true = refl
    part true false false = refl
    part false c b = refl

pairs : (n : ℕ) (f g : ℕ → Bool) → all n (λ h. all n (λ w. f h && g w)) ≡ (all n f && all n g)
unfolding all
pairs zero f g = refl
pairs (suc n) f g = all-ext (suc n) _ _ (λ h l. beside n (f h) g) ∙ besides n f (all (suc n) g)

-- a table by the q values of each place
by-places : (side q : ℕ) (r : List Float) → length r ≡ side * q → all side (λ h. all_finite (region r (h * q) q)) ≡ all_finite r
by-places side q r e =
    sym (all-finite-rows side (λ h. region r (h * q) q)) ∙ ap all_finite (equal-rows side q r ∙ take_all (side * q) r (omega (arith, e)))

pub expand-finite : (side q : ℕ) (r c : List Float) → length r ≡ side * q → length c ≡ side * q → all_finite (expand side q r c) ≡ (all_finite r && all_finite c)
unfolding expand
expand-finite side q r c d e =
    let F : ℕ → Bool = λ h. all_finite (region r (h * q) q) in
    let G : ℕ → Bool = λ w. all_finite (region c (w * q) q) in
    all-finite-rows side (λ h. rows side (axis_row q r c h))
    ∙ all-ext side _ _ (λ h l. all-finite-rows side (axis_row q r c h) ∙ all-ext side _ _ (λ w m. twice-finite (region r (h * q) q) (region c (w * q) q)))
    ∙ pairs side F G
    ∙ rw (by-places side q r d, by-places side q c e)

-- ---- the inputs are examined by the tables that are lent

pub inputs-axes : (z : Sizes) (x w row_cos row_sin column_cos column_sin : List Float)
    → (let n = z.side * (z.head_dim / 4) in (eqb (length row_cos) n && eqb (length row_sin) n) && (eqb (length column_cos) n && eqb (length column_sin) n) ≡ true)
    → ((all_finite x && all_finite w) && (all_finite row_cos && all_finite column_cos)) && (all_finite row_sin && all_finite column_sin)
    ≡ stages_finite true (x ∷ w ∷ expand z.side (z.head_dim / 4) row_cos column_cos ∷ expand z.side (z.head_dim / 4) row_sin column_sin ∷ [])
unfolding stages_finite
inputs-axes z x w row_cos row_sin column_cos column_sin l =
    let n = z.side * (z.head_dim / 4) in
    let b = and_parts (eqb (length row_cos) n && eqb (length row_sin) n) (eqb (length column_cos) n && eqb (length column_sin) n) l in
    let r = and_parts (eqb (length row_cos) n) (eqb (length row_sin) n) b.0 in
    let c = and_parts (eqb (length column_cos) n) (eqb (length column_sin) n) b.1 in
    rw (
      expand-finite z.side (z.head_dim / 4) row_cos column_cos (eqb-true (length row_cos) n r.0) (eqb-true (length column_cos) n c.0),
      expand-finite z.side (z.head_dim / 4) row_sin column_sin (eqb-true (length row_sin) n r.1) (eqb-true (length column_sin) n c.1),
    )
    refl
