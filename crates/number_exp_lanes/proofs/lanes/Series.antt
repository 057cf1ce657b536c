-- What sixteen lanes hold, by those before them. Assumes nothing.
use mathlib.Core.Path.{◌≡◌, sym, ap, ap₂, ◌∙◌}
use mathlib.Core.Bool.{true}
use mathlib.Core.List.{List}
use Prim.Native.Nat.{ℕ, ◌<◌}
use lib.ListN.{get_or}
use lib.Ieee.{Float, nan, binary64, mul}
use Rattle.buffers.specs.Rows.{tab, all}
use Rattle.buffers.proofs.Lists.{get_or-tab, tab-ext, all-at, all_of}
use Rattle.number_exp_tanh.specs.Exp.{series, two_to, k_of, r_with, r_of, F, E}
use Rattle.number_exp_lanes.specs.inner.Near.{inside, normal}
use Rattle.number_floats.specs.Constants.{one64}
use Rattle.number_floats.specs.Narrow.{narrow}
use Rattle.number_exp_tanh.proofs.exp.Range.{between-says}
use Rattle.number_exp_lanes.proofs.straight.Insides.{inside-between}
use Rattle.number_exp_lanes.proofs.straight.Normals.{normal-inside}

-- the lanes of the series, by those of r and of k
pub lanes : (x k r p : List Float) → k ≡ tab 16 (λ l. k_of (get_or x l nan)) → r ≡ tab 16 (λ l. r_with (get_or x l nan) (get_or k l nan))
    → p ≡ tab 16 (λ l. series (get_or r l nan) 10 one64) → p ≡ tab 16 (λ l. series (r_of (get_or x l nan)) 10 one64)
lanes x k r p ek er ep =
    ep ∙ tab-ext 16 (λ l. series (get_or r l nan) 10 one64) (λ l. series (r_of (get_or x l nan)) 10 one64)
    (λ l h. ap (λ (v : Float). series v 10 one64)
    (ap (λ (t : List Float). get_or t l nan) er ∙ get_or-tab 16 l (λ i. r_with (get_or x i nan) (get_or k i nan)) nan h
    ∙ ap (r_with (get_or x l nan)) (ap (λ (t : List Float). get_or t l nan) ek ∙ get_or-tab 16 l (λ i. k_of (get_or x i nan)) nan h)))

-- those before they are narrowed, by the lanes of k and of the series
module _ (x k p v : List Float) (ek : k ≡ tab 16 (λ l. k_of (get_or x l nan))) (ep : p ≡ tab 16 (λ l. series (r_of (get_or x l nan)) 10 one64)) (ev : v ≡ tab 16 (λ l. mul binary64 (get_or p l nan) (two_to (get_or k l nan))))
    (h : all 16 (λ l. inside (get_or x l nan)) ≡ true) where
  at : (s : List Float) (f : ℕ → Float) → s ≡ tab 16 f → (l : ℕ) → l < 16 → get_or s l nan ≡ f l
  at s f e l i = ap (λ (t : List Float). get_or t l nan) e ∙ get_or-tab 16 l f nan i

  lane : (l : ℕ) → l < 16 → get_or v l nan ≡ F (get_or x l nan)
  lane l i =
      at v (λ j. mul binary64 (get_or p j nan) (two_to (get_or k j nan))) ev l i
      ∙ ap₂ (mul binary64) (at p (λ j. series (r_of (get_or x j nan)) 10 one64) ep l i) (ap two_to (at k (λ j. k_of (get_or x j nan)) ek l i))

  passed : (l : ℕ) → l < 16 → inside (get_or x l nan) ≡ true
  passed l i = all-at 16 (λ j. inside (get_or x j nan)) h l i

  pub all-normal : all 16 (λ l. normal (get_or v l nan)) ≡ true
  all-normal = all_of 16 (λ l. normal (get_or v l nan)) (λ l i. ap normal (lane l i) ∙ normal-inside (get_or x l nan) (passed l i))

  pub ended : (r : List Float) → r ≡ tab 16 (λ l. narrow (get_or v l nan)) → r ≡ tab 16 (λ l. E (get_or x l nan))
  ended r er =
      er ∙ tab-ext 16 (λ l. narrow (get_or v l nan)) (λ l. E (get_or x l nan))
      (λ l i. ap narrow (lane l i) ∙ sym (between-says (get_or x l nan) (inside-between (get_or x l nan) (passed l i))).1)
