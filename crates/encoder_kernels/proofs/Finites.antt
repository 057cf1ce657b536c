-- Laws of `all_finite`. Assumes nothing.
use mathlib.Core.Bool.{Bool, true, false, ◌&&◌}
use mathlib.Core.Path.{◌≡◌, refl, ap, ◌∙◌}
use mathlib.Core.List.{List, [], ◌∷◌, ◌++◌}
use Prim.Native.Nat.{ℕ, zero, suc, ◌<◌}
use lib.ListN.{length, get_or, take}
use lib.Seq.{take-suc}
use lib.Ieee.{Float, nan}
use lib.Ieee.Scale.{finite}
use Rattle.buffers.specs.Rows.{tab, rows, all}
use Rattle.buffers.proofs.Lists.{and-true}
use Rattle.encoder_kernels.specs.Kernels.{all_finite}

and_assoc : (a b c : Bool) → (a && b) && c ≡ a && (b && c)
and_assoc true b c = refl
and_assoc false b c = refl

pub all-finite-append : (l m : List Float) → all_finite (l ++ m) ≡ all_finite l && all_finite m
unfolding all_finite
all-finite-append [] m = refl
all-finite-append (x ∷ l) m = rw (all-finite-append l m, and_assoc)

pub all-finite-take : (l : List Float) (i : ℕ) → i < length l → all_finite (take (suc i) l) ≡ all_finite (take i l) && finite (get_or l i nan)
unfolding all_finite
all-finite-take l i h = rw (take-suc l i nan h, all-finite-append, and-true)

pub all-finite-tab : (n : ℕ) (f : ℕ → Float) → all_finite (tab n f) ≡ all n (λ i. finite (f i))
unfolding tab all all_finite
all-finite-tab zero f = refl
all-finite-tab (suc n) f = all-finite-append (tab n f) (f n ∷ []) ∙ rw (all-finite-tab n f, and-true (finite (f n)))

pub all-finite-rows : (n : ℕ) (f : ℕ → List Float) → all_finite (rows n f) ≡ all n (λ i. all_finite (f i))
unfolding rows all all_finite
all-finite-rows zero f = refl
all-finite-rows (suc n) f = all-finite-append (rows n f) (f n) ∙ ap (λ b. b && all_finite (f n)) (all-finite-rows n f)
