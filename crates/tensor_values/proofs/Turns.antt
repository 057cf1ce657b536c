-- What the loops share: values written one after another over the front of a buffer, and the bytes of one. Assumes nothing.
use mathlib.Core.Path.{◌≡◌, refl, sym, ap, ◌∙◌}
use mathlib.Core.List.{List, [], ◌∷◌}
use Prim.Native.Nat.{ℕ, suc, ◌+◌, ◌/◌, ◌≤◌, ◌<◌}
use native.Mathlib.Nat.{add_assoc}
use native.Mathlib.Omega.{arith}
use native.Mathlib.Numerals.{add-one}
use lib.ListN.{length, get_or, set, take, drop, length-set}
use lib.Seq.{drop-cons}
use Rattle.buffers.specs.Rows.{tab}
use Rattle.buffers.specs.Region.{region, put}
use Rattle.buffers.proofs.Lists.{tab-step-0}
use Rattle.tensor_values.specs.declared.Kind.{Kind}
use Rattle.tensor_values.specs.Values.{size_of, value_of, values_of}

-- the first i values of the bytes b stand over the front of what was s
pub record Begun (k : Kind) (b s t : List ℕ) (i : ℕ) : Type 0 where
  pub read : i ≤ length b / size_of k
  pub long : length t ≡ length s
  pub written : t ≡ put s 0 (tab i (value_of k b))

pub begin : (k : Kind) (b s : List ℕ) → Begun k b s s 0
unfolding put tab
begin k b s = record { read = omega arith; long = refl; written = refl }

module _ {k : Kind} {b s t : List ℕ} {i : ℕ} (g : Begun k b s t i) where
  pub go_on : (v : ℕ) → i < length b / size_of k → v ≡ value_of k b i → Begun k b s (set t i v) (i + 1)
  go_on v h e = record {
    read = omega arith;
    long = simp length-set g.long;
    written = tab-step-0 s t i (value_of k b) v g.written e;
  }

  pub ended : length b / size_of k ≤ i → t ≡ put s 0 (values_of k b)
  unfolding values_of
  ended h = let e : i ≡ length b / size_of k = omega (arith, g.read) in g.written ∙ ap (λ (n : ℕ). put s 0 (tab n (value_of k b))) e

-- ---- the bytes of a value, one by one
first : (b : List ℕ) (at n : ℕ) → at < length b → region b at (suc n) ≡ get_or b at 0 ∷ region b (at + 1) n
first b at n h = ap (take (suc n)) (drop-cons b at 0 h) ∙ ap (λ (j : ℕ). get_or b at 0 ∷ take n (drop j b)) (sym (add-one at))

pub two : (b : List ℕ) (at : ℕ) → at + 2 ≤ length b → region b at 2 ≡ get_or b at 0 ∷ get_or b (at + 1) 0 ∷ []
two b at h = first b at 1 (omega arith) ∙ ap (λ (l : List ℕ). get_or b at 0 ∷ l) (first b (at + 1) 0 (omega arith))

pub four : (b : List ℕ) (at : ℕ) → at + 4 ≤ length b → region b at 4 ≡ get_or b at 0 ∷ get_or b (at + 1) 0 ∷ get_or b (at + 2) 0 ∷ get_or b (at + 3) 0 ∷ []
four b at h =
    first b at 3 (omega arith)
    ∙ ap (λ (l : List ℕ). get_or b at 0 ∷ l) (first b (at + 1) 2 (omega arith) ∙ ap (λ (l : List ℕ). get_or b (at + 1) 0 ∷ l) (ap (λ (j : ℕ). region b j 2) (add_assoc at 1 1) ∙ two b (at + 2) (omega arith) ∙ ap (λ (j : ℕ). get_or b (at + 2) 0 ∷ get_or b j 0 ∷ []) (add_assoc at 2 1)))
