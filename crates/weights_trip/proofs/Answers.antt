-- Of tensors that are all at their places nothing is refused. Assumes nothing.
use mathlib.Core.Path.{◌≡◌, refl, ◌∙◌}
use mathlib.Core.Bool.{Bool, false}
use mathlib.Core.List.{List}
use Prim.Native.Nat.{ℕ, ◌+◌, ◌-◌, ◌*◌, ◌≤◌, ◌<◌}
use native.Mathlib.Nat.{add-sub_cancel_left, mul-one}
use native.Mathlib.Omega.{arith}
use lib.ListN.{length}
use borrow.Author.Tests.{le-leb, le-ltb, eq-eqb}
use Rattle.buffers.proofs.Lists.{first-none}
use Rattle.json_members.specs.Names.{Entry}
use Rattle.json_lists.specs.Lists.{product}
use Rattle.picture_limits.specs.declared.Refusal.TheVariants.{Header, Tensor, Offsets}
use Rattle.encoder_settings.specs.declared.EncoderSettings.{EncoderSettings}
use Rattle.encoder_settings.specs.Settings.{weight_floats}
use Rattle.tensor_values.specs.declared.Kind.{Kind}
use Rattle.tensor_values.specs.Values.{size_of}
use Rattle.tensor_header.specs.Tensors.{tensors, entry_at, count_at}
use Rattle.weights.specs.File.{Weighed}
use Rattle.std.specs.Prelude.{Ok}
use Rattle.weights.specs.File.{Found, found_in, is_damaged, is_other, is_misplaced, firstly, at, judged}
use Rattle.weights_trip.proofs.Tiles.{kind-of}
use Rattle.weights_trip.proofs.Found.{Placed}

-- ---- of one tensor

module _ {k : Kind} {bytes : ℕ} {f : Found} {n : ℕ} (p : Placed k bytes f n) where
  undamaged : is_damaged f ≡ false
  undamaged = rw p.is refl

  no_other : is_other n f ≡ false
  unfolding product
  no_other = rw (p.is, kind-of k, mul-one n, eq-eqb n n refl) refl

  well-placed : is_misplaced bytes n f ≡ false
  well-placed =
      let b = p.begin in
      let m = n * size_of k in
      rw (p.is, kind-of k, le-leb b (b + m) (omega arith), le-leb (b + m) bytes p.inside, eq-eqb (b + m - b) m (add-sub_cancel_left b m)) refl

-- ---- of all

passed : (n : ℕ) (f : ℕ → Bool) (refused : ℕ → Weighed) (rest : Weighed) → ((i : ℕ) → i < n → f i ≡ false) → firstly n f refused rest ≡ rest
passed n f refused rest h = rw (first-none n f h, le-ltb n n (omega arith)) refl

pub unrefused :
    (s : EncoderSettings) (k : Kind) (h : List ℕ) (es : List Entry) (bytes room : ℕ) →
    ((i : ℕ) → i < length (tensors s) → Placed k bytes (found_in (entry_at (tensors s) es i)) (count_at (tensors s) i)) →
    weight_floats s ≤ room → judged s h es bytes room ≡ Ok (weight_floats s)
unfolding judged
unrefused s k h es bytes room p w =
    let n = length (tensors s) in
    let entry = entry_at (tensors s) es in
    let count = count_at (tensors s) in
    passed n (λ i. is_damaged (found_in (entry i))) (at Header h entry) _ (λ i g. undamaged (p i g))
    ∙ passed n (λ i. is_other (count i) (found_in (entry i))) (at Tensor h entry) _ (λ i g. no_other (p i g))
    ∙ passed n (λ i. is_misplaced bytes (count i) (found_in (entry i))) (at Offsets h entry) _ (λ i g. well-placed (p i g))
    ∙ rw (le-ltb room (weight_floats s) w) refl
