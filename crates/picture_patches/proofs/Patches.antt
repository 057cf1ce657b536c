-- How long each piece of the patches is, and patches by their samples. Assumes nothing.
use mathlib.Core.Path.{◌≡◌}
use Prim.Native.Nat.{ℕ, ◌+◌, ◌*◌, ◌<◌}
use native.Mathlib.Omega.{arith}
use lib.ListN.{length}
use Rattle.buffers.proofs.Lists.{fit, length-tab, length-rows, rows_ext, tab-ext}
use Rattle.picture_limits.specs.Places.{patch_floats}
use Rattle.picture_patches.specs.Patches.{patch_row, patch_channel, patch_at, patch_line, patches}

module _ {A : Type 0} (p : ℕ) (v : ℕ → ℕ → ℕ → A) where
  pub length-channel : (r x c : ℕ) → length (patch_channel p v r x c) ≡ p * p
  length-channel r x c = length-rows (λ i. patch_row p v (r + i) x c) p (λ i. length-tab p (λ j. v (r + i) (x + j) c)) p

  pub length-patch : (r x : ℕ) → length (patch_at p v r x) ≡ patch_floats p
  length-patch r x = length-rows (λ c. patch_channel p v r x c) (p * p) (λ c. length-channel r x c) 3

  pub length-line : (gw r : ℕ) → length (patch_line p gw v r) ≡ gw * patch_floats p
  length-line gw r = length-rows _ (patch_floats p) (λ b. length-patch _ _) gw

  pub length-patches : (gh gw : ℕ) → length (patches p gh gw v) ≡ gh * (gw * patch_floats p)
  length-patches gh gw = length-rows (λ a. patch_line p gw v (a * p)) (gw * patch_floats p) (λ a. length-line gw (a * p)) gh

-- patches by their samples
pub patches-ext : {A : Type 0} (p gh gw : ℕ) (f g : ℕ → ℕ → ℕ → A) → ((y x c : ℕ) → y < gh * p → x < gw * p → c < 3 → f y x c ≡ g y x c) → patches p gh gw f ≡ patches p gh gw g
patches-ext p gh gw f g h =
    rows_ext gh _ _ (λ a ha. rows_ext gw _ _ (λ b hb. rows_ext 3 _ _ (λ c hc. rows_ext p _ _ (λ i hi. tab-ext p _ _ (λ j hj.
    let y : a * p + i < gh * p = omega (arith, fit p ha) in
    let x : b * p + j < gw * p = omega (arith, fit p hb) in
    h _ _ c y x hc)))))
