-- Known samples: by equal tables the same; each has a byte; and patch by patch, channel by channel they are the same. Assumes nothing.
use mathlib.Core.Path.{◌≡◌, ap, ◌∙◌, sym}
use mathlib.Core.Bool.{Bool, true}
use mathlib.Core.List.{List}
use Prim.Native.Nat.{ℕ, ◌+◌, ◌*◌, ◌/◌, ◌%◌, ◌<◌}
use native.Mathlib.Nat.{add-mul, mul_assoc, add_assoc, mod-lt}
use native.Mathlib.Omega.{arith}
use borrow.Author.Tests.{ltb-true}
use lib.Dec.{ltb}
use lib.ListN.{length, get_or}
use lib.Ieee.{Float, nan, binary32, to_bits}
use Rattle.buffers.specs.Rows.{all}
use Rattle.buffers.proofs.Lists.{all-at, all-ext, all-mul}
use Rattle.picture_samples.specs.Samples.{byte_of}
use Rattle.picture_samples.proofs.Finds.{Same, byte-same}
use Rattle.picture_limits.specs.Places.{patch_floats}
use Rattle.picture_limits.proofs.Places.{at_in, quotient, remainder}
use Rattle.picture_view.specs.Known.{known}
use Rattle.picture_view.specs.inner.Known.{known_patches}

-- equal tables know the same
pub known_same : (k m : ℕ → ℕ → ℕ) → Same k m → (p : ℕ) (l : List Float) → known k p l ≡ known m p l
unfolding known
known_same k m s p l =
    all-ext (length l) _ _ (λ i _. ap (λ (x : ℕ). ltb x 256) (byte-same k m s (i / (p * p) % 3) (to_bits binary32 (get_or l i nan)) (mod-lt (i / (p * p)) (omega arith))))

-- the channel of place i of channel c of patch q
pub channel-at : (p q c i : ℕ) → c < 3 → i < p * p → (q * patch_floats p + c * (p * p) + i) / (p * p) % 3 ≡ c
channel-at p q c i hc hi =
    let e : q * patch_floats p + c * (p * p) + i ≡ (q * 3 + c) * (p * p) + i = omega (arith, add-mul (q * 3) c (p * p), mul_assoc q 3 (p * p)) in
    ap (λ (n : ℕ). n / (p * p) % 3) e ∙ ap (λ (n : ℕ). n % 3) (quotient (p * p) (omega arith) (q * 3 + c) i hi) ∙ remainder 3 (omega arith) q c hc

-- a sample of known patches has a byte
pub known_at : (k : ℕ → ℕ → ℕ) (p n : ℕ) (l : List Float) → length l ≡ n * patch_floats p → known k p l ≡ true → (q c i : ℕ) → q < n → c < 3 → i < p * p
    → byte_of k c (to_bits binary32 (get_or l (q * patch_floats p + c * (p * p) + i) nan)) < 256
unfolding known
known_at k p n l len e q c i a b d =
    let at = q * patch_floats p + c * (p * p) + i in
    let t = ltb-true (byte_of k (at / (p * p) % 3) (to_bits binary32 (get_or l at nan))) 256 (all-at (length l) _ e at (omega (arith, len, at_in p n q c i a b d))) in
    rw (channel-at p q c i b d) at t

-- what the loops test
pub known-cut : (k : ℕ → ℕ → ℕ) (p n : ℕ) (l : List Float) → length l ≡ n * patch_floats p → known k p l ≡ known_patches k p n l
unfolding known known_patches
known-cut k p n l e =
    ap (λ (m : ℕ). all m f) e
    ∙ all-mul n (patch_floats p) f
    ∙ all-ext n _ _ (λ q _. all-mul 3 (p * p) (λ j. f (q * patch_floats p + j)) ∙ all-ext 3 _ _ (λ c hc. all-ext (p * p) _ _ (λ i hi. same q c i hc hi)))
  where
    f : ℕ → Bool
    f i = ltb (byte_of k (i / (p * p) % 3) (to_bits binary32 (get_or l i nan))) 256

    same : (q c i : ℕ) → c < 3 → i < p * p → f (q * patch_floats p + (c * (p * p) + i)) ≡ ltb (byte_of k c (to_bits binary32 (get_or l (q * patch_floats p + c * (p * p) + i) nan))) 256
    same q c i hc hi =
        let at = q * patch_floats p + c * (p * p) + i in
        ap f (sym (add_assoc (q * patch_floats p) (c * (p * p)) i)) ∙ ap (λ (x : ℕ). ltb (byte_of k x (to_bits binary32 (get_or l at nan))) 256) (channel-at p q c i hc hi)
