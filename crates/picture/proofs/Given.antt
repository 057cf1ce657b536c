-- The patches of bytes, over any table of patterns that is distinct in each channel: every sample is known, and the bytes come back. Assumes nothing.
use mathlib.Core.Path.{◌≡◌, refl, sym, ap, ◌∙◌}
use mathlib.Core.Bool.{true}
use mathlib.Core.List.{List}
use Prim.Native.Nat.{ℕ, zero, suc, ◌+◌, ◌*◌, ◌/◌, ◌%◌, ◌<◌}
use native.Mathlib.Nat.{mul_assoc, div-lt_iff_lt-mul, div-add-mod', mod-lt}
use native.Mathlib.Omega.{arith}
use borrow.Author.Tests.{lt-ltb}
use lib.ListN.{get_or}
use lib.Ieee.{Float, nan, binary32, to_bits}
use Rattle.buffers.proofs.Lists.{all_of, rows_ext, tab-ext}
use Rattle.picture_limits.specs.declared.PictureSettings.{PictureSettings}
use Rattle.picture_samples.specs.Samples.{channels_allowed, value, byte_of, value_of, pattern_of}
use Rattle.picture_limits.specs.Places.{patch_floats, picture}
use Rattle.picture_patches.specs.Patches.{patches}
use Rattle.picture_view.specs.Known.{known, bytes_from}
use Rattle.picture_view.specs.inner.Known.{known_patches}
use Rattle.picture_samples.proofs.Channels.{value-is, allowed-bits, distinct_of}
use Rattle.picture_samples.proofs.Finds.{Distinct, byte-back}
use Rattle.picture_view.proofs.Known.{known-cut}
use Rattle.picture_patches.proofs.Patches.{length-patches, patches-ext}
use Rattle.picture.proofs.Places.{patch-at, sample-at}

-- a table whose patterns are distinct in each channel and floats' own
pub record Table (k : ℕ → ℕ → ℕ) : Type 0 where
  pub apart : (c : ℕ) → c < 3 → Distinct k c
  pub own : (c b : ℕ) → to_bits binary32 (value k c b) ≡ k c b

module _ (k : ℕ → ℕ → ℕ) (K : Table k) (p gh gw : ℕ) (v : ℕ → ℕ → ℕ → ℕ) (below : (y x c : ℕ) → v y x c < 256) (hp : 0 < p) where
  abbrev given : List Float
  given = patches p gh gw (λ y x c. value k c (v y x c))

  -- the byte of the sample of a byte
  back : (l : Float) (y x c : ℕ) → c < 3 → l ≡ value k c (v y x c) → byte_of k c (to_bits binary32 l) ≡ v y x c
  back l y x c hc e = ap (λ (n : ℕ). byte_of k c n) (ap (to_bits binary32) e ∙ K.own c (v y x c)) ∙ byte-back k c (v y x c) (K.apart c hc) (below y x c)

  by-patch : known_patches k p (gh * gw) given ≡ true
  unfolding known_patches
  by-patch =
      all_of (gh * gw) _ (λ q hq. all_of 3 _ (λ c hc. all_of (p * p) _ (λ i hi.
      let w : 0 < gw = some gw (λ e. omega (arith, ap (λ (z : ℕ). gh * z) e)) in
      let e : q * patch_floats p + c * (p * p) + i ≡ (q / gw * gw + q % gw) * patch_floats p + c * (p * p) + (i / p * p + i % p) = rw (div-add-mod' q gw, div-add-mod' i p) in
      let t = ap (λ (n : ℕ). get_or given n nan) e
      ∙ patch-at p gh gw (λ y x c. value k c (v y x c)) nan (q / gw) (q % gw) c (i / p) (i % p) ((div-lt_iff_lt-mul w).1 hq) (mod-lt q w) hc ((div-lt_iff_lt-mul hp).1 hi) (mod-lt i hp) in
      let y = q / gw * p + i / p in
      let x = q % gw * p + i % p in
      lt-ltb (byte_of k c (to_bits binary32 (get_or given (q * patch_floats p + c * (p * p) + i) nan))) 256 (rw (back _ y x c hc t) (below y x c)))))
    where
      some : (n : ℕ) → (n ≡ 0 → ⊥) → 0 < n
      some zero f = absurd (f refl)
      some (suc n) f = omega arith

  pub known_of : known k p given ≡ true
  known_of = known-cut k p (gh * gw) given (length-patches p (λ y x c. value k c (v y x c)) gh gw ∙ sym (mul_assoc gh gw (patch_floats p))) ∙ by-patch

  pub bytes-of : bytes_from k p given gh gw ≡ picture (gh * p) (gw * p) v
  bytes-of =
      rows_ext (gh * p) _ _ (λ y hy. rows_ext (gw * p) _ _ (λ x hx. tab-ext 3 _ _ (λ c hc.
      back _ y x c hc (sample-at p gh gw (λ y x c. value k c (v y x c)) nan y x c hp hy hx hc))))

-- the table of allowed means and deviations is such a table
pub samples : (s : PictureSettings) → channels_allowed (value_of s) ≡ true → Table (pattern_of s)
samples s a = record {
  apart = distinct_of (pattern_of s) (allowed-bits s.mean s.deviation ∙ a);
  own = λ c b. ap (to_bits binary32) (value-is s.mean s.deviation c b);
}

-- its patches are those of the samples
pub given_is : (s : PictureSettings) (p gh gw : ℕ) (v : ℕ → ℕ → ℕ → ℕ) → patches p gh gw (λ y x c. value_of s c (v y x c)) ≡ patches p gh gw (λ y x c. value (pattern_of s) c (v y x c))
given_is s p gh gw v = patches-ext p gh gw _ _ (λ y x c _ _ hc. sym (value-is s.mean s.deviation c (v y x c)))
