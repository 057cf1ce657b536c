-- The patches of a strip are those of the resized picture at its place. Assumes nothing.
use mathlib.Core.Path.{◌≡◌, refl, ap, ◌∙◌}
use mathlib.Core.List.{List}
use Prim.Native.Nat.{ℕ, ◌+◌, ◌*◌, ◌≤◌, ◌<◌}
use native.Mathlib.Nat.{add-mul}
use native.Mathlib.Omega.{arith}
use borrow.Author.Tests.{lt-ltb}
use lib.Dec.{lit<, lit≤}
use lib.ListN.{get_or}
use Rattle.buffers.specs.Rows.{rows}
use Rattle.buffers.proofs.Lists.{fit, rows_ext, tab-ext}
use Rattle.picture_samples.specs.Samples.{value}
use Rattle.picture_resize.specs.Resize.{resized_at}
use Rattle.picture_patches.specs.declared.rows.Frame.{Frame}
use Rattle.picture_patches.specs.Patches.{patch_at, patch_line}
use Rattle.picture_patches.specs.Viewed.{view_at}
use Rattle.picture_patches.specs.inner.Frame.{Framed, strip_frame, strip_view, viewed, mixed}
use Rattle.picture_patches.specs.inner.Strip.{span, Banded}

pub strip-framed : (p m : ℕ) → 0 < p → p ≤ 32 → m * p ≤ 256 → m ≤ 2048 → Framed (strip_frame p m) (32 * span)
strip-framed p m l h n k =
    record {
      bytes = refl;
      tall = lit< tt;
      wide = lit< tt;
      tall-high = lit≤ tt;
      wide_high = lit≤ tt;
      target-tall = omega arith;
      target-wide = omega arith;
      patch-low = l;
      patch-high = h;
      grid-tall = omega arith;
      grid-wide = omega arith;
      grid-tall-high = lit≤ tt;
      grid-wide-high = k;
    }

module _ (k : ℕ → ℕ → ℕ) (rgb : List ℕ) (f : Frame) (r b m : ℕ) (band : List ℕ) (h : Banded rgb f r (b * f.p) (m * f.p) f.p band) where
  abbrev p : ℕ
  p = f.p

  -- the byte at row i and column x of the strip
  byte_at : (i x c : ℕ) → i < p → x < m * p → c < 3 → view_at band 256 (strip_view p m) (0 + i) x c ≡ resized_at rgb f.h f.w f.th f.tw (r + i) (b * p + x) c
  unfolding view_at
  byte_at i x c I X C =
      let e : ((0 + (0 + i)) * 256 + (0 + x)) * 3 + c ≡ i * span + (x * 3 + c) = omega arith in
      rw (lt-ltb (0 + i) p (omega arith), lt-ltb x (m * p) X) (ap (λ (n : ℕ). get_or band n 0) e ∙ h.row i I x c X C)

  pub strip-line : patch_line p m (viewed k (strip_frame p m) (strip_view p m) band) 0 ≡ rows m (λ e. patch_at p (mixed k f rgb) r ((b + e) * p))
  strip-line =
      rows_ext m _ _ (λ e E. rows_ext 3 _ _ (λ c C. rows_ext p _ _ (λ i I. tab-ext p _ _ (λ j J.
      let x : e * p + j < m * p = omega (arith, fit p E) in
      let q : b * p + (e * p + j) ≡ (b + e) * p + j = omega (arith, add-mul b e p) in
      ap (value k c) (byte_at i (e * p + j) c I x C ∙ ap (λ (n : ℕ). resized_at rgb f.h f.w f.th f.tw (r + i) n c) q)))))
