-- A whole picture is restored as a view of itself. Assumes nothing.
use mathlib.Core.Path.{◌≡◌, ap, ◌∙◌}
use mathlib.Core.Bool.{true, false}
use mathlib.Core.List.{List}
use Prim.Native.Nat.{ℕ, ◌*◌, ◌≤◌}
use native.Mathlib.Nat.{mul_assoc, le_refl}
use native.Mathlib.Omega.{arith}
use borrow.Author.Tests.{le-leb, eq-eqb}
use lib.ListN.{length, get_or}
use lib.Ieee.{Float, nan, binary32, to_bits}
use Rattle.buffers.specs.Region.{put, over, put_rows}
use Rattle.buffers.proofs.Lists.{length-tab, length-rows, rows_ext, tab-ext}
use Rattle.buffers.proofs.Regions.{put-over}
use Rattle.buffers.proofs.Puts.{puts-joined}
use Rattle.picture_limits.specs.declared.PictureSettings.{PictureSettings}
use Rattle.picture_limits.specs.declared.View.{View}
use Rattle.picture_limits.specs.Places.{sample_place}
use Rattle.picture_limits.proofs.Places.{times, length-picture}
use Rattle.picture_limits.proofs.Shapes.{Accepted}
use Rattle.picture_limits.proofs.Views.{inside-where}
use Rattle.picture_samples.specs.Samples.{channels_allowed, value, entry, pattern_of}
use Rattle.picture_samples.proofs.Finds.{Same, byte-same}
use Rattle.picture_view.specs.Known.{known, bytes_from}
use Rattle.picture_view.specs.View.{view_row, view_place, view_fits, view_back, view_out}
use Rattle.picture_view.proofs.Known.{known_same}
use Rattle.picture_view.proofs.Views.{place_at}

-- all of a picture of h rows and w columns
abbrev pub whole : ℕ → ℕ → View
whole h w = record { top = 0; left = 0; height = h; width = w }

module _ (s : PictureSettings) (t : List ℕ) (same : Same (entry t) (pattern_of s)) (ok : channels_allowed (value (entry t)) ≡ true) (l : List Float) (gh gw n : ℕ) (k : Accepted s gh gw (length l) n) (old : List ℕ)
    (room : gh * s.patch_size * (gw * s.patch_size) * 3 ≤ length old) where
  abbrev p : ℕ
  p = s.patch_size

  abbrev u : View
  u = whole (gh * p) (gw * p)

  -- it is written exactly where every sample is known
  pub back_is : view_back (entry t) p gh gw l u (gh * p) (gw * p) (length old) ≡ known (pattern_of s) p l
  unfolding view_back view_fits
  back_is =
      let g = k.grids in
      let o = g.settings in
      let a : 1 ≤ gh * p = omega (arith, times 1 1 gh p g.tall.low o.patch-low) in
      let b : 1 ≤ gw * p = omega (arith, times 1 1 gw p g.wide.low o.patch-low) in
      let c : gh * p ≤ 8192 = omega (arith, g.tall.high, o.image-high) in
      let d : gw * p ≤ 8192 = omega (arith, g.wide.high, o.image-high) in
      let x : gh ≤ 2048 = omega (arith, g.tall.few, o.image-high) in
      let y : gw ≤ 2048 = omega (arith, g.wide.few, o.image-high) in
      rw (ok, le-leb _ _ a, le-leb _ _ c, le-leb _ _ b, le-leb _ _ d, le-leb _ _ o.patch-low, le-leb _ _ o.patch-high, le-leb _ _ x, le-leb _ _ y, inside-where u (gh * p) (gw * p) (omega arith) (omega arith), eq-eqb _ _ k.samples, le-leb _ _ (le_refl (gh * p)), le-leb _ _ (le_refl (gw * p)), le-leb _ _ room)
      (known_same (entry t) (pattern_of s) same p l)

  -- and what is written are its bytes
  rows_are : put_rows old (gh * p) (view_place (gw * p) u) (view_row (entry t) p gw l u) ≡ over (bytes_from (pattern_of s) p l gh gw) old
  rows_are =
      let w = gw * p in
      let ys = bytes_from (pattern_of s) p l gh gw in
      let m : length ys ≤ length old = rw (length-picture (gh * p) w _) (omega (arith, room, mul_assoc (gh * p) w 3)) in
      puts-joined old (view_place w u) (view_row (entry t) p gw l u) (w * 3) 0 (gh * p) (λ y. length-rows _ 3 (λ x. length-tab 3 _) w) (λ y _. omega (arith, place_at w u y))
      ∙ ap (put old 0) (rows_ext (gh * p) _ _ (λ y _. rows_ext w _ _ (λ x _. tab-ext 3 _ _ (λ c hc. byte-same (entry t) (pattern_of s) same c (to_bits binary32 (get_or l (sample_place p gw y x c) nan)) hc))))
      ∙ put-over old ys m

  pub out-known : known (pattern_of s) p l ≡ true → view_out (entry t) p gh gw l u (gh * p) (gw * p) old ≡ over (bytes_from (pattern_of s) p l gh gw) old
  out-known e = rw (back_is ∙ e) rows_are

  pub out-unknown : known (pattern_of s) p l ≡ false → view_out (entry t) p gh gw l u (gh * p) (gw * p) old ≡ old
  out-unknown e = rw (back_is ∙ e)
