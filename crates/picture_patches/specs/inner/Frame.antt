-- What the loops over rows and patches ask and write. Assumes nothing.
use Rattle.std.specs.Prelude.{◌≡◌, cond, List, ℕ, ◌+◌, ◌-◌, ◌*◌, ◌≤◌, ◌<◌, min, ltb, Float}
use Rattle.picture_limits.specs.declared.View.{View}
use Rattle.picture_patches.specs.declared.places.Place.{Place}
use Rattle.picture_patches.specs.declared.rows.Frame.{Frame}
use Rattle.picture_resize.specs.Resize.{resized_at}
use Rattle.picture_samples.specs.Samples.{value}
use Rattle.picture_patches.specs.Viewed.{view_at}
use Rattle.picture_patches.specs.inner.Places.{most, Placed}

-- the sample at a row, a column and a channel, by a table k: of the picture resized, and of a view of it
abbrev pub mixed : (ℕ → ℕ → ℕ) → Frame → List ℕ → ℕ → ℕ → ℕ → Float
mixed k f rgb y x c = value k c (resized_at rgb f.h f.w f.th f.tw y x c)

abbrev pub viewed : (ℕ → ℕ → ℕ) → Frame → View → List ℕ → ℕ → ℕ → ℕ → Float
viewed k f v rgb y x c = value k c (view_at rgb f.w v y x c)

-- how many of the p columns from column x on are the view's, in row r
unfoldable pub own : View → ℕ → ℕ → ℕ → ℕ
own v p r x = cond (ltb r v.height) (min p (v.width - x)) 0

-- rgb, of length len, is a picture of the frame's sides, and its patches lie inside the target
pub record Framed (f : Frame) (len : ℕ) : Type 0 where
  pub bytes : len ≡ f.h * f.w * 3
  pub tall : 0 < f.h
  pub wide : 0 < f.w
  pub tall-high : f.h ≤ 8192
  pub wide_high : f.w ≤ 8192
  pub target-tall : f.th ≤ most
  pub target-wide : f.tw ≤ most
  pub patch-low : 0 < f.p
  pub patch-high : f.p ≤ 32
  pub grid-tall : f.gh * f.p ≤ f.th
  pub grid-wide : f.gw * f.p ≤ f.tw
  pub grid-tall-high : f.gh ≤ most
  pub grid-wide-high : f.gw ≤ most

-- a view of the picture lies inside it
abbrev pub Inside : Frame → View → Type 0
Inside f v = (v.top + v.height ≤ f.h) × (v.left + v.width ≤ f.w)

-- the frame, and the neighbours of rows and columns are in place
pub record Ready (f : Frame) (len : ℕ) (rows columns : List Place) : Type 0 where
  pub frame : Framed f len
  pub down : Placed f.h f.th rows
  pub across : Placed f.w f.tw columns

-- a strip of m patches of side p, in a picture of 32 rows of 256 pixels, and what it is a view of
abbrev pub strip_frame : ℕ → ℕ → Frame
strip_frame p m = record { h = 32; w = 256; th = p; tw = m * p; p = p; gh = 1; gw = m }

abbrev pub strip_view : ℕ → ℕ → View
strip_view p m = record { top = 0; left = 0; height = p; width = m * p }
