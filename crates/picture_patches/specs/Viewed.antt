-- The patches of a view of a picture, padded right and below with zero bytes, over the front of an output, where they fit and
-- their table is allowed. Assumes nothing.
use Rattle.std.specs.Prelude.{◌&&◌, cond, List, ℕ, ◌+◌, ◌/◌, length, Float}
use Rattle.buffers.specs.Region.{over}
use Rattle.picture_limits.specs.declared.View.{View}
use Rattle.picture_limits.specs.View.{inside, has}
use Rattle.picture_samples.specs.Samples.{channels_allowed, value}
use Rattle.picture_resize.specs.Resize.{pixel}
use Rattle.picture_patches.specs.Patches.{patches}
use Rattle.picture_patches.specs.Resized.{fits}

-- the byte at row y, column x and channel c of a view of rgb, whose rows have w pixels; 0 outside
unfoldable pub view_at : List ℕ → ℕ → View → ℕ → ℕ → ℕ → ℕ
view_at rgb w v y x c = cond (has v y x) (pixel rgb w (v.top + y) (v.left + x) c) 0

-- the patches of th rows of tw of them; f c b is the value of byte b in channel c
abbrev pub view_patches : (ℕ → ℕ → Float) → List ℕ → ℕ → View → ℕ → ℕ → ℕ → List Float
view_patches f rgb w v th tw p = patches p (th / p) (tw / p) (λ y x c. f c (view_at rgb w v y x c))

-- by a table k
unfoldable pub view_over : (ℕ → ℕ → ℕ) → List ℕ → ℕ → ℕ → View → ℕ → ℕ → ℕ → List Float → List Float
view_over k rgb h w v th tw p old =
    cond (channels_allowed (value k) && fits (length rgb) h w th tw p (length old) && inside v h w) (over (view_patches (value k) rgb w v th tw p) old) old
