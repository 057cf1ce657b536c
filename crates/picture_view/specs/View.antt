-- Patches back to a view of a picture: its rows, written at their places among the picture's bytes. Assumes nothing.
use Rattle.std.specs.Prelude.{Bool, ◌&&◌, cond, List, ℕ, ◌+◌, ◌*◌, leb, eqb, length, get_or, Float}
use Rattle.std.specs.Float.{nan, binary32}
use Rattle.std.specs.Float.Ieee.{to_bits}
use Rattle.buffers.specs.Rows.{tab, rows}
use Rattle.buffers.specs.Region.{put_rows}
use Rattle.picture_limits.specs.declared.View.{View}
use Rattle.picture_limits.specs.View.{inside}
use Rattle.picture_limits.specs.Settings.{within, sided}
use Rattle.picture_limits.specs.Places.{patch_floats, sample_place}
use Rattle.picture_samples.specs.Samples.{channels_allowed, value, byte_of}
use Rattle.picture_view.specs.Known.{known}

-- by a table k, of the samples l of patches of side p, gw of them side by side: the bytes of row y of the view
abbrev pub view_row : (ℕ → ℕ → ℕ) → ℕ → ℕ → List Float → View → ℕ → List ℕ
view_row k p gw l v y = rows v.width (λ x. tab 3 (λ c. byte_of k c (to_bits binary32 (get_or l (sample_place p gw y x c) nan))))

-- where they lie in a picture whose rows have w pixels
abbrev pub view_place : ℕ → View → ℕ → ℕ
view_place w v y = ((v.top + y) * w + v.left) * 3

-- patch size, grid and sides lie in the paper's ranges; len floats are the patches, which cover the view; the view lies inside
-- the picture, and the picture inside room
unfoldable pub view_fits : ℕ → ℕ → ℕ → ℕ → View → ℕ → ℕ → ℕ → Bool
view_fits len p gh gw v h w room =
    sided h w && (within 1 32 p && leb gh 2048 && leb gw 2048 && (inside v h w && (eqb len (gh * gw * patch_floats p) && leb v.height (gh * p) && leb v.width (gw * p) && leb (h * w * 3) room)))

-- whether the view is written: all of it, or nothing
unfoldable pub view_back : (ℕ → ℕ → ℕ) → ℕ → ℕ → ℕ → List Float → View → ℕ → ℕ → ℕ → Bool
view_back k p gh gw l v h w room = channels_allowed (value k) && view_fits (length l) p gh gw v h w room && known k p l

abbrev pub view_out : (ℕ → ℕ → ℕ) → ℕ → ℕ → ℕ → List Float → View → ℕ → ℕ → List ℕ → List ℕ
view_out k p gh gw l v h w old = cond (view_back k p gh gw l v h w (length old)) (put_rows old v.height (view_place w v) (view_row k p gw l v)) old
