-- The worked examples of the paper that are to be proved, in one table, each computed from the definitions. Assumes nothing.
use mathlib.Core.Path.{◌≡◌, refl}
use mathlib.Core.List.{List, [], ◌∷◌}
use Prim.Native.Nat.{ℕ, ◌+◌, ◌*◌}
use lib.ListN.{get_or}
use lib.Count.{count_leading_zeros}
use lib.Ieee.{Float, nan, add, sub, mul, div, lt, le, ne, of_int, of_bits, to_bits, to_unsigned, neg, round, size}
use Rattle.buffers.specs.Rows.{tab, rows}
use Rattle.number_bf16_half_root.specs.Bf16.{bf16}
use Rattle.number_bf16_half_root.specs.Half.{subnormal, half_size, half}
use Rattle.number_bf16_half_root.specs.Root.{whole_root, near_root, root_of_number, root}
use Rattle.number_floats.specs.Narrow.{narrow}
use Rattle.number_exp_tanh.specs.Exp.{series, E, exp_bits}
use Rattle.number_exp_tanh.specs.Tanh.{near_zero, T, tanh_bits}
use Rattle.picture_limits.specs.declared.PictureSettings.{PictureSettings}
use Rattle.picture_limits.specs.Settings.{allowed}
use Rattle.picture_samples.specs.Samples.{own_means, own_deviations}
use Rattle.picture_samples.proofs.Table.{own-allowed}
use Rattle.picture_limits.specs.Sides.{kept, side, th_of, tw_of}
use Rattle.picture_resize.specs.Resize.{whole, near, blend, to_byte, mix}
use Rattle.std.specs.Prelude.{Ok, Err}
use Rattle.picture.specs.Preprocess.{sized, preprocessed, resized_bytes}
use Rattle.picture_limits.specs.declared.Refusal.{Refusal}
use Rattle.picture_patches.specs.Viewed.{view_at}
use Rattle.picture_tiles.specs.declared.Tiles.{Tiles}
use Rattle.picture_tiles.specs.declared.Tile as D
use Rattle.picture_tiles.specs.Tile.{tile_bytes}
use Rattle.picture_tiles.specs.Answer.{cut_of, tiled}
use Rattle.encoder_run.specs.Stages.{merge_of}

-- ---- bf16, half, E, T, root

pub bf16-tie-down : bf16 0x3F80_8000 ≡ 0x3F80_0000
unfolding bf16
bf16-tie-down = refl

pub bf16-tie-up : bf16 0x3F81_8000 ≡ 0x3F82_0000
unfolding bf16
bf16-tie-up = refl

pub bf16-wraps : bf16 0x7FFF_FFFF ≡ 0x8000_0000
unfolding bf16
bf16-wraps = refl

pub half-smallest : half 0x0001 ≡ 0x3380_0000
unfolding half half_size subnormal count_leading_zeros
half-smallest = refl

pub half-largest : half 0x7BFF ≡ 0x477F_E000
unfolding half half_size
half-largest = refl

-- E(0) = 1
pub exp-of-zero : exp_bits 0 ≡ 0x3F80_0000
unfolding exp_bits E series narrow add sub mul div le ne of_int of_bits to_bits to_unsigned neg round size
exp-of-zero = refl

pub tanh-of-minus-zero : tanh_bits 0x8000_0000 ≡ 0x8000_0000
unfolding tanh_bits T near_zero narrow add sub mul div le ne of_bits to_bits neg
tanh-of-minus-zero = refl

-- the root of 4 is 2
pub root-of-four : root 0x4080_0000 ≡ 0x4000_0000
unfolding root root_of_number near_root whole_root
root-of-four = refl

-- ---- pictures: patch, merge, image size
abbrev ruled : ℕ → ℕ → ℕ → ℕ → PictureSettings
ruled r p m n = record { patch_size = p; spatial_merge_size = m; image_size = n; resize_rule = r; mean = own_means; deviation = own_deviations }

abbrev vision : ℕ → ℕ → ℕ → PictureSettings
vision p m n = ruled 1 p m n

-- 1 × 1: grid 2 × 2, 2352 floats, resized 28 × 28
pub one-pixel : preprocessed (vision 14 2 1540) 3 1 1 2352 ≡ Ok (sized 2 2 2352)
unfolding preprocessed allowed kept side
one-pixel = rw own-allowed refl

pub one-pixel-side : th_of (vision 14 2 1540) 1 1 ≡ 28
unfolding kept side
one-pixel-side = refl

-- 29 × 28: 56 × 28, grid 4 × 2; 28 stays 28
pub tall : preprocessed (vision 14 2 1540) (29 * 28 * 3) 29 28 4704 ≡ Ok (sized 4 2 4704)
unfolding preprocessed allowed kept side
tall = rw own-allowed refl

pub tall-side : th_of (vision 14 2 1540) 29 28 ≡ 56
unfolding kept side
tall-side = refl

pub stays : tw_of (vision 14 2 1540) 29 28 ≡ 28
unfolding kept side
stays = refl

-- image 100, height and width 200: 84 × 84, grid 6 × 6
pub cut : preprocessed (vision 14 2 100) (200 * 200 * 3) 200 200 21168 ≡ Ok (sized 6 6 21168)
unfolding preprocessed allowed kept side
cut = rw own-allowed refl

pub cut-side : th_of (vision 14 2 100) 200 200 ≡ 84
unfolding kept side
cut-side = refl

-- rule 2, 3080 × 1540: 1540 × 784, grid 110 × 56; rule 1: grid 110 × 110
pub panoramic : preprocessed (ruled 2 14 2 1540) (3080 * 1540 * 3) 3080 1540 3622080 ≡ Ok (sized 110 56 3622080)
unfolding preprocessed allowed kept side
panoramic = rw own-allowed refl

pub panoramic-sides : (th_of (ruled 2 14 2 1540) 3080 1540 ≡ 1540) × (tw_of (ruled 2 14 2 1540) 3080 1540 ≡ 784)
unfolding kept side
panoramic-sides = (refl, refl)

pub squashed : preprocessed (vision 14 2 1540) (3080 * 1540 * 3) 3080 1540 7114800 ≡ Ok (sized 110 110 7114800)
unfolding preprocessed allowed kept side
squashed = rw own-allowed refl

-- rule 2, 8192 × 1, patch 1, merge 1, image 2: the shorter side, which would become 0, is 1
pub thin : preprocessed (ruled 2 1 1 2) (8192 * 1 * 3) 8192 1 6 ≡ Ok (sized 2 1 6)
unfolding preprocessed allowed kept side
thin = rw own-allowed refl

-- one row 0, 255, patch 1, merge 4, image 4: each row 0, 128, 255, 255
pub wider : resized_bytes (vision 1 4 4) (0 ∷ 0 ∷ 0 ∷ 255 ∷ 255 ∷ 255 ∷ []) 1 2
    ≡ rows 4 (λ y. 0 ∷ 0 ∷ 0 ∷ 128 ∷ 128 ∷ 128 ∷ 255 ∷ 255 ∷ 255 ∷ 255 ∷ 255 ∷ 255 ∷ [])
unfolding rows tab kept side near mix to_byte blend whole add sub mul div lt of_int of_bits to_unsigned
wider = refl

-- one row 10, 20, 30, 40, patch 1, merge 2, image 2: each row 10, 30
pub narrower : resized_bytes (vision 1 2 2) (10 ∷ 10 ∷ 10 ∷ 20 ∷ 20 ∷ 20 ∷ 30 ∷ 30 ∷ 30 ∷ 40 ∷ 40 ∷ 40 ∷ []) 1 4
    ≡ rows 2 (λ y. 10 ∷ 10 ∷ 10 ∷ 30 ∷ 30 ∷ 30 ∷ [])
unfolding rows tab kept side near mix to_byte blend whole add sub mul div lt of_int of_bits to_unsigned
narrower = refl

-- ---- tiles: side, tiles down and across; a tile's grid, floats, first row and column, own rows and columns

abbrev cut_in : ℕ → ℕ → ℕ → Tiles
cut_in n r c = record { side = n; rows = r; columns = c }

abbrev tile_at : ℕ → ℕ → ℕ → ℕ → ℕ → ℕ → ℕ → D.Tile
tile_at gh gw n t l h w = record { grid_h = gh; grid_w = gw; floats = n; top = t; left = l; height = h; width = w }

-- 1540 × 1540, exactly s: one tile, all of it its own
pub exact-cut : cut_of (vision 14 2 1540) 1540 1540 ≡ Ok (cut_in 1540 1 1)
unfolding cut_of allowed
exact-cut = rw own-allowed refl

pub exact-tile : tiled (vision 14 2 1540) (1540 * 1540 * 3) 1540 1540 0 7114800 ≡ Ok (tile_at 110 110 7114800 0 0 1540 1540)
unfolding tiled allowed
exact-tile = rw own-allowed refl

-- 1541 × 1540, s + 1: a second tile, of one row padded to 28
pub one-more-cut : cut_of (vision 14 2 1540) 1541 1540 ≡ Ok (cut_in 1540 2 1)
unfolding cut_of allowed
one-more-cut = rw own-allowed refl

pub one-more-tile : tiled (vision 14 2 1540) (1541 * 1540 * 3) 1541 1540 1 129360 ≡ Ok (tile_at 2 110 129360 1540 0 1 1540)
unfolding tiled allowed
one-more-tile = rw own-allowed refl

-- 1 × 1: one tile, padded to 28 × 28
pub one-pixel-tile : tiled (vision 14 2 1540) 3 1 1 0 2352 ≡ Ok (tile_at 2 2 2352 0 0 1 1)
unfolding tiled allowed
one-pixel-tile = rw own-allowed refl

-- 8192 × 8192 with the largest image size: s is 2044; the last of 25 tiles has 16 × 16; one more is 20, before 5
pub largest-cut : cut_of (vision 14 2 2048) 8192 8192 ≡ Ok (cut_in 2044 5 5)
unfolding cut_of allowed
largest-cut = rw own-allowed refl

pub largest-last : tiled (vision 14 2 2048) (8192 * 8192 * 3) 8192 8192 24 2352 ≡ Ok (tile_at 2 2 2352 8176 8176 16 16)
unfolding tiled allowed
largest-last = rw own-allowed refl

pub largest-past : tiled (vision 14 2 2048) (8192 * 8192 * 3) 8192 8192 25 0 ≡ Err Refusal.Tile
unfolding tiled allowed
largest-past = rw own-allowed refl

-- and with the smallest, 28: 293 × 293 tiles; of 1, with patch 1 and merge 1, a tile for each pixel
pub smallest-cut : cut_of (vision 14 2 28) 8192 8192 ≡ Ok (cut_in 28 293 293)
unfolding cut_of allowed
smallest-cut = rw own-allowed refl

pub smallest-last : tiled (vision 14 2 28) (8192 * 8192 * 3) 8192 8192 85848 2352 ≡ Ok (tile_at 2 2 2352 8176 8176 16 16)
unfolding tiled allowed
smallest-last = rw own-allowed refl

pub pixel-last : tiled (vision 1 1 1) (8192 * 8192 * 3) 8192 8192 67108863 3 ≡ Ok (tile_at 1 1 3 8191 8191 1 1)
unfolding tiled allowed
pixel-last = rw own-allowed refl

pub pixel-past : tiled (vision 1 1 1) (8192 * 8192 * 3) 8192 8192 67108864 3 ≡ Err Refusal.Tile
unfolding tiled allowed
pixel-past = rw own-allowed refl

-- image 27 is below patch × merge
pub no_tile : cut_of (vision 14 2 27) 1 1 ≡ Err Refusal.ImageSize
unfolding cut_of allowed
no_tile = rw own-allowed refl

-- one row 10, 20, 30, patch 1, merge 2, image 2: the second tile is padded right and below
pub second-tile : tile_bytes (vision 1 2 2) (10 ∷ 10 ∷ 10 ∷ 20 ∷ 20 ∷ 20 ∷ 30 ∷ 30 ∷ 30 ∷ []) 1 3 1 ≡ 30 ∷ 30 ∷ 30 ∷ 0 ∷ 0 ∷ 0 ∷ 0 ∷ 0 ∷ 0 ∷ 0 ∷ 0 ∷ 0 ∷ []
unfolding view_at rows tab
second-tile = refl

-- ---- the spatial merge

-- grid 2 × 4, merge 2 (here of 3 channels): output token 1, channel 2, mh 1, mw 0 is token 6, at place 10
pub merged : (x : List Float) → get_or (merge_of 2 2 4 3 x) (1 * 12 + 10) nan ≡ get_or x (6 * 3 + 2) nan
unfolding merge_of rows tab
merged x = refl
