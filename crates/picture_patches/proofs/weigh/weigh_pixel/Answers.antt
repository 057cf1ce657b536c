-- `picture_patches::weigh::weigh_pixel` meets its contract. Assumes nothing.
use mathlib.Core.Path.{◌≡◌, ap, ◌∙◌}
use mathlib.Core.Bool.{false}
use mathlib.Core.List.{[], ◌∷◌}
use Prim.Native.Nat.{ℕ, ◌+◌}
use native.Mathlib.Omega.{arith}
use lib.ListN.{get_or, length-set}
use lib.Ieee.{Float, binary64, round, mul, of_int}
use Rattle.buffers.specs.Rows.{tab}
use Rattle.buffers.specs.Region.{put}
use Rattle.buffers.proofs.Regions.{put_three}
use Rattle.picture_resize.specs.Resize.{whole}
use Rattle.picture_patches.proofs.weigh.weigh_pixel.Goals as goal

pub bounds-out-at : goal.bounds-out-at
bounds-out-at c = omega (arith, c.requires)

pub bounds-out-at-2 : goal.bounds-out-at-2
bounds-out-at-2 c = simp length-set (omega (arith, c.requires))

pub bounds-out-at-3 : goal.bounds-out-at-3
bounds-out-at-3 c = simp length-set (omega (arith, c.requires))

pub shape_of-out : goal.shape_of-out
shape_of-out c = simp length-set

pub returns : goal.returns
unfolding tab whole of_int
returns c =
    let s = c.args.rgb.now in
    let v : ℕ → Float = λ b. mul binary64 (round binary64 false b 1) c.args.g in
    put_three c.args.out.now c.args.at (v (get_or s c.args.from 0)) (v (get_or s (c.args.from + 1) 0)) (v (get_or s (c.args.from + 2) 0))
    ∙ ap (λ (i : ℕ). put c.args.out.now c.args.at (v (get_or s i 0) ∷ v (get_or s (c.args.from + 1) 0) ∷ v (get_or s (c.args.from + 2) 0) ∷ [])) (let e : c.args.from ≡ c.args.from + 0 = omega arith in e)
