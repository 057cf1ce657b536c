-- `picture_patches::places::near_at` meets its contract. Assumes nothing.
use mathlib.Core.Path.{◌≡◌, refl, ap, ◌∙◌}
use Prim.Native.Nat.{ℕ, ◌+◌, ◌-◌, ◌<◌, min}
use native.Mathlib.Omega.{arith}
use lib.ListN.{get_or}
use lib.Ieee.{nan}
use Rattle.picture_resize.specs.declared.Near.{Near}
use Rattle.picture_resize.specs.Resize.{near}
use Rattle.picture_resize.proofs.Nears.{low-in}
use Rattle.picture_patches.specs.declared.places.Place.{Place}
use Rattle.picture_patches.specs.inner.Places.{place_of}
use Rattle.picture_patches.proofs.places.near_at.Goals as goal

-- the second neighbour is the one behind the first, held inside
abbrev near-from : ℕ → Place → Near
near-from from p = record { low = p.low; high = min (p.low + 1) (from - 1); part = p.part }

near-is : (from to j : ℕ) → near-from from (place_of (near from to j)) ≡ near from to j
unfolding near
near-is from to j = refl

pub overflow_add-place : goal.overflow_add-place
overflow_add-place c =
    let nowhere : Place = record { low = 0; part = nan } in
    let e = ap (λ (p : Place). p.low) (c.requires.2.near c.args.j nowhere c.requires.1) in
    omega (arith, e, low-in c.args.from c.args.to c.args.j c.requires.0)

pub returns : goal.returns
returns c = rw c.min.ensures (ap (near-from c.args.from) (c.requires.2.near c.args.j _ c.requires.1) ∙ near-is c.args.from c.args.to c.args.j)
