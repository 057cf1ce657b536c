-- `picture_patches::strip::resized_all` meets its contract. Assumes nothing.
use mathlib.Core.Path.{◌≡◌, ap, ◌∙◌}
use mathlib.Core.List.{List}
use Prim.Native.Nat.{ℕ, ◌+◌, ◌≤◌}
use native.Mathlib.Omega.{arith}
use lib.Dec.{lit≤}
use lib.ListN.{length, get_or, length-replicate}
use Rattle.buffers.specs.Rows.{tab}
use Rattle.buffers.specs.Region.{put}
use Rattle.buffers.proofs.Regions.{length-put, get_or-put-same}
use Rattle.buffers.proofs.Lists.{length-tab, get_or-tab}
use Rattle.picture_resize.specs.Resize.{near}
use Rattle.picture_patches.specs.declared.places.Place.{Place}
use Rattle.picture_patches.specs.inner.Places.{place_of, Placed}
use Rattle.picture_patches.proofs.strip.resized_all.Goals as goal

placed : (from to : ℕ) (s t : List Place) → to ≤ length s → t ≡ put s 0 (tab to (λ j. place_of (near from to j))) → Placed from to t
placed from to s t room e =
    let f : ℕ → Place = λ j. place_of (near from to j) in
    record {
      room = omega (arith, room, ap length e ∙ length-put s 0 (tab to f));
      near = λ j d h. (let z : j ≡ 0 + j = omega arith in ap (λ (i : ℕ). get_or t i d) z) ∙ ap (λ (l : List Place). get_or l (0 + j) d) e ∙ get_or-put-same s 0 (tab to f) j d (omega (arith, h, length-tab to f)) (omega (arith, room, length-tab to f)) ∙ get_or-tab to j f d h;
    }

pub places-requires : goal.places-requires
places-requires c = simp length-replicate c.requires.0.target-tall

pub places-requires-2 : goal.places-requires-2
places-requires-2 c = simp length-replicate c.requires.0.target-wide

pub mixed_patches-requires : goal.mixed_patches-requires
mixed_patches-requires c =
    let f = c.requires.0 in
    let down = placed c.args.f.h c.args.f.th _ _ (simp length-replicate f.target-tall) c.places.ensures in
    let across = placed c.args.f.w c.args.f.tw _ _ (simp length-replicate f.target-wide) c.places-2.ensures in
    (record { frame = f; down = down; across = across }, c.requires.1, c.requires.2, record { columns = lit≤ tt; left-long = simp length-replicate; right-long = simp length-replicate }, simp length-replicate)

pub returns : goal.returns
returns c = c.mixed_patches.ensures
