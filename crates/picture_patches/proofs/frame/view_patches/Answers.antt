-- `picture_patches::frame::view_patches` meets its contract. Assumes nothing.
use mathlib.Core.Path.{◌≡◌, sym, ◌∙◌}
use mathlib.Core.Bool.{true, ◌&&◌}
use Prim.Native.Nat.{ℕ, ◌/◌, ◌≤◌}
use native.Mathlib.Nat.{mul_assoc}
use native.Mathlib.Omega.{arith}
use borrow.Author.Tests.{not-true, not-false}
use lib.ListN.{length}
use Rattle.buffers.proofs.Lists.{and_left, and_right}
use Rattle.buffers.proofs.Regions.{put-over}
use Rattle.picture_limits.specs.View.{inside}
use Rattle.picture_limits.specs.Places.{patch_floats}
use Rattle.picture_limits.proofs.Views.{inside-says}
use Rattle.picture_samples.specs.Samples.{channels_allowed, value, entry}
use Rattle.picture_samples.proofs.Channels.{clean_of}
use Rattle.picture_patches.specs.Resized.{fits}
use Rattle.picture_patches.specs.Viewed.{view_at, view_patches, view_over}
use Rattle.picture_patches.proofs.Patches.{length-patches}
use Rattle.picture_patches.proofs.Fits.{Fits, fits-says, view-written}
use Rattle.picture_patches.proofs.Frames.{framed}
use Rattle.picture_patches.proofs.frame.view_patches.Goals as goal

pub returns-then-not-channels_allowed-patches_fit : goal.returns-then-not-channels_allowed-patches_fit
unfolding view_over
returns-then-not-channels_allowed-patches_fit c =
    let e = not-true (c.channels_allowed.result && c.patches_fit.result) c.if-not-channels_allowed-patches_fit.true-raw in
    rw (← c.channels_allowed.ensures, ← c.patches_fit.ensures, e)

pub returns-then-not-view_inside : goal.returns-then-not-view_inside
unfolding view_over
returns-then-not-view_inside c =
    let both : (channels_allowed (value (entry c.args.t.now)) ≡ true) × (fits (length c.args.rgb.now) c.args.h c.args.w c.args.th c.args.tw c.args.p (length c.args.out.now) ≡ true) = let e = not-false _ c.if-not-channels_allowed-patches_fit.false-raw in
    (sym c.channels_allowed.ensures ∙ and_left c.channels_allowed.result c.patches_fit.result e, sym c.patches_fit.ensures ∙ and_right c.channels_allowed.result c.patches_fit.result e) in
    let b = both in
    rw (b.0, b.1, sym c.view_inside.ensures ∙ not-true _ c.if-not-view_inside.true-raw)

pub nonzero_div-f : goal.nonzero_div-f
nonzero_div-f c =
    let both : let a = c.args in (channels_allowed (value (entry c.args.t.now)) ≡ true) × (fits (length c.args.rgb.now) c.args.h c.args.w c.args.th c.args.tw c.args.p (length c.args.out.now) ≡ true) = let e = not-false _ c.if-not-channels_allowed-patches_fit.false-raw in
    (sym c.channels_allowed.ensures ∙ and_left c.channels_allowed.result c.patches_fit.result e, sym c.patches_fit.ensures ∙ and_right c.channels_allowed.result c.patches_fit.result e) in
    let passed : let a = c.args in Fits (length c.args.rgb.now) c.args.h c.args.w c.args.th c.args.tw c.args.p (length c.args.out.now) = fits-says _ _ _ _ _ _ _ both.1 in
    omega (arith, passed.patch-low)

pub nonzero_div-f-2 : goal.nonzero_div-f-2
nonzero_div-f-2 c =
    let both : let a = c.args in (channels_allowed (value (entry c.args.t.now)) ≡ true) × (fits (length c.args.rgb.now) c.args.h c.args.w c.args.th c.args.tw c.args.p (length c.args.out.now) ≡ true) = let e = not-false _ c.if-not-channels_allowed-patches_fit.false-raw in
    (sym c.channels_allowed.ensures ∙ and_left c.channels_allowed.result c.patches_fit.result e, sym c.patches_fit.ensures ∙ and_right c.channels_allowed.result c.patches_fit.result e) in
    let passed : let a = c.args in Fits (length c.args.rgb.now) c.args.h c.args.w c.args.th c.args.tw c.args.p (length c.args.out.now) = fits-says _ _ _ _ _ _ _ both.1 in
    omega (arith, passed.patch-low)

pub all_patches-requires : goal.all_patches-requires
all_patches-requires c =
    let both : let a = c.args in (channels_allowed (value (entry c.args.t.now)) ≡ true) × (fits (length c.args.rgb.now) c.args.h c.args.w c.args.th c.args.tw c.args.p (length c.args.out.now) ≡ true) = let e = not-false _ c.if-not-channels_allowed-patches_fit.false-raw in
    (sym c.channels_allowed.ensures ∙ and_left c.channels_allowed.result c.patches_fit.result e, sym c.patches_fit.ensures ∙ and_right c.channels_allowed.result c.patches_fit.result e) in
    let passed : let a = c.args in Fits (length c.args.rgb.now) c.args.h c.args.w c.args.th c.args.tw c.args.p (length c.args.out.now) = fits-says _ _ _ _ _ _ _ both.1 in
    let within : let a = c.args in inside c.args.v c.args.h c.args.w ≡ true = sym c.view_inside.ensures ∙ not-false _ c.if-not-view_inside.false-raw in
    let a = c.args in
    let f = passed in (
      framed _ _ _ _ _ _ _ f,
      clean_of c.args.t.now both.0,
      inside-says c.args.v c.args.h c.args.w within,
      omega (arith, f.space, mul_assoc (c.args.th / c.args.p) (c.args.tw / c.args.p) (patch_floats c.args.p)),
    )

pub returns : goal.returns
returns c =
    let both : let a = c.args in (channels_allowed (value (entry c.args.t.now)) ≡ true) × (fits (length c.args.rgb.now) c.args.h c.args.w c.args.th c.args.tw c.args.p (length c.args.out.now) ≡ true) = let x = c.channels_allowed in
    let y = c.patches_fit in
    let e = not-false _ c.if-not-channels_allowed-patches_fit.false-raw in
    (sym c.channels_allowed.ensures ∙ and_left c.channels_allowed.result c.patches_fit.result e, sym c.patches_fit.ensures ∙ and_right c.channels_allowed.result c.patches_fit.result e) in
    let passed : let a = c.args in Fits (length c.args.rgb.now) c.args.h c.args.w c.args.th c.args.tw c.args.p (length c.args.out.now) = fits-says _ _ _ _ _ _ _ both.1 in
    let within : let a = c.args in inside c.args.v c.args.h c.args.w ≡ true = sym c.view_inside.ensures ∙ not-false _ c.if-not-view_inside.false-raw in
    let a = c.args in
    let k = entry c.args.t.now in
    let gh = c.args.th / c.args.p in
    let gw = c.args.tw / c.args.p in
    let b = both in
    let v : ℕ → ℕ → ℕ → ℕ = view_at c.args.rgb.now c.args.w c.args.v in
    let ys = view_patches (value k) c.args.rgb.now c.args.w c.args.v c.args.th c.args.tw c.args.p in
    let l : length ys ≤ length c.args.out.now = omega (arith, passed.space, length-patches c.args.p (λ y x c. value k c (v y x c)) gh gw, mul_assoc gh gw (patch_floats c.args.p)) in
    c.all_patches.ensures
    ∙ put-over c.args.out.now ys l
    ∙ sym (view-written k c.args.rgb.now c.args.h c.args.w c.args.v c.args.th c.args.tw c.args.p c.args.out.now b.0 b.1 (within))
