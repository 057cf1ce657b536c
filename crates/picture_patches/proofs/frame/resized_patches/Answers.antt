-- `picture_patches::frame::resized_patches` meets its contract. Assumes nothing.
use mathlib.Core.Path.{◌≡◌, sym, ap, ◌∙◌}
use mathlib.Core.Bool.{true, ◌&&◌}
use mathlib.Core.List.{List}
use lib.Ieee.{Float}
use Prim.Native.Nat.{ℕ, ◌/◌, ◌≤◌, ◌<◌}
use native.Mathlib.Nat.{mul_assoc, div-mul-le_self}
use native.Mathlib.Omega.{arith}
use borrow.Author.Tests.{not-true, not-false, eqb-true}
use lib.Dec.{eqb}
use lib.ListN.{length}
use Rattle.buffers.specs.Region.{put}
use Rattle.buffers.proofs.Lists.{and_left, and_right}
use Rattle.buffers.proofs.Regions.{put-over}
use Rattle.picture_limits.specs.Places.{patch_floats}
use Rattle.picture_limits.proofs.Sides.{sided-says}
use Rattle.picture_samples.specs.Samples.{channels_allowed, value, entry}
use Rattle.picture_samples.proofs.Channels.{clean_of}
use Rattle.picture_resize.specs.Resize.{resized_at}
use Rattle.picture_patches.specs.Resized.{fits, resized_patches, patches_over}
use Rattle.picture_patches.proofs.Patches.{length-patches, patches-ext}
use Rattle.picture_patches.proofs.Fits.{Fits, fits-says, written}
use Rattle.picture_patches.proofs.Views.{full-same}
use Rattle.picture_patches.proofs.Frames.{framed}
use Rattle.picture_patches.proofs.frame.resized_patches.Goals as goal

pub returns-then-not-channels_allowed-patches_fit : goal.returns-then-not-channels_allowed-patches_fit
unfolding patches_over
returns-then-not-channels_allowed-patches_fit c =
    let e = not-true (c.channels_allowed.result && c.patches_fit.result) c.if-not-channels_allowed-patches_fit.true-raw in
    rw (← c.channels_allowed.ensures, ← c.patches_fit.ensures, e)

pub nonzero_div-f : goal.nonzero_div-f
nonzero_div-f c =
    let both : let a = c.args in (channels_allowed (value (entry c.args.t.now)) ≡ true) × (fits (length c.args.rgb.now) c.args.h c.args.w c.args.th c.args.tw c.args.p (length c.args.out.now) ≡ true) = let e = not-false _ c.if-not-channels_allowed-patches_fit.false-raw in
    (sym c.channels_allowed.ensures ∙ and_left c.channels_allowed.result c.patches_fit.result e, sym c.patches_fit.ensures ∙ and_right c.channels_allowed.result c.patches_fit.result e) in
    let passed : let a = c.args in Fits (length c.args.rgb.now) c.args.h c.args.w c.args.th c.args.tw c.args.p (length c.args.out.now) = fits-says _ _ _ _ _ _ _ both.1 in
    omega (arith, passed.patch-low)

pub nonzero_div-f-2 : goal.nonzero_div-f-2
nonzero_div-f-2 c =
    let both : let a = c.args in (channels_allowed (value (entry c.args.t.now)) ≡ true) × (fits (length c.args.rgb.now) c.args.h c.args.w c.args.th c.args.tw c.args.p (length c.args.out.now) ≡ true) = let e = not-false _ c.if-not-channels_allowed-patches_fit.false-raw in
    (sym c.channels_allowed.ensures ∙ and_left c.channels_allowed.result c.patches_fit.result e, sym c.patches_fit.ensures ∙ and_right c.channels_allowed.result c.patches_fit.result e) in
    let passed : let a = c.args in Fits (length c.args.rgb.now) c.args.h c.args.w c.args.th c.args.tw c.args.p (length c.args.out.now) = fits-says _ _ _ _ _ _ _ both.1 in
    omega (arith, passed.patch-low)

pub all_patches-requires : goal.all_patches-requires
all_patches-requires c =
    let both : (channels_allowed (value (entry c.args.t.now)) ≡ true) × (fits (length c.args.rgb.now) c.args.h c.args.w c.args.th c.args.tw c.args.p (length c.args.out.now) ≡ true) =
    let e = not-false _ c.if-not-channels_allowed-patches_fit.false-raw in
    (sym c.channels_allowed.ensures ∙ and_left c.channels_allowed.result c.patches_fit.result e, sym c.patches_fit.ensures ∙ and_right c.channels_allowed.result c.patches_fit.result e) in
    let f : Fits (length c.args.rgb.now) c.args.h c.args.w c.args.th c.args.tw c.args.p (length c.args.out.now) = fits-says _ _ _ _ _ _ _ both.1 in
    (framed _ _ _ _ _ _ _ f, clean_of c.args.t.now both.0, (omega arith, omega arith), omega (arith, f.space, mul_assoc (c.args.th / c.args.p) (c.args.tw / c.args.p) (patch_floats c.args.p)))

-- the patches that fit, over the front of the output
over-front : (k : ℕ → ℕ → ℕ) (rgb : List ℕ) (h w th tw p : ℕ) (old : List Float) → channels_allowed (value k) ≡ true → fits (length rgb) h w th tw p (length old) ≡ true
    → put old 0 (resized_patches (value k) rgb h w th tw p) ≡ patches_over k rgb h w th tw p old
over-front k rgb h w th tw p old a b =
    let f = fits-says (length rgb) h w th tw p (length old) b in
    let ys = resized_patches (value k) rgb h w th tw p in
    let l : length ys ≤ length old = omega (arith, f.space, length-patches p (λ y x c. value k c (resized_at rgb h w th tw y x c)) (th / p) (tw / p), mul_assoc (th / p) (tw / p) (patch_floats p)) in
    put-over old ys l ∙ sym (written k rgb h w th tw p old a b)

pub returns-then-th-h : goal.returns-then-th-h
returns-then-th-h c =
    let both : (channels_allowed (value (entry c.args.t.now)) ≡ true) × (fits (length c.args.rgb.now) c.args.h c.args.w c.args.th c.args.tw c.args.p (length c.args.out.now) ≡ true) =
    let e = not-false _ c.if-not-channels_allowed-patches_fit.false-raw in
    (sym c.channels_allowed.ensures ∙ and_left c.channels_allowed.result c.patches_fit.result e, sym c.patches_fit.ensures ∙ and_right c.channels_allowed.result c.patches_fit.result e) in
    let f : Fits (length c.args.rgb.now) c.args.h c.args.w c.args.th c.args.tw c.args.p (length c.args.out.now) = fits-says _ _ _ _ _ _ _ both.1 in
    let k = entry c.args.t.now in
    let s = sided-says c.args.h c.args.w f.sides in
    let same : (c.args.th ≡ c.args.h) × (c.args.tw ≡ c.args.w) = (eqb-true _ _ (and_left (eqb c.args.th c.args.h) (eqb c.args.tw c.args.w) c.if-th-h.true), eqb-true _ _ (and_right (eqb c.args.th c.args.h) (eqb c.args.tw c.args.w) c.if-th-h.true)) in
    c.all_patches.ensures
    ∙ ap (put c.args.out.now 0) (patches-ext c.args.p (c.args.th / c.args.p) (c.args.tw / c.args.p) _ _ (λ y x i hy hx _.
    let ty : y < c.args.th = omega (arith, hy, div-mul-le_self c.args.th c.args.p) in
    let tx : x < c.args.tw = omega (arith, hx, div-mul-le_self c.args.tw c.args.p) in
    ap (value k i) (full-same c.args.rgb.now c.args.h c.args.w c.args.th c.args.tw y x i (λ n. (c.shared_slice_known-1.given n).fits) s.1 s.3 same.0 same.1 ty tx)))
    ∙ over-front k c.args.rgb.now c.args.h c.args.w c.args.th c.args.tw c.args.p c.args.out.now both.0 both.1

pub resized_all-requires : goal.resized_all-requires
resized_all-requires c =
    let both : (channels_allowed (value (entry c.args.t.now)) ≡ true) × (fits (length c.args.rgb.now) c.args.h c.args.w c.args.th c.args.tw c.args.p (length c.args.out.now) ≡ true) =
    let e = not-false _ c.if-not-channels_allowed-patches_fit.false-raw in
    (sym c.channels_allowed.ensures ∙ and_left c.channels_allowed.result c.patches_fit.result e, sym c.patches_fit.ensures ∙ and_right c.channels_allowed.result c.patches_fit.result e) in
    let f : Fits (length c.args.rgb.now) c.args.h c.args.w c.args.th c.args.tw c.args.p (length c.args.out.now) = fits-says _ _ _ _ _ _ _ both.1 in
    (framed _ _ _ _ _ _ _ f, clean_of c.args.t.now both.0, omega (arith, f.space, mul_assoc (c.args.th / c.args.p) (c.args.tw / c.args.p) (patch_floats c.args.p)))

pub returns : goal.returns
returns c =
    let both : (channels_allowed (value (entry c.args.t.now)) ≡ true) × (fits (length c.args.rgb.now) c.args.h c.args.w c.args.th c.args.tw c.args.p (length c.args.out.now) ≡ true) =
    let e = not-false _ c.if-not-channels_allowed-patches_fit.false-raw in
    (sym c.channels_allowed.ensures ∙ and_left c.channels_allowed.result c.patches_fit.result e, sym c.patches_fit.ensures ∙ and_right c.channels_allowed.result c.patches_fit.result e) in
    let f : Fits (length c.args.rgb.now) c.args.h c.args.w c.args.th c.args.tw c.args.p (length c.args.out.now) = fits-says _ _ _ _ _ _ _ both.1 in
    c.resized_all.ensures ∙ over-front (entry c.args.t.now) c.args.rgb.now c.args.h c.args.w c.args.th c.args.tw c.args.p c.args.out.now both.0 both.1
