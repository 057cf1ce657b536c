-- `picture::preprocess::preprocess_by` meets its contract: what is written by the table are the samples. Assumes nothing.
use mathlib.Core.Path.{◌≡◌, sym, ap, ◌∙◌}
use mathlib.Core.Bool.{true, false}
use mathlib.Core.List.{List}
use Prim.Native.Nat.{ℕ, ◌*◌, ◌/◌, ◌≤◌, ◌<◌}
use native.Mathlib.Nat.{le-max_left, le-max_right, max-le}
use native.Mathlib.Omega.{arith}
use borrow.Author.Tests.{not-true, not-false, eq-eqb, ne_eqb, le-leb, lt-leb}
use lib.ListN.{length}
use lib.Ieee.{Float}
use Rattle.buffers.specs.Region.{over}
use Rattle.picture_limits.specs.declared.PictureSettings.{PictureSettings}
use Rattle.picture_limits.specs.Settings.{sided, align}
use Rattle.picture_limits.specs.Sides.{kept, resized, th_of, tw_of}
use Rattle.picture_limits.specs.Places.{patch_floats}
use Rattle.picture.specs.Preprocess.{floats_of, preprocessed}
use Rattle.picture.proofs.Accepts.{Accepts, accepted, written}
use Rattle.picture_limits.proofs.Places.{square, times}
use Rattle.picture_limits.proofs.Sides.{Allowed, allowed-says, sided-says, side-le, Spans, spans}
use Rattle.picture_samples.specs.Samples.{channels_allowed, sample_table, value, entry, value_of}
use Rattle.picture_samples.proofs.Channels.{value-of, allowed_of}
use Rattle.picture_resize.specs.Resize.{resized_at}
use Rattle.picture_resize.proofs.Same.{byte-below}
use Rattle.picture_patches.specs.Patches.{patches}
use Rattle.picture_patches.specs.Resized.{resized_patches, fits}
use Rattle.picture_patches.proofs.Patches.{patches-ext}
use Rattle.picture_patches.proofs.Fits as W
use Rattle.picture_patches.proofs.Fits.{fits-where}
use Rattle.picture.proofs.preprocess.preprocess_by.Goals as goal

-- the table's values are the samples
sampled : (s : PictureSettings) (t : List ℕ) → t ≡ sample_table s.mean s.deviation → (p gh gw : ℕ) (v : ℕ → ℕ → ℕ → ℕ) → ((y x k : ℕ) → v y x k < 256)
    → patches p gh gw (λ y x k. value (entry t) k (v y x k)) ≡ patches p gh gw (λ y x k. value_of s k (v y x k))
sampled s t e p gh gw v h = patches-ext p gh gw _ _ (λ y x k _ _ hk. value-of s.mean s.deviation t e k (v y x k) hk (h y x k))

pub returns-then-not-sides_allowed : goal.returns-then-not-sides_allowed
unfolding preprocessed
returns-then-not-sides_allowed c =
    let channels : channels_allowed (value_of c.args.s) ≡ true = let a = c.args in sym (allowed_of c.args.s.mean c.args.s.deviation c.args.t.now c.requires.2) ∙ c.requires.1 in
    let e = c.requires.0 in
    let d = channels in
    let g : sided c.args.height c.args.width ≡ false = sym c.sides_allowed.ensures ∙ not-true _ c.if-not-sides_allowed.true-raw in
    let a = c.args in record {
      answer = simp (e, d, g);
      output = simp (e, d, g);
    }

pub overflow_mul-height : goal.overflow_mul-height
overflow_mul-height c =
    let sides : sided c.args.height c.args.width ≡ true = sym c.sides_allowed.ensures ∙ not-false _ c.if-not-sides_allowed.false-raw in
    let t = sided-says c.args.height c.args.width (sides) in omega (arith, times c.args.height c.args.width 8192 8192 t.1 t.3)

pub overflow_mul-height-2 : goal.overflow_mul-height-2
overflow_mul-height-2 c =
    let sides : sided c.args.height c.args.width ≡ true = sym c.sides_allowed.ensures ∙ not-false _ c.if-not-sides_allowed.false-raw in
    let t = sided-says c.args.height c.args.width (sides) in omega (arith, times c.args.height c.args.width 8192 8192 t.1 t.3)

pub returns-then-rgb-height : goal.returns-then-rgb-height
unfolding preprocessed
returns-then-rgb-height c =
    let sides : sided c.args.height c.args.width ≡ true = sym c.sides_allowed.ensures ∙ not-false _ c.if-not-sides_allowed.false-raw in
    let channels : channels_allowed (value_of c.args.s) ≡ true = let a = c.args in sym (allowed_of c.args.s.mean c.args.s.deviation c.args.t.now c.requires.2) ∙ c.requires.1 in
    let e = c.requires.0 in
    let d = channels in
    let g = sides in
    let k = ne_eqb _ _ c.if-rgb-height.true in
    let a = c.args in record {
      answer = simp (e, d, g, k);
      output = simp (e, d, g, k);
    }

pub overflow_mul-a : goal.overflow_mul-a
overflow_mul-a c =
    let known : Allowed c.args.s.patch_size c.args.s.spatial_merge_size c.args.s.image_size = allowed-says c.args.s c.requires.0 in
    let k = known in omega (arith, times c.args.s.patch_size c.args.s.spatial_merge_size 32 4 k.patch-high k.merge-high)

pub returns-then-n-a : goal.returns-then-n-a
unfolding preprocessed
returns-then-n-a c =
    let sides : sided c.args.height c.args.width ≡ true = sym c.sides_allowed.ensures ∙ not-false _ c.if-not-sides_allowed.false-raw in
    let channels : channels_allowed (value_of c.args.s) ≡ true = let a = c.args in sym (allowed_of c.args.s.mean c.args.s.deviation c.args.t.now c.requires.2) ∙ c.requires.1 in
    let e = c.requires.0 in
    let d = channels in
    let g = sides in
    let k = eq-eqb _ _ c.if-rgb-height.false in
    let l = lt-leb _ _ c.if-n-a.true in
    let a = c.args in record {
      answer = simp (e, d, g, k, l);
      output = simp (e, d, g, k, l);
    }

pub resized_side-th-requires : goal.resized_side-th-requires
resized_side-th-requires c =
    let sides : sided c.args.height c.args.width ≡ true = sym c.sides_allowed.ensures ∙ not-false _ c.if-not-sides_allowed.false-raw in
    let a = c.args in
    let t = sided-says c.args.height c.args.width (sides) in
    let e = c.max-m.ensures in
    (c.requires.0, omega (arith, e, le-max_left c.args.height c.args.width), t.0, omega (arith, e, max-le {a = c.args.height} {b = c.args.width} t.1 t.3))

pub resized_side-tw-requires : goal.resized_side-tw-requires
resized_side-tw-requires c =
    let sides : sided c.args.height c.args.width ≡ true = sym c.sides_allowed.ensures ∙ not-false _ c.if-not-sides_allowed.false-raw in
    let a = c.args in
    let t = sided-says c.args.height c.args.width (sides) in
    let e = c.max-m.ensures in
    (c.requires.0, omega (arith, e, le-max_right c.args.height c.args.width), t.2, omega (arith, e, max-le {a = c.args.height} {b = c.args.width} t.1 t.3))

pub nonzero_div-gh : goal.nonzero_div-gh
nonzero_div-gh c =
    let known : Allowed c.args.s.patch_size c.args.s.spatial_merge_size c.args.s.image_size = allowed-says c.args.s c.requires.0 in
    omega (arith, known.patch-low)

pub nonzero_div-gw : goal.nonzero_div-gw
nonzero_div-gw c =
    let known : Allowed c.args.s.patch_size c.args.s.spatial_merge_size c.args.s.image_size = allowed-says c.args.s c.requires.0 in
    omega (arith, known.patch-low)

pub overflow_mul-floats : goal.overflow_mul-floats
overflow_mul-floats c =
    let known : Allowed c.args.s.patch_size c.args.s.spatial_merge_size c.args.s.image_size = allowed-says c.args.s c.requires.0 in
    let tall : Spans (c.resized_side-th.result / c.args.s.patch_size) c.args.s.patch_size = let s = c.args.s in
    let k = known in
    let e = c.resized_side-th.ensures in
    spans _ _ k.patch-low (omega (arith, e, side-le (align s) c.args.s.image_size (kept c.args.s.resize_rule c.args.s.image_size c.max-m.result c.args.height))) in
    let wide : Spans (c.resized_side-tw.result / c.args.s.patch_size) c.args.s.patch_size = let s = c.args.s in
    let k = known in
    let e = c.resized_side-tw.ensures in
    spans _ _ k.patch-low (omega (arith, e, side-le (align s) c.args.s.image_size (kept c.args.s.resize_rule c.args.s.image_size c.max-m.result c.args.width))) in
    omega (arith, times _ _ 2048 2048 tall.low wide.low)

pub overflow_mul-floats-2 : goal.overflow_mul-floats-2
overflow_mul-floats-2 c =
    let known : Allowed c.args.s.patch_size c.args.s.spatial_merge_size c.args.s.image_size = allowed-says c.args.s c.requires.0 in
    omega (arith, square c.args.s.patch_size known.patch-high)

pub overflow_mul-floats-3 : goal.overflow_mul-floats-3
overflow_mul-floats-3 c =
    let known : Allowed c.args.s.patch_size c.args.s.spatial_merge_size c.args.s.image_size = allowed-says c.args.s c.requires.0 in
    omega (arith, square c.args.s.patch_size known.patch-high)

pub overflow_mul-floats-4 : goal.overflow_mul-floats-4
overflow_mul-floats-4 c =
    let known : Allowed c.args.s.patch_size c.args.s.spatial_merge_size c.args.s.image_size = allowed-says c.args.s c.requires.0 in
    let tall : Spans (c.resized_side-th.result / c.args.s.patch_size) c.args.s.patch_size = let s = c.args.s in
    let k = known in
    let e = c.resized_side-th.ensures in
    spans _ _ k.patch-low (omega (arith, e, side-le (align s) c.args.s.image_size (kept c.args.s.resize_rule c.args.s.image_size c.max-m.result c.args.height))) in
    let wide : Spans (c.resized_side-tw.result / c.args.s.patch_size) c.args.s.patch_size = let s = c.args.s in
    let k = known in
    let e = c.resized_side-tw.ensures in
    spans _ _ k.patch-low (omega (arith, e, side-le (align s) c.args.s.image_size (kept c.args.s.resize_rule c.args.s.image_size c.max-m.result c.args.width))) in
    let p = c.args.s.patch_size in
    let b : 3 * (p * p) ≤ 3072 = omega (arith, square p known.patch-high) in
    omega (arith, times (c.resized_side-th.result / p * (c.resized_side-tw.result / p)) (3 * (p * p)) (2048 * 2048) 3072 (times _ _ 2048 2048 tall.low wide.low) b)

pub returns-then-out-floats : goal.returns-then-out-floats
unfolding preprocessed
returns-then-out-floats c =
    let sides : sided c.args.height c.args.width ≡ true = sym c.sides_allowed.ensures ∙ not-false _ c.if-not-sides_allowed.false-raw in
    let channels : channels_allowed (value_of c.args.s) ≡ true = let a = c.args in sym (allowed_of c.args.s.mean c.args.s.deviation c.args.t.now c.requires.2) ∙ c.requires.1 in
    let counted : c.resized_side-th.result / c.args.s.patch_size * (c.resized_side-tw.result / c.args.s.patch_size) * patch_floats c.args.s.patch_size ≡ floats_of c.args.s c.args.height c.args.width = cc (c.resized_side-th.ensures, c.resized_side-tw.ensures, c.max-m.ensures) in
    let a = c.args in
    let e = c.requires.0 in
    let d = channels in
    let g = sides in
    let k = eq-eqb _ _ c.if-rgb-height.false in
    let l = le-leb _ _ c.if-n-a.false in
    let o = lt-leb (floats_of c.args.s c.args.height c.args.width) (length c.args.out.now) (omega (arith, c.if-out-floats.true, counted)) in record {
      answer = simp (e, d, g, k, l, o);
      output = simp (e, d, g, k, l, o);
    }

pub returns : goal.returns
returns c =
    let sides : sided c.args.height c.args.width ≡ true = sym c.sides_allowed.ensures ∙ not-false _ c.if-not-sides_allowed.false-raw in
    let channels : channels_allowed (value_of c.args.s) ≡ true = let a = c.args in sym (allowed_of c.args.s.mean c.args.s.deviation c.args.t.now c.requires.2) ∙ c.requires.1 in
    let counted : c.resized_side-th.result / c.args.s.patch_size * (c.resized_side-tw.result / c.args.s.patch_size) * patch_floats c.args.s.patch_size ≡ floats_of c.args.s c.args.height c.args.width = cc (c.resized_side-th.ensures, c.resized_side-tw.ensures, c.max-m.ensures) in
    let asked : Accepts c.args.s (length c.args.rgb.now) c.args.height c.args.width (length c.args.out.now) = record {
      settings = c.requires.0;
      channels = channels;
      sides = sides;
      bytes = c.if-rgb-height.false;
      image = c.if-n-a.false;
      fits = omega (arith, c.if-out-floats.false, counted);
    } in
    let known : Allowed c.args.s.patch_size c.args.s.spatial_merge_size c.args.s.image_size = allowed-says c.args.s c.requires.0 in
    let tall : Spans (c.resized_side-th.result / c.args.s.patch_size) c.args.s.patch_size = let s = c.args.s in
    let k = known in
    let e = c.resized_side-th.ensures in
    spans _ _ k.patch-low (omega (arith, e, side-le (align s) c.args.s.image_size (kept c.args.s.resize_rule c.args.s.image_size c.max-m.result c.args.height))) in
    let wide : Spans (c.resized_side-tw.result / c.args.s.patch_size) c.args.s.patch_size = let s = c.args.s in
    let k = known in
    let e = c.resized_side-tw.ensures in
    spans _ _ k.patch-low (omega (arith, e, side-le (align s) c.args.s.image_size (kept c.args.s.resize_rule c.args.s.image_size c.max-m.result c.args.width))) in
    let handed : let a = c.args in
    fits (length c.args.rgb.now) c.args.height c.args.width c.resized_side-th.result c.resized_side-tw.result c.args.s.patch_size (length c.args.out.now) ≡ true = let a = c.args in
    let s = c.args.s in
    let o = known in
    fits-where _ _ _ _ _ _ _
    (record {
      sides = sides;
      tall = omega (arith, c.resized_side-th.ensures, o.image-high, side-le (align s) c.args.s.image_size (kept c.args.s.resize_rule c.args.s.image_size c.max-m.result c.args.height));
      wide = omega (arith, c.resized_side-tw.ensures, o.image-high, side-le (align s) c.args.s.image_size (kept c.args.s.resize_rule c.args.s.image_size c.max-m.result c.args.width));
      patch-low = o.patch-low;
      patch-high = o.patch-high;
      bytes = c.if-rgb-height.false;
      space = c.if-out-floats.false;
    }) in
    let e = c.before.before.before.before in
    let r = c.before.before.before.before.before.before.before.before.before.before.before.before.before.before.before in
    let a = c.args in
    let p = c.args.s.patch_size in
    let q = asked in
    let h = c.args.height in
    let w = c.args.width in
    let th = th_of c.args.s h w in
    let tw = tw_of c.args.s h w in
    let v = value (entry c.args.t.now) in
    let m = c.max-m.ensures in
    let y = c.resized_side-th.ensures ∙ ap (λ (l : ℕ). resized c.args.s l h) m in
    let x = c.resized_side-tw.ensures ∙ ap (λ (l : ℕ). resized c.args.s l w) m in record {
      answer = cc (accepted c.args.s (length c.args.rgb.now) h w (length c.args.out.now) q, y, x);
      output = c.resized_patches.ensures
          ∙ W.written (entry c.args.t.now) c.args.rgb.now h w _ _ p c.args.out.now c.requires.1 (handed)
          ∙ ap (λ (t : ℕ). over (resized_patches v c.args.rgb.now h w t c.resized_side-tw.result p) c.args.out.now) y
          ∙ ap (λ (t : ℕ). over (resized_patches v c.args.rgb.now h w th t p) c.args.out.now) x
          ∙ ap (λ (l : List Float). over l c.args.out.now) (sampled c.args.s c.args.t.now c.requires.2 p (th / p) (tw / p) (resized_at c.args.rgb.now h w th tw) (byte-below c.args.rgb.now h w th tw))
          ∙ written c.args.s c.args.rgb.now h w c.args.out.now q;
    }
