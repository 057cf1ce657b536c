-- `run::run` meets its contract. Assumes nothing.
use Prim.Native.Nat.{ℕ, ◌*◌, ◌/◌, ◌≤◌, max}
use native.Mathlib.Omega.{arith}
use mathlib.Core.Path.{◌≡◌, sym, ap, ◌∙◌}
use mathlib.Core.List.{List, ◌++◌}
use lib.ListN.{length, take, replicate, length-replicate}
use lib.Seq.{length-take-le}
use lib.Ieee.{Float}
use Rattle.number_floats.specs.Constants.{zero32}
use Rattle.picture_limits.specs.declared.PictureSettings.{PictureSettings}
use Rattle.std.specs.Prelude.{Result, Ok, Err}
use Rattle.picture.specs.Undo.{pictured}
use Rattle.picture.specs.Preprocess.{sized, floats_of, preprocessed, patches_of}
use Rattle.picture_restore.specs.Restore.{restored, bytes_of}
use Rattle.picture_limits.proofs.Places.{times}
use Rattle.picture.proofs.Accepts.{Accepted, acceptance}
use Rattle.unpatch_text.specs.Print.{refused_line, grid_line, row_lines}
use Rattle.unpatch_text.specs.Answer.{restored_text, preprocessed_text, ran}
use Rattle.unpatch_text.proofs.Writes.{wrote_as}
use Rattle.unpatch_text.proofs.Short.{refused-short}
use Rattle.picture.proofs.Undo.{patches-front}
use Rattle.unpatch_text.proofs.Rooms.{preprocess-room, grid-span, floats-le, Back, Small, bytes_fit, restore-room, back-says, back-small, bytes_back}
use Rattle.unpatch_text.proofs.run.run.Goals as goal

-- the local arrays have room for the patches and the bytes
abbrev room : ℕ
room = length (replicate 12288 zero32)

fits : (s : PictureSettings) (h w : ℕ) → s.image_size ≤ 64 → floats_of s h w ≤ room
fits s h w e = rw (length-replicate 12288 zero32) (floats-le s h w e)

-- ---- where preprocess gives a grid and how many floats
module _ (s : PictureSettings) (rgb : List ℕ) (height width gh gw n : ℕ) (low : s.image_size ≤ 64) (given : preprocessed s (length rgb) height width room ≡ Ok (sized gh gw n)) where
  taken : Accepted s (length rgb) height width room gh gw n
  taken = acceptance s (length rgb) height width room _ _ _ given

  inside : n ≤ room
  inside = rw taken.count (fits s height width low)

  tall : gh * s.patch_size ≤ 64
  tall = rw taken.tall (grid-span s (max height width) height low)

  wide : gw * s.patch_size ≤ 64
  wide = rw taken.wide (grid-span s (max height width) width low)

  -- the answer's text, by the text of what restore gives of the patches
  text : (lent : List Float) → lent ≡ patches_of s rgb height width
      → ran s rgb height width ≡ restored_text s gh gw (bytes_of s lent gh gw) (restored s lent gh gw (gh * s.patch_size * (gw * s.patch_size) * 3))
  unfolding ran
  text lent t =
      let p = s.patch_size in
      let e : preprocessed s (length rgb) height width (floats_of s height width) ≡ Ok (sized gh gw n) = sym (preprocess-room s (length rgb) height width room (fits s height width low)) ∙ given in
      ap (preprocessed_text s rgb height width) e ∙ sym (ap (λ (z : List Float). restored_text s gh gw (bytes_of s z gh gw) (restored s z gh gw (gh * p * (gw * p) * 3))) t)

-- ---- where restore gives a picture of h rows and w columns
module _ (s : PictureSettings) (lent : List Float) (gh gw h w : ℕ) (tall : gh * s.patch_size ≤ 64) (wide : gw * s.patch_size ≤ 64) (seen : restored s lent gh gw (length (replicate {A = ℕ} 12288 0)) ≡ Ok (pictured h w)) where
  says : Back s lent gh gw h w
  says = back-says s lent gh gw _ _ _ seen

  small : Small s lent gh gw h w
  small = back-small s lent gh gw tall wide _ _ says

  count-in : h * (w * 3) ≤ 12288
  count-in = omega (arith, times h (w * 3) 64 192 small.tall small.wide)

-- src/run.rt:47:37
pub put_refused-requires : goal.put_refused-requires
put_refused-requires c =
    rw c.from.ensures (omega (arith, refused-short c.in-Err.r, c.requires.1))

-- src/run.rt:53:35
pub slice_bounds-patches-end : goal.slice_bounds-patches-end
slice_bounds-patches-end c =
    let a = c.args in
    let f = c.in-Ok.made in
    let given : preprocessed a.s (length a.rgb.now) a.height a.width room ≡ Ok f = sym c.pixtral_preprocess.ensures.answer ∙ c.in-Ok.is in
    let fit : f.floats ≤ length c.pixtral_preprocess.new.out = rw c.pixtral_preprocess.auto.out (inside a.s a.rgb.now a.height a.width f.grid_h f.grid_w f.floats c.requires.0 given) in
    fit

-- src/run.rt:53:35
pub slice_bounds-part-end : goal.slice_bounds-part-end
slice_bounds-part-end c =
    let a = c.args in
    let f = c.in-Ok.made in
    let given : preprocessed a.s (length a.rgb.now) a.height a.width room ≡ Ok f = sym c.pixtral_preprocess.ensures.answer ∙ c.in-Ok.is in
    let fit : f.floats ≤ length c.pixtral_preprocess.new.out = rw c.pixtral_preprocess.auto.out (inside a.s a.rgb.now a.height a.width f.grid_h f.grid_w f.floats c.requires.0 given) in
    sym (length-take-le _ _ fit)

-- src/run.rt:55:41
pub put_refused-requires-in-Err-restore : goal.put_refused-requires-in-Err-restore
put_refused-requires-in-Err-restore c =
    rw c.from-in-Err-restore.ensures (omega (arith, refused-short c.in-Err-restore.r, c.requires.1))

-- src/run.rt:57:29
pub overflow_mul-n : goal.overflow_mul-n
overflow_mul-n c =
    let a = c.args in
    let f = c.in-Ok.made in
    let given : preprocessed a.s (length a.rgb.now) a.height a.width room ≡ Ok f = sym c.pixtral_preprocess.ensures.answer ∙ c.in-Ok.is in
    let high = tall a.s a.rgb.now a.height a.width f.grid_h f.grid_w f.floats c.requires.0 given in
    let broad = wide a.s a.rgb.now a.height a.width f.grid_h f.grid_w f.floats c.requires.0 given in
    let lent : List Float = take f.floats c.pixtral_preprocess.new.out in
    let q = c.in-Ok-restore.back in
    let seen : restored a.s lent f.grid_h f.grid_w (length (replicate {A = ℕ} 12288 0)) ≡ Ok q = sym c.restore.ensures.answer ∙ c.in-Ok-restore.is in
    omega (arith, (small a.s lent f.grid_h f.grid_w q.height q.width high broad seen).wide)

-- src/run.rt:58:33
pub overflow_mul-count : goal.overflow_mul-count
overflow_mul-count c =
    let a = c.args in
    let f = c.in-Ok.made in
    let given : preprocessed a.s (length a.rgb.now) a.height a.width room ≡ Ok f = sym c.pixtral_preprocess.ensures.answer ∙ c.in-Ok.is in
    let high = tall a.s a.rgb.now a.height a.width f.grid_h f.grid_w f.floats c.requires.0 given in
    let broad = wide a.s a.rgb.now a.height a.width f.grid_h f.grid_w f.floats c.requires.0 given in
    let lent : List Float = take f.floats c.pixtral_preprocess.new.out in
    let q = c.in-Ok-restore.back in
    let seen : restored a.s lent f.grid_h f.grid_w (length (replicate {A = ℕ} 12288 0)) ≡ Ok q = sym c.restore.ensures.answer ∙ c.in-Ok-restore.is in
    omega (arith, count-in a.s lent f.grid_h f.grid_w q.height q.width high broad seen)

-- src/run.rt:60:56
pub slice_bounds-bytes-end : goal.slice_bounds-bytes-end
slice_bounds-bytes-end c =
    let a = c.args in
    let f = c.in-Ok.made in
    let given : preprocessed a.s (length a.rgb.now) a.height a.width room ≡ Ok f = sym c.pixtral_preprocess.ensures.answer ∙ c.in-Ok.is in
    let high = tall a.s a.rgb.now a.height a.width f.grid_h f.grid_w f.floats c.requires.0 given in
    let broad = wide a.s a.rgb.now a.height a.width f.grid_h f.grid_w f.floats c.requires.0 given in
    let lent : List Float = take f.floats c.pixtral_preprocess.new.out in
    let q = c.in-Ok-restore.back in
    let seen : restored a.s lent f.grid_h f.grid_w (length (replicate {A = ℕ} 12288 0)) ≡ Ok q = sym c.restore.ensures.answer ∙ c.in-Ok-restore.is in
    rw (c.restore.auto.out, length-replicate {A = ℕ} 12288 0) (count-in a.s lent f.grid_h f.grid_w q.height q.width high broad seen)

-- src/run.rt:60:56
pub slice_bounds-show-end : goal.slice_bounds-show-end
slice_bounds-show-end c =
    let a = c.args in
    let f = c.in-Ok.made in
    let given : preprocessed a.s (length a.rgb.now) a.height a.width room ≡ Ok f = sym c.pixtral_preprocess.ensures.answer ∙ c.in-Ok.is in
    let high = tall a.s a.rgb.now a.height a.width f.grid_h f.grid_w f.floats c.requires.0 given in
    let broad = wide a.s a.rgb.now a.height a.width f.grid_h f.grid_w f.floats c.requires.0 given in
    let lent : List Float = take f.floats c.pixtral_preprocess.new.out in
    let q = c.in-Ok-restore.back in
    let seen : restored a.s lent f.grid_h f.grid_w (length (replicate {A = ℕ} 12288 0)) ≡ Ok q = sym c.restore.ensures.answer ∙ c.in-Ok-restore.is in
    let fit : q.height * (q.width * 3) ≤ length c.restore.new.out = rw (c.restore.auto.out, length-replicate {A = ℕ} 12288 0) (count-in a.s lent f.grid_h f.grid_w q.height q.width high broad seen) in
    sym (length-take-le _ _ fit)

-- src/run.rt:60:21
pub show-requires : goal.show-requires
show-requires c =
    let a = c.args in
    let f = c.in-Ok.made in
    let given : preprocessed a.s (length a.rgb.now) a.height a.width room ≡ Ok f = sym c.pixtral_preprocess.ensures.answer ∙ c.in-Ok.is in
    let high = tall a.s a.rgb.now a.height a.width f.grid_h f.grid_w f.floats c.requires.0 given in
    let broad = wide a.s a.rgb.now a.height a.width f.grid_h f.grid_w f.floats c.requires.0 given in
    let lent : List Float = take f.floats c.pixtral_preprocess.new.out in
    let q = c.in-Ok-restore.back in
    let seen : restored a.s lent f.grid_h f.grid_w (length (replicate {A = ℕ} 12288 0)) ≡ Ok q = sym c.restore.ensures.answer ∙ c.in-Ok-restore.is in
    let fit : q.height * (q.width * 3) ≤ length c.restore.new.out = rw (c.restore.auto.out, length-replicate {A = ℕ} 12288 0) (count-in a.s lent f.grid_h f.grid_w q.height q.width high broad seen) in
    let k = small a.s lent f.grid_h f.grid_w q.height q.width high broad seen in
    let g = (says a.s lent f.grid_h f.grid_w q.height q.width high broad seen).grids.settings in
    record {
      tall = k.grid-tall;
      wide = k.grid-wide;
      merge_low = g.merge_low;
      merge-high = g.merge-high;
      rows-high = k.tall;
      row-long = k.wide;
      inside = rw (length-take-le _ _ fit) (omega arith);
      room = c.requires.1;
    }

-- src/run.rt:39:1
pub returns-in-Err : goal.returns-in-Err
unfolding ran
returns-in-Err c =
    let r = c.in-Err.r in
    let rgb = c.args.rgb.now in
    let e : preprocessed c.args.s (length rgb) c.args.height c.args.width (floats_of c.args.s c.args.height c.args.width) ≡ Err r = sym (preprocess-room c.args.s (length rgb) c.args.height c.args.width room (fits c.args.s c.args.height c.args.width c.requires.0)) ∙ sym c.pixtral_preprocess.ensures.answer ∙ c.in-Err.is in
    wrote_as (ap refused_line c.from.ensures ∙ sym (ap (preprocessed_text c.args.s rgb c.args.height c.args.width) e)) c.put_refused.ensures

-- src/run.rt:39:1
pub returns-in-Err-restore : goal.returns-in-Err-restore
returns-in-Err-restore c =
    let a = c.args in
    let f = c.in-Ok.made in
    let given : preprocessed a.s (length a.rgb.now) a.height a.width room ≡ Ok f = sym c.pixtral_preprocess.ensures.answer ∙ c.in-Ok.is in
    let high = tall a.s a.rgb.now a.height a.width f.grid_h f.grid_w f.floats c.requires.0 given in
    let broad = wide a.s a.rgb.now a.height a.width f.grid_h f.grid_w f.floats c.requires.0 given in
    let lent : List Float = take f.floats c.pixtral_preprocess.new.out in
    let t : lent ≡ patches_of a.s a.rgb.now a.height a.width = ap (λ (z : List Float). take f.floats z) c.pixtral_preprocess.ensures.output ∙ patches-front a.s a.rgb.now a.height a.width room f.grid_h f.grid_w f.floats _ given in
    let said = text a.s a.rgb.now a.height a.width f.grid_h f.grid_w f.floats c.requires.0 given lent t in
    let r = c.in-Err-restore.r in
    let e : restored a.s lent f.grid_h f.grid_w _ ≡ Err r = sym (restore-room a.s lent f.grid_h f.grid_w (length (replicate {A = ℕ} 12288 0)) (bytes_fit a.s.patch_size f.grid_h f.grid_w high broad)) ∙ sym c.restore.ensures.answer ∙ c.in-Err-restore.is in
    wrote_as (ap refused_line c.from-in-Err-restore.ensures ∙ sym (said ∙ ap (restored_text a.s f.grid_h f.grid_w (bytes_of a.s lent f.grid_h f.grid_w)) e)) c.put_refused-in-Err-restore.ensures

-- src/run.rt:39:1
pub returns-in-Ok-restore : goal.returns-in-Ok-restore
returns-in-Ok-restore c =
    let a = c.args in
    let f = c.in-Ok.made in
    let given : preprocessed a.s (length a.rgb.now) a.height a.width room ≡ Ok f = sym c.pixtral_preprocess.ensures.answer ∙ c.in-Ok.is in
    let high = tall a.s a.rgb.now a.height a.width f.grid_h f.grid_w f.floats c.requires.0 given in
    let broad = wide a.s a.rgb.now a.height a.width f.grid_h f.grid_w f.floats c.requires.0 given in
    let lent : List Float = take f.floats c.pixtral_preprocess.new.out in
    let t : lent ≡ patches_of a.s a.rgb.now a.height a.width = ap (λ (z : List Float). take f.floats z) c.pixtral_preprocess.ensures.output ∙ patches-front a.s a.rgb.now a.height a.width room f.grid_h f.grid_w f.floats _ given in
    let said = text a.s a.rgb.now a.height a.width f.grid_h f.grid_w f.floats c.requires.0 given lent t in
    let q = c.in-Ok-restore.back in
    let seen : restored a.s lent f.grid_h f.grid_w (length (replicate {A = ℕ} 12288 0)) ≡ Ok q = sym c.restore.ensures.answer ∙ c.in-Ok-restore.is in
    let m = a.s.spatial_merge_size in
    let e : restored a.s lent f.grid_h f.grid_w _ ≡ Ok q = sym (restore-room a.s lent f.grid_h f.grid_w (length (replicate {A = ℕ} 12288 0)) (bytes_fit a.s.patch_size f.grid_h f.grid_w high broad)) ∙ seen in
    let written = ap (λ (z : List ℕ). take (q.height * (q.width * 3)) z) c.restore.ensures.output ∙ bytes_back a.s lent f.grid_h f.grid_w _ q.height q.width _ seen in
    wrote_as (ap (λ (z : List ℕ). grid_line f.grid_h f.grid_w (f.grid_h * f.grid_w / (m * m)) ++ row_lines q.height (q.width * 3) z) written ∙ sym (said ∙ ap (restored_text a.s f.grid_h f.grid_w (bytes_of a.s lent f.grid_h f.grid_w)) e)) c.show.ensures
