-- The undo: the three statements of specs/Undo.antt. Assumes nothing.
use Rattle.std.specs.Prelude.{Result, Ok, Err}
use mathlib.Core.Path.{◌≡◌, refl, sym, ap, ◌∙◌}
use mathlib.Core.Bool.{Bool, true, false}
use mathlib.Core.List.{List}
use Prim.Native.Nat.{ℕ, ◌+◌, ◌*◌, ◌/◌, ◌%◌, ◌≤◌, ◌<◌, max}
use native.Mathlib.Nat.{mul_assoc, mul-pos, max-le}
use native.Mathlib.Omega.{arith}
use borrow.Author.Tests.{le-leb, eq-eqb}
use lib.Dec.{T, leb}
use lib.ListN.{length, get_or, take}
use lib.Seq.{take_at}
use lib.Ieee.{Float, nan, binary32, fits, to_bits, of_bits}
use lib.Ieee.Bits.{of_bits-to_bits}
use Rattle.buffers.specs.Region.{over}
use Rattle.buffers.proofs.Lists.{fit, and_both, and_left, and_right, rows_ext, tab-ext}
use Rattle.picture_limits.specs.declared.PictureSettings.{PictureSettings}
use Rattle.picture_limits.specs.declared.Refusal.{Refusal}
use Rattle.picture.specs.declared.Patches.{Patches}
use Rattle.picture_restore.specs.declared.Picture.{Picture}
use Rattle.picture_limits.specs.Settings.{within, allowed, align}
use Rattle.picture_limits.specs.Sides.{side, th_of, tw_of, gh_of, gw_of}
use Rattle.picture_samples.specs.Samples.{byte_of, value_of, pattern_of}
use Rattle.picture_limits.specs.Places.{patch_floats, picture, sample_place}
use Rattle.picture_limits.specs.Shape.{grid_allowed}
use Rattle.picture.specs.Preprocess.{sized, floats_of, preprocessed, resized_pixel, resized_bytes, patches_of, patches_left}
use Rattle.picture_view.specs.Known.{known, bytes_from}
use Rattle.picture_restore.specs.Restore.{restored, bytes_of, bytes_left, bytes_out}
use Rattle.picture_samples.proofs.Channels.{value-is}
use Rattle.picture_samples.proofs.Finds.{pattern-back}
use Rattle.picture_view.proofs.Known.{known_at}
use Rattle.picture_limits.proofs.Places.{patch-in, place-in-patch, picture-at, length-picture}
use Rattle.picture_patches.proofs.Patches.{length-patches}
use Rattle.picture.proofs.Places.{patches-self}
use Rattle.picture_limits.proofs.Sides.{allowed-says, sided-says, kept_same, side_same}
use Rattle.picture_limits.proofs.Shapes.{grid-side-says}
use Rattle.picture.proofs.Accepts.{Accepts, accepted, acceptance}
use Rattle.picture_resize.proofs.Same.{byte-below, pixel-same, picture-same}
use Rattle.buffers.specs.Lent.{Bytes, Floats}
use Rattle.buffers.proofs.Bytes.{bytes-tab, bytes-rows}
use Rattle.picture_limits.specs.Refusal.{unless}
use Rattle.picture.specs.Undo.{pictured, Undo, UndoCalls, Unresized, OwnBytes, Asked, Source, Eight}
use Rattle.picture.proofs.Spans.{spanned, spans}
use Rattle.picture.proofs.Given.{known_of, bytes-of, samples, given_is}

-- then the samples decide
pub decides : (s : PictureSettings) (l : List Float) (gh gw room : ℕ) → Asked s l gh gw room
    → restored s l gh gw room ≡ unless (known (pattern_of s) s.patch_size l) (Err Refusal.Sample) (Ok (pictured (gh * s.patch_size) (gw * s.patch_size)))
unfolding restored
decides s l gh gw room a = simp (a.settings, a.channels, a.grid, eq-eqb _ _ a.samples, le-leb _ _ a.fits)

-- ---- 1
-- in any room that is enough
pub record Back (s : PictureSettings) (rgb : List ℕ) (h w gh gw room : ℕ) : Type 0 where
  pub answer : restored s (patches_of s rgb h w) gh gw room ≡ Ok (pictured (th_of s h w) (tw_of s h w))
  pub bytes : bytes_of s (patches_of s rgb h w) gh gw ≡ resized_bytes s rgb h w

pub back : (s : PictureSettings) (rgb : List ℕ) (h w gh gw n room room' : ℕ) → preprocessed s (length rgb) h w room ≡ Ok (sized gh gw n)
    → th_of s h w * tw_of s h w * 3 ≤ room' → Back s rgb h w gh gw room'
back s rgb h w gh gw n room room' e r =
    let p = s.patch_size in
    let t = acceptance s (length rgb) h w room gh gw n e in
    let q = t.asks in
    let o = allowed-says s q.settings in
    let d = sided-says h w q.sides in
    let a = spanned s (max h w) h q.settings q.image d.0 in
    let b = spanned s (max h w) w q.settings q.image d.2 in
    let v = resized_pixel s rgb h w in
    let low = byte-below rgb h w (th_of s h w) (tw_of s h w) in
    let l = patches_of s rgb h w in
    let g = given_is s p (gh_of s h w) (gw_of s h w) v in
    let z : Asked s l (gh_of s h w) (gw_of s h w) room' = record {
      settings = q.settings;
      channels = q.channels;
      grid = and_both (grid_allowed s (gh_of s h w)) (grid_allowed s (gw_of s h w)) a.allowed b.allowed;
      samples = length-patches p (λ y x c. value_of s c (v y x c)) (gh_of s h w) (gw_of s h w) ∙ sym (mul_assoc (gh_of s h w) (gw_of s h w) (patch_floats p));
      fits = rw (a.span, b.span) r;
    } in
    let k : known (pattern_of s) p l ≡ true = ap (known (pattern_of s) p) g ∙ known_of (pattern_of s) (samples s q.channels) p (gh_of s h w) (gw_of s h w) v low o.patch-low in
    let answer : restored s l (gh_of s h w) (gw_of s h w) room' ≡ Ok (pictured (th_of s h w) (tw_of s h w)) = decides s l (gh_of s h w) (gw_of s h w) room' z ∙ rw (k, a.span, b.span) in
    let bytes : bytes_of s l (gh_of s h w) (gw_of s h w) ≡ resized_bytes s rgb h w =
    ap (λ (x : List Float). bytes_from (pattern_of s) p x (gh_of s h w) (gw_of s h w)) g ∙ bytes-of (pattern_of s) (samples s q.channels) p (gh_of s h w) (gw_of s h w) v low o.patch-low ∙ rw (a.span, b.span) in
    rw (t.tall, t.wide) (record { answer = answer; bytes = bytes })

pub undo : Undo
undo s rgb h w gh gw n room old e r =
    let u = back s rgb h w gh gw n room (length old) e r in
    record {
      answer = u.answer;
      bytes = u.bytes;
      output = ap (λ (x : Result Picture Refusal). bytes_left x (bytes_of s (patches_of s rgb h w) gh gw) old) u.answer ∙ ap (λ (x : List ℕ). over x old) u.bytes;
    }

-- the count, and the front of what was left
pub patches-count : (s : PictureSettings) (rgb : List ℕ) (h w room gh gw n : ℕ) → preprocessed s (length rgb) h w room ≡ Ok (sized gh gw n)
    → n ≡ length (patches_of s rgb h w)
patches-count s rgb h w room gh gw n e =
    let p = s.patch_size in
    (acceptance s (length rgb) h w room gh gw n e).count
    ∙ mul_assoc (gh_of s h w) (gw_of s h w) (patch_floats p)
    ∙ sym (length-patches p (λ y x c. value_of s c (resized_pixel s rgb h w y x c)) (gh_of s h w) (gw_of s h w))

pub patches-front : (s : PictureSettings) (rgb : List ℕ) (h w room gh gw n : ℕ) (old : List Float) → preprocessed s (length rgb) h w room ≡ Ok (sized gh gw n)
    → take n (patches_left (preprocessed s (length rgb) h w room) (patches_of s rgb h w) old) ≡ patches_of s rgb h w
patches-front s rgb h w room gh gw n old e =
    ap (λ (x : Result Patches Refusal). take n (patches_left x (patches_of s rgb h w) old)) e
    ∙ take_at (patches_of s rgb h w) _ _ (sym (patches-count s rgb h w room gh gw n e))

pub undo-calls : UndoCalls
undo-calls s rgb h w gh gw n out old e r =
    let u = undo s rgb h w gh gw n (length out) old e r in
    let f = patches-front s rgb h w (length out) gh gw n out e in
    record {
      count = patches-count s rgb h w (length out) gh gw n e;
      front = f;
      answer = ap (λ (l : List Float). restored s l gh gw (length old)) f ∙ u.answer;
      output = ap (λ (l : List Float). bytes_out s l gh gw old) f ∙ u.output;
    }

-- ---- 2
pub sides-kept : (s : PictureSettings) (h w : ℕ) → allowed s ≡ true → Unresized s h w → (th_of s h w ≡ h) × (tw_of s h w ≡ w)
sides-kept s h w e t =
    let n = s.image_size in
    let r = s.resize_rule in
    let o = allowed-says s e in
    let a : 0 < align s = mul-pos o.patch-low o.merge_low in
    let m : max h w ≤ n = max-le t.tall-held t.wide-held in (
      ap (side (align s) n) (kept_same r n (max h w) h m) ∙ side_same (align s) n h a t.tall t.tall-held,
      ap (side (align s) n) (kept_same r n (max h w) w m) ∙ side_same (align s) n w a t.wide t.wide-held,
    )

pub own-bytes : OwnBytes
own-bytes s rgb h w gh gw n room b e t =
    let q = (acceptance s (length rgb) h w room gh gw n e).asks in
    let o = allowed-says s q.settings in
    let k = sides-kept s h w q.settings t in
    rw (k.0, k.1) (picture-same rgb h w b (omega (arith, t.tall-held, o.image-high)) (omega (arith, t.wide-held, o.image-high)) q.bytes)

-- ---- 3
-- the sample of a found byte is what it was found by
sample-of-byte : (s : PictureSettings) (c : ℕ) (v : Float) → T (fits binary32 v) → byte_of (pattern_of s) c (to_bits binary32 v) < 256 → value_of s c (byte_of (pattern_of s) c (to_bits binary32 v)) ≡ v
sample-of-byte s c v f h =
    sym (value-is s.mean s.deviation c (byte_of (pattern_of s) c (to_bits binary32 v)))
    ∙ ap (of_bits binary32) (pattern-back (pattern_of s) c (to_bits binary32 v) h)
    ∙ of_bits-to_bits binary32 v f

-- the restored bytes are such a picture
source : (s : PictureSettings) (l : List Float) (gh gw room : ℕ) → Asked s l gh gw room → Floats l
    → known (pattern_of s) s.patch_size l ≡ true → Source s l gh gw
source s l gh gw room z f k =
    let p = s.patch_size in
    let o = allowed-says s z.settings in
    let h = gh * p in
    let w = gw * p in
    let i = and_left (grid_allowed s gh) (grid_allowed s gw) z.grid in
    let j = and_right (grid_allowed s gh) (grid_allowed s gw) z.grid in
    let held : max h w ≤ s.image_size = max-le (grid-side-says s gh o.patch-low i).high (grid-side-says s gw o.patch-low j).high in
    let a = spans s (max h w) gh z.settings i held in
    let b = spans s (max h w) gw z.settings j held in
    let v : ℕ → ℕ → ℕ → ℕ = λ y x c. byte_of (pattern_of s) c (to_bits binary32 (get_or l (sample_place p gw y x c) nan)) in
    let rgb = picture h w v in
    let low : (y x c : ℕ) → y < h → x < w → c < 3 → v y x c < 256 = λ y x c hy hx hc.
    known_at (pattern_of s) p (gh * gw) l z.samples k (y / p * gw + x / p) c (y % p * p + x % p) (patch-in p gh gw y x o.patch-low hy hx) hc (place-in-patch p y x o.patch-low) in
    let bs : Bytes rgb = bytes-rows h _ (λ y hy. bytes-rows w _ (λ x hx. bytes-tab 3 _ (λ c hc. low y x c hy hx hc))) in
    let len : length rgb ≡ h * w * 3 = length-picture h w v ∙ sym (mul_assoc h w 3) in
    let q : Accepts s (length rgb) h w (floats_of s h w) = record {
      settings = z.settings;
      channels = z.channels;
      sides = and_both (within 1 8192 h) (within 1 8192 w) (and_both (leb 1 h) (leb h 8192) (le-leb _ _ a.low) (le-leb h 8192 (omega (arith, a.high)))) (and_both (leb 1 w) (leb w 8192) (le-leb _ _ b.low) (le-leb w 8192 (omega (arith, b.high))));
      bytes = len;
      image = a.image;
      fits = omega arith;
    } in
    record {
      rgb = rgb;
      h = h;
      w = w;
      room = floats_of s h w;
      n = floats_of s h w;
      bytes = bs;
      accepted = accepted s (length rgb) h w (floats_of s h w) q ∙ ap (λ (i : ℕ). Ok (sized i (gw_of s h w) (floats_of s h w))) a.back ∙ ap (λ (i : ℕ). Ok (sized gh i (floats_of s h w))) b.back;
      given =
          rw (a.back, b.back, a.same, b.same)
          (rows_ext gh _ _ (λ i hi. rows_ext gw _ _ (λ j hj. rows_ext 3 _ _ (λ c hc. rows_ext p _ _ (λ t ht. tab-ext p _ _ (λ u hu.
          let y = i * p + t in
          let x = j * p + u in
          let hy : y < h = omega (arith, fit p hi) in
          let hx : x < w = omega (arith, fit p hj) in
          ap (value_of s c) (pixel-same rgb h w y x c bs (omega (arith, a.high)) (omega (arith, b.high)) hy hx ∙ picture-at h w v 0 y x c hy hx hc)
          ∙ sample-of-byte s c (get_or l (sample_place p gw y x c) nan) (f (sample_place p gw y x c)) (low y x c hy hx hc))))))
          ∙ patches-self p gh gw l o.patch-low z.samples);
    }

-- patches of an accepted picture are known
seen : (s : PictureSettings) (l : List Float) (gh gw room : ℕ) → Asked s l gh gw room → Source s l gh gw → restored s l gh gw room ≡ Ok (pictured (gh * s.patch_size) (gw * s.patch_size))
seen s l gh gw room z c =
    let t = acceptance s (length c.rgb) c.h c.w c.room gh gw c.n c.accepted in
    let q = t.asks in
    let o = allowed-says s q.settings in
    let p = s.patch_size in
    let v = resized_pixel s c.rgb c.h c.w in
    let low = byte-below c.rgb c.h c.w (th_of s c.h c.w) (tw_of s c.h c.w) in
    let k : known (pattern_of s) p l ≡ true =
    rw (← c.given) (ap (known (pattern_of s) p) (given_is s p (gh_of s c.h c.w) (gw_of s c.h c.w) v) ∙ known_of (pattern_of s) (samples s q.channels) p (gh_of s c.h c.w) (gw_of s c.h c.w) v low o.patch-low) in
    decides s l gh gw room z ∙ rw k

pub eight : Eight
eight s l gh gw room f z = record {
  none = λ e c. let g = seen s l gh gw room z c in let x : ◌≡◌ {A = ℕ} 0 1 = cc in omega arith;
  refused = λ c. decides s l gh gw room z ∙ last (known (pattern_of s) s.patch_size l) refl c;
}
  where
    last : (b : Bool) → known (pattern_of s) s.patch_size l ≡ b → (Source s l gh gw → ⊥) → unless b (Err Refusal.Sample) (Ok (pictured (gh * s.patch_size) (gw * s.patch_size))) ≡ Err Refusal.Sample
    last true e c = absurd (c (source s l gh gw room z f e))
    last false e c = refl
