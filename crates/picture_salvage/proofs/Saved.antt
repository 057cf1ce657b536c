-- The three statements of specs/Saved.antt. Assumes nothing.
use mathlib.Core.Path.{◌≡◌, refl, sym, ap, ◌∙◌, subst}
use mathlib.Core.Bool.{Bool, true, false, not, ◌&&◌, cond, true≢false}
use mathlib.Core.List.{List}
use Prim.Native.Nat.{ℕ, ◌+◌, ◌*◌, ◌/◌, ◌%◌, ◌≤◌, ◌<◌}
use native.Mathlib.Nat.{mod-lt, div-add-mod', mul-pos}
use native.Mathlib.Omega.{arith}
use borrow.Author.Tests.{leb-true, ltb-true, eqb-true, lt-ltb, le-ltb}
use native.Mathlib.Decide.{dec_lt}
use lib.Dec.{T, eqb, leb, ltb}
use lib.ListN.{length, get_or}
use lib.Ieee.{Float, nan, inf, fin, binary32, is_nan, nan_bits, of_bits, to_bits}
use lib.Ieee.Bits.{to_bits-of_bits, nan_bits_is}
use Rattle.buffers.specs.Rows.{tab, all, count}
use Rattle.buffers.specs.Region.{region}
use Rattle.buffers.specs.Lent.{Words}
use Rattle.buffers.proofs.Lists.{length-tab, get_or-tab, all-at, all-ext, rows_ext, tab-ext}
use Rattle.buffers.proofs.Counts.{count-ext, count_at, none-fails, one-fails, passes_at, entry_at, length-entries}
use Rattle.picture_limits.specs.declared.PictureSettings.{PictureSettings}
use Rattle.picture_limits.specs.declared.Refusal.{Refusal}
use Rattle.picture_limits.specs.Refusal.{unless}
use Rattle.picture_limits.specs.Settings.{allowed}
use Rattle.picture_limits.specs.Shape.{grid_allowed}
use Rattle.picture_limits.specs.Places.{patch_floats, sample_place}
use Rattle.picture_limits.proofs.Places.{picture-at, patch-in, place-in-patch, at_in}
use Rattle.picture_limits.proofs.Sides.{allowed-says}
use Rattle.picture_samples.specs.Samples.{channels_allowed, byte_of, entry, sample_table, value, value_of, pattern_of}
use Rattle.picture_samples.specs.inner.Clean.{Clean}
use Rattle.picture_samples.proofs.Channels.{entry-of, allowed_of, clean_of}
use Rattle.picture_samples.proofs.Finds.{byte-same, missed, pattern-back}
use Rattle.picture_spot.specs.Bytes.{known_at}
use Rattle.picture_view.proofs.Known.{channel-at}
use Rattle.std.specs.Prelude.{Result, Ok, Err}
use Rattle.picture_restore.specs.declared.Picture.{Picture}
use Rattle.picture_view.specs.Known as K
use Rattle.picture_view.specs.Known.{known}
use Rattle.picture_restore.specs.Restore.{restored, bytes_of}
use Rattle.picture_salvage.specs.declared.Salvaged.{Salvaged}
use Rattle.picture_salvage.specs.Salvage as Sal
use Rattle.picture_salvage.specs.Salvage.{bits_of, bad, bad_samples, entry_of, listed, saved, saved_from, salvaged}
use Rattle.picture_salvage.specs.Saved.{floats_of, Agreed, Agree, Came, Back, Listing, Listed, List-says}

-- restore's answer with these sides
abbrev pictured : ℕ → ℕ → Result Picture Refusal
pictured h w = Ok (record { height = h; width = w })

-- ---- what an acceptance says
record Accepts (s : PictureSettings) (l : List ℕ) (gh gw room h w n : ℕ) : Type 0 where
  settings : allowed s ≡ true
  channels : channels_allowed (value_of s) ≡ true
  grid : grid_allowed s gh && grid_allowed s gw ≡ true
  samples : eqb (length l) (gh * gw * patch_floats s.patch_size) ≡ true
  fits : leb (gh * s.patch_size * (gw * s.patch_size) * 3) room ≡ true
  height : gh * s.patch_size ≡ h
  width : gw * s.patch_size ≡ w
  counted : bad_samples (pattern_of s) s.patch_size l ≡ n

accepted : (s : PictureSettings) (l : List ℕ) (gh gw room space h w n : ℕ) → salvaged s l gh gw room space ≡ Ok (record { height = h; width = w; bad = n }) → Accepts s l gh gw room h w n
unfolding salvaged
accepted s l gh gw room space h w n =
    go (allowed s) refl (channels_allowed (value_of s)) refl (grid_allowed s gh && grid_allowed s gw) refl (eqb (length l) (gh * gw * patch_floats s.patch_size)) refl
    (leb (gh * s.patch_size * (gw * s.patch_size) * 3) room) refl (leb (bad_samples (pattern_of s) s.patch_size l) (space / 3))
  where
    never : (r : Refusal) → ◌≡◌ {A = Result Salvaged Refusal} (Err r) (Ok (record { height = h; width = w; bad = n })) → ⊥
    never r e = let z : ◌≡◌ {A = ℕ} 0 1 = cc in omega arith

    go : (a : Bool) → allowed s ≡ a → (d : Bool) → channels_allowed (value_of s) ≡ d → (g : Bool) → grid_allowed s gh && grid_allowed s gw ≡ g
        → (m : Bool) → eqb (length l) (gh * gw * patch_floats s.patch_size) ≡ m → (f : Bool) → leb (gh * s.patch_size * (gw * s.patch_size) * 3) room ≡ f → (b : Bool)
        → unless {A = Result Salvaged Refusal} a (Err Refusal.Setting) (unless d (Err Refusal.Channel) (unless g (Err Refusal.Grid) (unless m (Err Refusal.PatchesLength) (unless f (Err Refusal.Output) (unless b (Err Refusal.List)
        (Ok (record { height = gh * s.patch_size; width = gw * s.patch_size; bad = bad_samples (pattern_of s) s.patch_size l }))))))) ≡ Ok (record { height = h; width = w; bad = n })
        → Accepts s l gh gw room h w n
    go false ea d ed g eg m em f ef b e = absurd (never Refusal.Setting e)
    go true ea false ed g eg m em f ef b e = absurd (never Refusal.Channel e)
    go true ea true ed false eg m em f ef b e = absurd (never Refusal.Grid e)
    go true ea true ed true eg false em f ef b e = absurd (never Refusal.PatchesLength e)
    go true ea true ed true eg true em false ef b e = absurd (never Refusal.Output e)
    go true ea true ed true eg true em true ef false e = absurd (never Refusal.List e)
    go true ea true ed true eg true em true ef true e = record { settings = ea; channels = ed; grid = eg; samples = em; fits = ef; height = ap Sal.height e; width = ap Sal.width e; counted = ap Sal.bad_of e }

not_yes : (b : Bool) → not b ≡ true → b ≡ false
not_yes true e = sym e
not_yes false e = refl

not-not : (b : Bool) → not b ≡ false → b ≡ true
not-not true e = refl
not-not false e = sym e

-- ---- 1. a pattern and the bits of its float have the same byte: both have none where the pattern is a NaN's
nan-missed : (t : List ℕ) → Clean t → (c : ℕ) → c < 3 → (b : ℕ) → nan_bits binary32 b ≡ true → byte_of (entry t) c b ≡ 256
nan-missed t n c h b e = missed (entry t) c b (λ j l q. subst T (ap not (ap (nan_bits binary32) q ∙ e)) (n.clean c j h l))

nan-none : (t : List ℕ) → Clean t → (c : ℕ) → c < 3 → (v : Float) → is_nan v ≡ true → byte_of (entry t) c (to_bits binary32 v) ≡ 256
unfolding is_nan to_bits nan_bits
nan-none t n c h nan e = nan-missed t n c h (to_bits binary32 nan) refl
nan-none t n c h (inf s) e = absurd (true≢false (sym e))
nan-none t n c h (fin s m x) e = absurd (true≢false (sym e))

read_same : (s : PictureSettings) → channels_allowed (value_of s) ≡ true → (c b : ℕ) → c < 3 → b < 4294967296 → byte_of (pattern_of s) c (to_bits binary32 (of_bits binary32 b)) ≡ byte_of (pattern_of s) c b
read_same s a c b h l =
    let t = sample_table s.mean s.deviation in
    go (clean_of t (allowed_of s.mean s.deviation t refl ∙ a)) (λ x. sym (byte-same (entry t) (pattern_of s) (entry-of s.mean s.deviation t refl) c x h)) (is_nan (of_bits binary32 b)) refl
  where
    go : Clean (sample_table s.mean s.deviation) → ((x : ℕ) → byte_of (pattern_of s) c x ≡ byte_of (entry (sample_table s.mean s.deviation)) c x) → (q : Bool) → is_nan (of_bits binary32 b) ≡ q
        → byte_of (pattern_of s) c (to_bits binary32 (of_bits binary32 b)) ≡ byte_of (pattern_of s) c b
    go n same false q = ap (byte_of (pattern_of s) c) (to_bits-of_bits binary32 b l (subst (λ (x : Bool). T (not x)) (sym q) tt))
    go n same true q =
        let t = sample_table s.mean s.deviation in
        same (to_bits binary32 (of_bits binary32 b)) ∙ nan-none t n c h (of_bits binary32 b) q ∙ sym (same b ∙ nan-missed t n c h b (nan_bits_is binary32 b ∙ q))

module _ (s : PictureSettings) (l : List ℕ) (a : channels_allowed (value_of s) ≡ true) (u : Words l) where
  bits-same : (i c : ℕ) → i < length l → c < 3 → byte_of (pattern_of s) c (K.bits_of (floats_of l) i) ≡ byte_of (pattern_of s) c (bits_of l i)
  bits-same i c h hc =
      ap (λ (v : Float). byte_of (pattern_of s) c (to_bits binary32 v)) (get_or-tab (length l) i (λ j. of_bits binary32 (bits_of l j)) nan h) ∙ read_same s a c (bits_of l i) hc (u i)

  long : length (floats_of l) ≡ length l
  long = length-tab (length l) _

  -- restore knows the floats where salvage counts none
  known_is : known (pattern_of s) s.patch_size (floats_of l) ≡ all (length l) (known_at (pattern_of s) s.patch_size (bits_of l))
  unfolding known
  known_is =
      let p = s.patch_size in
      ap (λ (n : ℕ). all n (known_at (pattern_of s) p (K.bits_of (floats_of l)))) long
      ∙ all-ext (length l) _ _ (λ i h. ap (λ (b : ℕ). ltb b 256) (bits-same i (i / (p * p) % 3) h (mod-lt (i / (p * p)) (omega arith))))

  answer : (gh gw room h w n : ℕ) → Accepts s l gh gw room h w n
      → restored s (floats_of l) gh gw room ≡ unless (known (pattern_of s) s.patch_size (floats_of l)) (Err Refusal.Sample) (pictured (gh * s.patch_size) (gw * s.patch_size))
  unfolding restored
  answer gh gw room h w n k = rw (k.settings, k.channels, k.grid, long, k.samples, k.fits) refl

-- a sample of the picture lies among the samples, and is of its channel
inside : (s : PictureSettings) (l : List ℕ) (gh gw : ℕ) → allowed s ≡ true → eqb (length l) (gh * gw * patch_floats s.patch_size) ≡ true
    → (y x c : ℕ) → y < gh * s.patch_size → x < gw * s.patch_size → c < 3
    → (sample_place s.patch_size gw y x c < length l) × (sample_place s.patch_size gw y x c / (s.patch_size * s.patch_size) % 3 ≡ c)
inside s l gh gw a m y x c hy hx hc =
    let p = s.patch_size in
    let q : 0 < p = (allowed-says s a).patch-low in
    let u = patch-in p gh gw y x q hy hx in
    let v = place-in-patch p y x q in
    let z : length l ≡ gh * gw * patch_floats p = eqb-true _ _ m in
    (omega (arith, z, at_in p (gh * gw) (y / p * gw + x / p) c (y % p * p + x % p) u hc v), channel-at p (y / p * gw + x / p) c (y % p * p + x % p) hc v)

-- what is known of a sample, by its channel
in-channel : (k : ℕ → ℕ → ℕ) (p : ℕ) (l : List ℕ) (i c : ℕ) → i / (p * p) % 3 ≡ c → known_at k p (bits_of l) i ≡ ltb (byte_of k c (bits_of l i)) 256
in-channel k p l i c e = ap (λ (x : ℕ). ltb (byte_of k x (bits_of l i)) 256) e

-- where a byte is below 256, it is saved as it is
below : (b : ℕ) → b < 256 → saved b ≡ b
below b h = rw (lt-ltb b 256 h) refl

pub agree : Agree
agree s l gh gw room space h w n u e =
    let k = accepted s l gh gw room space h w n e in
    let p = s.patch_size in
    let f : ℕ → Bool = known_at (pattern_of s) p (bits_of l) in
    record {
      accepts = λ z. answer s l k.channels u gh gw room h w n k ∙ rw (known_is s l k.channels u, none-fails (length l) f (k.counted ∙ z)) (ap (λ (x : ℕ). pictured x (gw * p)) k.height ∙ ap (pictured h) k.width);
      bytes = λ z.
          rows_ext (gh * p) _ _ (λ y hy. rows_ext (gw * p) _ _ (λ x hx. tab-ext 3 _ _ (λ c hc.
          let i = sample_place p gw y x c in
          let o = inside s l gh gw k.settings k.samples y x c hy hx hc in
          let t : byte_of (pattern_of s) c (bits_of l i) < 256 = ltb-true (byte_of (pattern_of s) c (bits_of l i)) 256 (sym (in-channel (pattern_of s) p l i c o.1) ∙ all-at (length l) f (none-fails (length l) f (k.counted ∙ z)) i o.0) in
          below (byte_of (pattern_of s) c (bits_of l i)) t ∙ sym (bits-same s l k.channels u i c o.0 hc))));
      refuses = λ z. answer s l k.channels u gh gw room h w n k ∙ rw (known_is s l k.channels u, one-fails (length l) f (omega (arith, k.counted, z))) refl;
    }

-- ---- 2
pub back : Back
back s l gh gw room space h w n e y x c hy hx hc =
    let k = accepted s l gh gw room space h w n e in
    let p = s.patch_size in
    let i = sample_place p gw y x c in
    let b = byte_of (pattern_of s) c (bits_of l i) in
    let ty : y < gh * p = omega (arith, k.height) in
    let tx : x < gw * p = omega (arith, k.width) in
    let o = inside s l gh gw k.settings k.samples y x c ty tx hc in
    let v : get_or (saved_from (pattern_of s) p l gh gw) ((y * w + x) * 3 + c) 0 ≡ saved b =
    ap (λ (z : ℕ). get_or (saved_from (pattern_of s) p l gh gw) ((y * z + x) * 3 + c) 0) (sym k.width) ∙ picture-at (gh * p) (gw * p) _ 0 y x c ty tx hc in
    let good : bad (pattern_of s) p l i ≡ false → b < 256 = λ q. ltb-true b 256 (sym (in-channel (pattern_of s) p l i c o.1) ∙ not-not (known_at (pattern_of s) p (bits_of l) i) q) in
    record {
      byte = λ q. rw (v, below b (good q)) (good q);
      formula = λ q. rw (v, below b (good q)) (pattern-back (pattern_of s) c (bits_of l i) (good q));
      lost = λ q. v ∙ ap (λ (z : Bool). cond z b 0) (sym (in-channel (pattern_of s) p l i c o.1) ∙ not_yes (known_at (pattern_of s) p (bits_of l) i) q);
    }

-- ---- 3
pub list-says : List-says
list-says s l gh gw room space h w n e =
    let k = accepted s l gh gw room space h w n e in
    let p = s.patch_size in
    let f : ℕ → Bool = bad (pattern_of s) p l in
    let o : 0 < patch_floats p = omega (arith, mul-pos (allowed-says s k.settings).patch-low (allowed-says s k.settings).patch-low) in
    record {
      counted = sym k.counted;
      long = length-entries (length l) f (entry_of p l) (λ i. refl) ∙ ap (λ (x : ℕ). x * 3) k.counted;
      each = λ i m q. omega (arith, count_at (length l) i f m q, k.counted);
      order = λ i j m q. count_at j i f m q;
      only = λ j m.
          let z = passes_at (length l) f j (omega (arith, k.counted, m)) in
          record { at = z.at; inside = z.inside; bad-one = z.passes; before = z.numbered; entry = ap (λ (x : ℕ). region (listed (pattern_of s) p l) (x * 3) 3) (sym z.numbered) ∙ entry_at (length l) z.at f (entry_of p l) (λ i. refl) z.inside z.passes };
      place = λ i. div-add-mod' i (patch_floats p);
      in-patch = λ i. mod-lt i o;
    }
