-- What the answer says, for every input: `text` exactly where the input is outside the form, and the bytes of a picture
-- that is not resized come back. Assumes nothing.
use mathlib.Core.Path.{◌≡◌, refl, ap, ◌∙◌, subst}
use mathlib.Core.Bool.{Bool, true, false, cond}
use mathlib.Core.List.{List, [], ◌∷◌, ◌++◌}
use Rattle.std.specs.Prelude.{Option, None, Some}
use Prim.Native.Nat.{ℕ, suc, ◌+◌, ◌-◌, ◌*◌, ◌/◌, ◌%◌, ◌≤◌, ◌<◌, max}
use native.Mathlib.Nat.{le_refl}
use native.Mathlib.Omega.{arith}
use borrow.Author.Tests.{ltb-false, leb-true}
use lib.Dec.{eqb, ltb, leb}
use lib.ListN.{length, get_or}
use Rattle.picture_limits.specs.declared.PictureSettings.{PictureSettings}
use Rattle.picture_limits.specs.declared.Refusal.{Refusal}
use Rattle.picture_limits.specs.declared.Refusal.TheVariants.{Setting, Side, RgbLength, ImageSize, Output, Grid, PatchesLength, Sample, WeightsLength, TableLength, Scratch, NotFinite, ConfigText, ConfigDepth, ConfigVision, Header, Tensor, Offsets, Channel, Tile, KeyHeld, NoVectors, PoolFull, KeyUnknown, PoolSlice}
use Rattle.picture.specs.Undo as Undo
use Rattle.picture.specs.declared.Patches.{Patches}
use Rattle.std.specs.Prelude.{Result, Ok, Err}
use Rattle.picture_restore.specs.declared.Picture.{Picture}
use Rattle.picture_limits.specs.Refusal.{number}
use Rattle.picture_limits.specs.Settings.{align}
use Rattle.picture_limits.specs.Sides.{th_of, tw_of, gw_of}
use Rattle.picture.specs.Preprocess.{sized, floats_of, preprocessed, resized_pixel, resized_bytes, patches_of}
use Rattle.picture_restore.specs.Restore.{restored, bytes_of}
use Rattle.buffers.specs.Lent.{Bytes}
use Rattle.picture_resize.proofs.Same.{byte-below}
use Rattle.picture_limits.proofs.Sides.{allowed-says, sided-says}
use Rattle.picture_limits.proofs.Shapes.{grid-side-says}
use Rattle.picture_limits.proofs.Places.{times, length-picture}
use Rattle.picture.proofs.Accepts.{acceptance}
use Rattle.buffers.proofs.Bytes.{bytes-append, no_bytes, one_byte, bytes-tab, bytes-rows}
use Rattle.picture.specs.Undo.{Unresized}
use Rattle.picture.proofs.Spans.{spanned}
use Rattle.picture.proofs.Undo.{back, own-bytes, sides-kept}
use Rattle.number_floats.proofs.Unique.{one}
use Rattle.unpatch_form.specs.Words.{word, ◌>>=◌, one_piece, end, joined, behind}
use Rattle.unpatch_form.specs.Decimal.{decimal}
use Rattle.unpatch_form.specs.Hex.{nibble, pair, hex_pairs, hex_bytes}
use Rattle.unpatch_form.specs.Form.{Request, fields, lines, row_fields, read_row, read_rows, read_vision, read_picture, request_of, pictured, form}
use Rattle.unpatch_text.specs.Print.{last_digits, refused_line, outside_line, grid_line, row_lines}
use Rattle.unpatch_text.specs.Answer.{settings, restored_text, preprocessed_text, ran, answered, answer, length_left, text_left}
use Rattle.unpatch_form.proofs.Limits.{some-injective, none-ne-some, read-on, read_first, read-end, nibble-small}
use Rattle.unpatch_text.proofs.Back.{rows_back}

-- ---- any two results that satisfy the contract are equal
abbrev pub Unpatches : List ℕ → List ℕ → ℕ → List ℕ → Type 0
Unpatches input old r out = (r ≡ length_left (answer input) old) × (out ≡ text_left (answer input) old)

pub unpatch-unique : (input old : List ℕ) (r q : ℕ) (x y : List ℕ) → Unpatches input old r x → Unpatches input old q y → (r ≡ q) × (x ≡ y)
unpatch-unique input old r q x y a b = (one _ a.0 b.0, one _ a.1 b.1)

-- ---- `text` is answered exactly where the input is outside the form
-- a number's first digit stands where the t of `text` would
digit-there : (n d : ℕ) → get_or (refused_line n) 8 0 ≡ d → d < 58 → refused_line n ≡ outside_line → ⊥
digit-there n d e h f = let z : get_or (refused_line n) 8 0 ≡ 116 = ap (λ (l : List ℕ). get_or l 8 0) f in omega (arith, e, z)

refused-differs : (r : Refusal) → refused_line (number r) ≡ outside_line → ⊥
unfolding refused_line last_digits
refused-differs Setting = digit-there 1 49 refl (omega arith)
refused-differs Side = digit-there 2 50 refl (omega arith)
refused-differs RgbLength = digit-there 3 51 refl (omega arith)
refused-differs ImageSize = digit-there 4 52 refl (omega arith)
refused-differs Output = digit-there 5 53 refl (omega arith)
refused-differs Grid = digit-there 6 54 refl (omega arith)
refused-differs PatchesLength = digit-there 7 55 refl (omega arith)
refused-differs Sample = digit-there 8 56 refl (omega arith)
refused-differs WeightsLength = digit-there 9 57 refl (omega arith)
refused-differs TableLength = digit-there 10 49 refl (omega arith)
refused-differs Scratch = digit-there 11 49 refl (omega arith)
refused-differs NotFinite = digit-there 12 49 refl (omega arith)
refused-differs ConfigText = digit-there 13 49 refl (omega arith)
refused-differs ConfigDepth = digit-there 14 49 refl (omega arith)
refused-differs ConfigVision = digit-there 15 49 refl (omega arith)
refused-differs Header = digit-there 16 49 refl (omega arith)
refused-differs Tensor = digit-there 17 49 refl (omega arith)
refused-differs Offsets = digit-there 18 49 refl (omega arith)
refused-differs Channel = digit-there 19 49 refl (omega arith)
refused-differs Tile = digit-there 20 50 refl (omega arith)
refused-differs Refusal.List = digit-there 21 50 refl (omega arith)
refused-differs Refusal.Tokens = digit-there 22 50 refl (omega arith)
refused-differs KeyHeld = digit-there 23 50 refl (omega arith)
refused-differs NoVectors = digit-there 24 50 refl (omega arith)
refused-differs PoolFull = digit-there 25 50 refl (omega arith)
refused-differs KeyUnknown = digit-there 26 50 refl (omega arith)
refused-differs PoolSlice = digit-there 27 50 refl (omega arith)

grid-differs : (a b d : ℕ) (l : List ℕ) → grid_line a b d ++ l ≡ outside_line → ⊥
unfolding grid_line
grid-differs a b d l e = let z : ◌≡◌ {A = ℕ} 103 114 = ap (λ (l : List ℕ). get_or l 0 0) e in omega arith

restored-differs : (s : PictureSettings) (gh gw : ℕ) (bs : List ℕ) (o : Result Picture Refusal) → restored_text s gh gw bs o ≡ outside_line → ⊥
restored-differs s gh gw bs (Ok o) = grid-differs gh gw _ (row_lines o.height (o.width * 3) bs)
restored-differs s gh gw bs (Err r) = refused-differs r

ran-differs : (s : PictureSettings) (rgb : List ℕ) (h w : ℕ) → ran s rgb h w ≡ outside_line → ⊥
unfolding ran
ran-differs s rgb h w = go (preprocessed s (length rgb) h w (floats_of s h w))
  where
    go : (o : Result Patches Refusal) → preprocessed_text s rgb h w o ≡ outside_line → ⊥
    go (Ok o) = restored-differs s o.grid_h o.grid_w _ (restored s (patches_of s rgb h w) o.grid_h o.grid_w (o.grid_h * s.patch_size * (o.grid_w * s.patch_size) * 3))
    go (Err r) = refused-differs r

pub outside-then : (t : List ℕ) → form t ≡ None → answer t ≡ outside_line
unfolding answer
outside-then t e = ap answered e

pub outside-only : (t : List ℕ) → answer t ≡ outside_line → form t ≡ None
unfolding answer
outside-only t e = go (form t) e
  where
    go : (o : Option Request) → answered o ≡ outside_line → o ≡ None
    go None f = refl
    go (Some q) f = absurd (ran-differs (settings q) q.rgb q.height q.width f)

-- ---- what is read are bytes
pair_small : (a b x : ℕ) → pair a b ≡ Some x → x < 256
unfolding pair
pair_small a b x e =
    let r = read-on (nibble a) (λ y. nibble b >>= λ z. Some (y * 16 + z)) x e in
    let q = read-on (nibble b) (λ z. Some (r.0 * 16 + z)) x r.2 in
    omega (arith, some-injective (r.0 * 16 + q.0) x q.2, nibble-small a r.0 r.1, nibble-small b q.0 q.1)

-- what is read behind a piece
read-joined : (l : List ℕ) (o : Option (List ℕ)) (bs : List ℕ) → joined l o ≡ Some bs → (m : List ℕ) × (o ≡ Some m) × (l ++ m ≡ bs)
read-joined l None bs e = absurd (none-ne-some bs e)
read-joined l (Some m) bs e = (m, refl, some-injective (l ++ m) bs e)

pairs-bytes : (l bs : List ℕ) → hex_pairs l ≡ Some bs → Bytes bs
unfolding hex_pairs
pairs-bytes [] bs e = subst Bytes (some-injective [] bs e) no_bytes
pairs-bytes (a ∷ []) bs e = absurd (none-ne-some bs e)
pairs-bytes (a ∷ (b ∷ l)) bs e =
    let r = read-on (pair a b) (λ x. joined (x ∷ []) (hex_pairs l)) bs e in
    let q = read-joined (r.0 ∷ []) (hex_pairs l) bs r.2 in
    subst Bytes q.2 (bytes-append (r.0 ∷ []) q.0 (one_byte r.0 (pair_small a b r.0 r.1)) (pairs-bytes l q.0 q.1))

hex-bytes : (l bs : List ℕ) → hex_bytes l ≡ Some bs → Bytes bs
hex-bytes [] bs e = absurd (none-ne-some bs e)
hex-bytes (a ∷ l) bs e = pairs-bytes (a ∷ l) bs e

row-bytes : (i : ℕ) (l bs : List ℕ) → read_row i l ≡ Some bs → Bytes bs
unfolding read_row
row-bytes i l bs e =
    let x = read-on (behind (word "row") (fields l)) (row_fields i) bs e in
    let y = read_first decimal (λ k. one_piece hex_bytes λ b. end (cond (eqb k i) (Some b) None)) x.0 bs x.2 in
    let z = read_first hex_bytes (λ b. end (cond (eqb y.2 i) (Some b) None)) y.1 bs y.4 in
    go (eqb y.2 i) z.0 z.2 z.3 (read-end (cond (eqb y.2 i) (Some z.2) None) z.1 bs z.4)
  where
    go : (t : Bool) (p b : List ℕ) → hex_bytes p ≡ Some b → cond t (Some b) None ≡ Some bs → Bytes bs
    go true p b f g = subst Bytes (some-injective b bs g) (hex-bytes p b f)
    go false p b f g = absurd (none-ne-some bs g)

rows-bytes : (i : ℕ) (ls : List (List ℕ)) (bs : List ℕ) → read_rows i ls ≡ Some bs → Bytes bs
unfolding read_rows
rows-bytes i [] bs e = absurd (none-ne-some bs e)
rows-bytes i ([] ∷ []) bs e = subst Bytes (some-injective [] bs e) no_bytes
rows-bytes i ((b ∷ l) ∷ []) bs e = absurd (none-ne-some bs e)
rows-bytes i (l ∷ (m ∷ ms)) bs e =
    let r = read-on (read_row i l) (λ x. joined x (read_rows (suc i) (m ∷ ms))) bs e in
    let q = read-joined r.0 (read_rows (suc i) (m ∷ ms)) bs r.2 in
    subst Bytes q.2 (bytes-append r.0 q.0 (row-bytes i l r.0 r.1) (rows-bytes (suc i) (m ∷ ms) q.0 q.1))

pub form-bytes : (t : List ℕ) (q : Request) → form t ≡ Some q → Bytes q.rgb
unfolding form
form-bytes t q e = go (leb (length t) 49152) e
  where
    go : (b : Bool) → cond b (one_piece read_vision (λ s. pictured s) (lines t)) None ≡ Some q → Bytes q.rgb
    go false f = absurd (none-ne-some q f)
    go true f =
        let x = read_first read_vision (λ s. pictured s) (lines t) q f in
        let y = read_first read_picture (λ p ls. read_rows 0 ls >>= request_of x.2 p) x.1 q x.4 in
        let z = read-on (read_rows 0 y.1) (request_of x.2 y.2) q y.4 in
        let k : z.0 ≡ q.rgb = ap (λ (r : Request). r.rgb) (some-injective _ q z.2) in
        subst Bytes k (rows-bytes 0 y.1 z.0 z.1)

-- ---- the picture that is printed
-- the answer is a grid and the rows of a picture; and these, read as the form reads rows, are the picture's bytes, joined
pub record Printed (t : List ℕ) (gh gw m h w : ℕ) (bs : List ℕ) : Type 0 where
  pub text : answer t ≡ grid_line gh gw (gh * gw / (m * m)) ++ row_lines h (w * 3) bs
  pub read : read_rows 0 (lines (row_lines h (w * 3) bs)) ≡ Some bs

module _ (t : List ℕ) (q : Request) (gh gw n : ℕ) (inside : form t ≡ Some q)
    (call : preprocessed (settings q) (length q.rgb) q.height q.width (floats_of (settings q) q.height q.width) ≡ Ok (sized gh gw n)) where
  -- an accepted picture: the resized one
  pub printed : Printed t gh gw q.merge (th_of (settings q) q.height q.width) (tw_of (settings q) q.height q.width) (resized_bytes (settings q) q.rgb q.height q.width)
  unfolding answer ran
  printed =
      let s = settings q in
      let h = q.height in
      let w = q.width in
      let p = s.patch_size in
      let a = acceptance s (length q.rgb) h w (floats_of s h w) gh gw n call in
      let d = sided-says h w a.asks.sides in
      let tall = spanned s (max h w) h a.asks.settings a.asks.image d.0 in
      let wide = spanned s (max h w) w a.asks.settings a.asks.image d.2 in
      let v = resized_pixel s q.rgb h w in
      let low = byte-below q.rgb h w (th_of s h w) (tw_of s h w) in
      let bs = bytes-rows (th_of s h w) _ (λ y hy. bytes-rows (tw_of s h w) _ (λ x hx. bytes-tab 3 _ (λ c hc. low y x c))) in
      let gt : gh * p ≡ th_of s h w = ap (λ (k : ℕ). k * p) a.tall ∙ tall.span in
      let gd : gw * p ≡ tw_of s h w = ap (λ (k : ℕ). k * p) a.wide ∙ wide.span in
      let fits : th_of s h w * tw_of s h w * 3 ≤ gh * p * (gw * p) * 3 = rw (gt, gd) (le_refl (th_of s h w * tw_of s h w * 3)) in
      let o = allowed-says s a.asks.settings in
      let g = grid-side-says s (gw_of s h w) o.patch-low wide.allowed in
      let u = back s q.rgb h w gh gw n (floats_of s h w) (gh * p * (gw * p) * 3) call fits in
      record {
        text =
            ap answered inside ∙ ap (preprocessed_text s q.rgb h w) call
            ∙ ap (restored_text s gh gw (bytes_of s (patches_of s q.rgb h w) gh gw)) u.answer
            ∙ ap (λ (l : List ℕ). restored_text s gh gw l (Ok (Undo.pictured (th_of s h w) (tw_of s h w)))) u.bytes;
        read = rows_back (th_of s h w) (tw_of s h w * 3) (resized_bytes s q.rgb h w) bs (omega (arith, wide.span, times 1 1 (gw_of s h w) p g.low o.patch-low)) (length-picture (th_of s h w) (tw_of s h w) v);
      }

  -- where both sides are multiples of patch × merge and not above the image size, the bytes printed, joined, are the bytes
  -- read, joined
  pub round_trip : q.height % align (settings q) ≡ 0 → q.width % align (settings q) ≡ 0 → q.height ≤ q.image → q.width ≤ q.image
      → Printed t gh gw q.merge q.height q.width q.rgb
  round_trip i j k l =
      let s = settings q in
      let h = q.height in
      let w = q.width in
      let e = (acceptance s (length q.rgb) h w (floats_of s h w) gh gw n call).asks.settings in
      let f : Unresized s h w = record { tall = i; wide = j; tall-held = k; wide-held = l } in
      let a = sides-kept s h w e f in
      let b = own-bytes s q.rgb h w gh gw n (floats_of s h w) (form-bytes t q inside) call f in
      let c = subst (Printed t gh gw q.merge (th_of s h w) (tw_of s h w)) b printed in
      let d = subst (λ (x : ℕ). Printed t gh gw q.merge x (tw_of s h w) q.rgb) a.0 c in
      subst (λ (x : ℕ). Printed t gh gw q.merge h x q.rgb) a.1 d
