-- Laws of texts that are written, one behind another. Assumes nothing.
use mathlib.Core.Path.{◌≡◌, refl, sym, ap, ◌∙◌}
use mathlib.Core.Bool.{Bool, true, false, cond}
use mathlib.Core.List.{List, [], ◌∷◌, ◌++◌, append_assoc}
use Prim.Native.Nat.{ℕ, zero, suc, ◌+◌, ◌*◌, ◌/◌, ◌%◌, ◌≤◌, ◌<◌}
use native.Mathlib.Numerals.{add-one}
use native.Mathlib.Omega.{arith}
use borrow.Author.Tests.{lt-ltb, le-ltb, ltb-false}
use lib.Dec.{ltb}
use native.Mathlib.Decide.{dec_lt}
use lib.ListN.{length, get_or, take, set, length-append}
use lib.Seq.{take-suc}
use Rattle.buffers.specs.Rows.{rows}
use Rattle.buffers.specs.Region.{put}
use Rattle.buffers.proofs.Regions.{put_one, put-append}
use Rattle.unpatch_form.specs.Words.{word}
use Rattle.unpatch_text.specs.Print.{last_digits, decimal_text, glyph, hex_text, refused_line, grid_line, row_line}
use Rattle.unpatch_text.specs.inner.Steps.{Wrote}

-- ---- one text behind another
pub wrote_then : {s t u : List ℕ} {at m r : ℕ} {xs ys : List ℕ} → Wrote s t at xs m → Wrote t u m ys r → Wrote s u at (xs ++ ys) r
wrote_then {s} {t} {u} {at} {m} {r} {xs} {ys} a b = record {
  text-is = b.text-is ∙ ap (λ (l : List ℕ). put l m ys) a.text-is ∙ put-append s at xs ys m a.next-is;
  next-is = omega (arith, a.next-is, b.next-is, length-append xs ys);
}

pub wrote_as : {s t : List ℕ} {at r : ℕ} {xs ys : List ℕ} → xs ≡ ys → Wrote s t at xs r → Wrote s t at ys r
wrote_as {s} {t} {at} {r} e w = rw e at w

pub wrote_one : (s : List ℕ) (at x : ℕ) → Wrote s (set s at x) at (x ∷ []) (at + 1)
wrote_one s at x = record { text-is = sym (put_one s at x); next-is = omega arith }

-- ---- decimals
-- any fuel above the number does
digits-fuel : (j k n : ℕ) → n < j → n < k → last_digits j n ≡ last_digits k n
unfolding last_digits
digits-fuel zero k n h g = absurd (omega arith)
digits-fuel (suc j) zero n h g = absurd (omega arith)
digits-fuel (suc j) (suc k) n h g = go (ltb n 10) refl (λ l. digits-fuel j k (n / 10) (omega arith) (omega arith))
  where
    go : (t : Bool) → ltb n 10 ≡ t → (10 ≤ n → last_digits j (n / 10) ≡ last_digits k (n / 10)) → cond t ((48 + n) ∷ []) (last_digits j (n / 10) ++ ((48 + n % 10) ∷ [])) ≡ cond t ((48 + n) ∷ []) (last_digits k (n / 10) ++ ((48 + n % 10) ∷ []))
    go true e r = refl
    go false e r = rw (r (ltb-false n 10 e)) refl

pub digits-one : (n : ℕ) → n < 10 → decimal_text n ≡ (48 + n) ∷ []
unfolding last_digits
digits-one n h = simp (lt-ltb _ _ h)

pub digits_more : (n : ℕ) → 10 ≤ n → decimal_text n ≡ decimal_text (n / 10) ++ ((48 + n % 10) ∷ [])
unfolding last_digits
digits_more n h = rw (le-ltb n 10 h) (ap (λ (l : List ℕ). l ++ ((48 + n % 10) ∷ [])) (digits-fuel n (suc (n / 10)) (n / 10) (omega arith) (omega arith)))

-- ---- hex digits
hex-append : (xs ys : List ℕ) → hex_text (xs ++ ys) ≡ hex_text xs ++ hex_text ys
unfolding hex_text
hex-append [] ys = refl
hex-append (x ∷ xs) ys = ap (λ (l : List ℕ). glyph (x / 16) ∷ (glyph (x % 16) ∷ l)) (hex-append xs ys)

pub length-hex : (xs : List ℕ) → length (hex_text xs) ≡ 2 * length xs
unfolding hex_text
length-hex [] = refl
length-hex (x ∷ xs) = omega (arith, length-hex xs)

-- a byte more
pub hex-more : (s : List ℕ) (i : ℕ) → i < length s → hex_text (take (i + 1) s) ≡ hex_text (take i s) ++ (glyph (get_or s i 0 / 16) ∷ (glyph (get_or s i 0 % 16) ∷ []))
unfolding hex_text
hex-more s i h = rw (add-one i, take-suc s i 0 h) (hex-append (take i s) (get_or s i 0 ∷ []))

pub put_two : (s : List ℕ) (at x y : ℕ) → put s at (x ∷ (y ∷ [])) ≡ set (set s at x) (at + 1) y
unfolding put
put_two s at x y = rw (add-one at) refl

-- ---- a line, part by part, and how long it is
pub refused-parts : (n : ℕ) → (word "refused" ++ (9 ∷ decimal_text n)) ++ (10 ∷ []) ≡ refused_line n
unfolding refused_line
refused-parts n = refl

pub length-refused : (n : ℕ) → length (refused_line n) ≡ 9 + length (decimal_text n)
unfolding refused_line
length-refused n = omega (arith, length-append (decimal_text n) (10 ∷ []))

pub grid-parts : (a b d : ℕ) → (((word "grid" ++ (9 ∷ decimal_text a)) ++ (9 ∷ decimal_text b)) ++ (9 ∷ decimal_text d)) ++ (10 ∷ []) ≡ grid_line a b d
unfolding grid_line
grid-parts a b d = simp append_assoc

pub length-grid : (a b d : ℕ) → length (grid_line a b d) ≡ 8 + (length (decimal_text a) + (length (decimal_text b) + length (decimal_text d)))
unfolding grid_line
length-grid a b d = simp length-append (omega arith)

pub row-parts : (y : ℕ) (s : List ℕ) → (((word "row" ++ (9 ∷ decimal_text y)) ++ (9 ∷ [])) ++ hex_text s) ++ (10 ∷ []) ≡ row_line y s
unfolding row_line
row-parts y s = simp append_assoc

pub length-row : (y : ℕ) (s : List ℕ) → length (row_line y s) ≡ 6 + (length (decimal_text y) + 2 * length s)
unfolding row_line
length-row y s = simp (length-append, length-hex) (omega arith)

-- ---- rows
module _ (f : ℕ → List ℕ) where
  -- row y ends inside all of them
  pub row_room : (h y : ℕ) → y < h → length (rows y f) + length (f y) ≤ length (rows h f)
  unfolding rows
  row_room zero y l = absurd (omega arith)
  row_room (suc h) y l = last (dec_lt y h) (λ k. row_room h y k)
    where
      last : Dec (y < h) → (y < h → length (rows y f) + length (f y) ≤ length (rows h f)) → length (rows y f) + length (f y) ≤ length (rows h f ++ f h)
      last (yes k) r = omega (arith, r k, length-append (rows h f) (f h))
      last (no k) r = let e : y ≡ h = omega arith in rw (e, length-append) (omega arith)

  pub wrote-row : {s t u : List ℕ} {at m r : ℕ} (y : ℕ) → Wrote s t at (rows y f) m → Wrote t u m (f y) r → Wrote s u at (rows (y + 1) f) r
  unfolding rows
  wrote-row y a b = rw (add-one y) (wrote_then a b)

  pub wrote_none : (s : List ℕ) (at : ℕ) → Wrote s s at (rows 0 f) at
  unfolding rows put
  wrote_none s at = record { text-is = refl; next-is = omega arith }
