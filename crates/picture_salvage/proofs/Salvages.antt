-- What the loops of salvage count, list and write is the definitions'. Assumes nothing.
use mathlib.Core.Path.{◌≡◌, refl, sym, ap, ◌∙◌}
use mathlib.Core.Bool.{Bool, true, false, not, ◌&&◌, cond}
use mathlib.Core.List.{List, [], ◌∷◌}
use Prim.Native.Nat.{ℕ, zero, suc, ◌+◌, ◌*◌, ◌-◌, ◌/◌, ◌%◌, ◌≤◌, ◌<◌}
use native.Mathlib.Nat.{suc-mul, zero-mul, zero-add, add-zero, add-suc, add-mul, mul_assoc, mul-pos, le_refl, mod-lt, div-add-mod'}
use native.Mathlib.Omega.{arith}
use native.Mathlib.Numerals.{add-one}
use mir.Val.{bool_byte}
use Rattle.picture_limits.specs.Places.{patch_floats, sample_place}
use Rattle.picture_limits.proofs.Places.{quotient, remainder}
use Rattle.picture_limits.proofs.Shapes.{shaped-says}
use Rattle.picture_limits.specs.declared.PictureSettings.{PictureSettings}
use Rattle.picture_limits.specs.declared.Refusal as F
use Rattle.std.specs.Prelude.{Result, Ok, Err}
use Rattle.picture_limits.specs.Refusal.{unless}
use Rattle.picture_limits.specs.Settings.{allowed}
use Rattle.picture_limits.specs.Shape.{grid_allowed, shaped}
use Rattle.picture_salvage.specs.declared.Salvaged.{Salvaged}
use Rattle.picture_samples.specs.Samples.{channels_allowed, byte_of, value_of, pattern_of}
use Rattle.picture_samples.proofs.Finds.{Same, byte-same}
use lib.ListN.{length, get_or, length-append}
use lib.Dec.{leb, ltb, eqb}
use borrow.Author.Tests.{lt-ltb, le-ltb, lt-leb, le-leb}
use native.Mathlib.Decide.{dec_lt}
use Rattle.buffers.specs.Rows.{tab, rows, count}
use Rattle.picture_salvage.specs.Salvage.{bad, bad_samples, entry_of, listed, saved, saved_from, salvaged}
use Rattle.buffers.specs.Region.{put}
use Rattle.buffers.proofs.Lists.{fit, length-tab, get_or-tab, length-rows, rows_ext, rows-mul, tab-ext}
use Rattle.buffers.proofs.Regions.{get_or-put-same}
use Rattle.buffers.proofs.Counts.{count-le, count-step, count_add, count-ext, length-entries, put-more}
use Rattle.picture_salvage.specs.inner.Loops.{found_run, none_at, bad_in, bad_run, entries_by, all_entries, saved_pixels, saved_run, saved_line, saved_rows}

-- ---- counting: a test as a number
pub flag-le : (b : Bool) → bool_byte b ≤ 1
flag-le true = omega arith
flag-le false = omega arith

flag : (b : Bool) → bool_byte b ≡ cond b 1 0
flag true = refl
flag false = refl

pub flag-step : (n : ℕ) (f : ℕ → Bool) (a : ℕ) (b : Bool) → a ≡ count n f → b ≡ f n → a + bool_byte b ≡ count (n + 1) f
flag-step n f a b d e = count-step n f a (bool_byte b) d (flag b ∙ ap (λ (x : Bool). cond x 1 0) e)

-- runs
module _ (k : ℕ → ℕ → ℕ) (p : ℕ) (l : List ℕ) where
  pub runs-le : (m : ℕ) → bad_run k p l m ≤ m * (p * p)
  unfolding bad_run
  runs-le zero = omega arith
  runs-le (suc m) = omega (arith, runs-le m, count-le (p * p) (bad_in k l (m * (p * p)) (m % 3)), suc-mul m (p * p))

  pub runs-step : (m a b : ℕ) → a ≡ bad_run k p l m → b ≡ count (p * p) (bad_in k l (m * (p * p)) (m % 3)) → a + b ≡ bad_run k p l (m + 1)
  unfolding bad_run
  runs-step m a b d e = rw (add-one m, d, e) refl

-- ---- listing: a turn that lists sample n where the test says so
module _ (f : ℕ → Bool) (l : List ℕ) (at q d : ℕ) where
  abbrev one : ℕ → List ℕ
  one i = q ∷ (d + i) ∷ get_or l (at + i) 0 ∷ []

  pub list-step : (s list list' : List ℕ) (o e e' n : ℕ) (b : Bool) → f n ≡ b → e ≡ o + count n f * 3 → list ≡ put s o (entries_by f l at q d n)
      → e' ≡ e + cond b 3 0 → list' ≡ put list e (cond b (one n) [])
      → (e' ≡ o + count (n + 1) f * 3) × (list' ≡ put s o (entries_by f l at q d (n + 1)))
  list-step s list list' o e e' n b h he hl he' hl' =
      let g : ℕ → List ℕ = λ i. cond (f i) (one i) [] in
      let m : e ≡ o + length (rows n g) = he ∙ ap (λ (x : ℕ). o + x) (sym (length-entries n f one (λ i. refl))) in
      let z = count-step n f (count n f) (cond b 1 0) refl (sym (ap (λ (x : Bool). cond x 1 0) h)) in (
        go b he' z,
        hl'
            ∙ ap (λ (x : Bool). put list e (cond x (one n) [])) (sym h)
            ∙ ap (λ (x : List ℕ). put x e (g n)) hl
            ∙ put-more s o n g e m,
      )
    where
      go : (b : Bool) → e' ≡ e + cond b 3 0 → count n f + cond b 1 0 ≡ count (n + 1) f → e' ≡ o + count (n + 1) f * 3
      go true h z = omega (arith, h, z, he)
      go false h z = omega (arith, h, z, he)

-- ---- what stands in the front of `found` after a run of n samples
module _ (k : ℕ → ℕ → ℕ) (l : List ℕ) (at c n : ℕ) (s found : List ℕ) (m : n ≤ length s) (e : found ≡ put s 0 (found_run k l at c n)) where
  pub found_at : (i : ℕ) → i < n → get_or found i 0 ≡ byte_of k c (get_or l (at + i) 0)
  found_at i h =
      let f : ℕ → ℕ = λ j. byte_of k c (get_or l (at + j) 0) in
      let z : i < length (tab n f) = rw (length-tab n f) h in
      let u : 0 + length (tab n f) ≤ length s = omega (arith, length-tab n f) in
      ap (λ (x : List ℕ). get_or x i 0) e ∙ ap (λ (j : ℕ). get_or (put s 0 (tab n f)) j 0) (sym (zero-add i)) ∙ get_or-put-same s 0 (tab n f) i 0 z u ∙ get_or-tab n i f 0 h

  pub none-at : (i : ℕ) → i < n → none_at found i ≡ bad_in k l at c i
  none-at i h = ap (leb 256) (found_at i h)

  pub none-count : count n (none_at found) ≡ count n (bad_in k l at c)
  none-count = count-ext n (none_at found) (bad_in k l at c) (λ i h. none-at i h)

  pub none-listed : (q d : ℕ) → entries_by (none_at found) l at q d n ≡ entries_by (bad_in k l at c) l at q d n
  none-listed q d = rows_ext n _ _ (λ i h. ap (λ (b : Bool). cond b (q ∷ (d + i) ∷ get_or l (at + i) 0 ∷ []) []) (none-at i h))

module _ (k : ℕ → ℕ → ℕ) (p : ℕ) (l : List ℕ) where
  runs-more : (n d : ℕ) → bad_run k p l n ≤ bad_run k p l (n + d)
  unfolding bad_run
  runs-more n zero = rw (add-zero n) (le_refl (bad_run k p l n))
  runs-more n (suc d) = rw (add-suc n d) (omega (arith, runs-more n d))

  pub runs-mono : (n m : ℕ) → n ≤ m → bad_run k p l n ≤ bad_run k p l m
  runs-mono n m h =
      let e : n + (m - n) ≡ m = omega arith in
      let g = runs-more n (m - n) in
      let z : bad_run k p l (n + (m - n)) ≡ bad_run k p l m = ap (bad_run k p l) e in
      omega (arith, g, z)

  pub length-all : (m : ℕ) → length (all_entries k p l m) ≡ bad_run k p l m * 3
  unfolding bad_run rows
  length-all zero = refl
  length-all (suc m) =
      let n = p * p in
      let at = m * n in
      let c = m % 3 in
      let f : ℕ → Bool = bad_in k l at c in
      let g : ℕ → List ℕ = λ i. m / 3 ∷ (c * n + i) ∷ get_or l (at + i) 0 ∷ [] in
      let z : length (entries_by f l at (m / 3) (c * n) n) ≡ count n f * 3 = length-entries n f g (λ i. refl) in
      length-append (all_entries k p l m) (entries_by f l at (m / 3) (c * n) n) ∙ omega (arith, length-all m, z)

  -- where none is bad, none is listed
  pub none-entries : (m : ℕ) → bad_run k p l m ≡ 0 → all_entries k p l m ≡ []
  none-entries m e = empty (all_entries k p l m) (omega (arith, length-all m, e))
    where
      empty : (xs : List ℕ) → length xs ≡ 0 → xs ≡ []
      empty [] h = refl
      empty (x ∷ xs) h = absurd (omega arith)

-- ---- what is written of a row of a patch, of what was found in each channel
pub run-saved : (k : ℕ → ℕ → ℕ) (p : ℕ) (l : List ℕ) (from : ℕ) (r g b : List ℕ)
    → ((j : ℕ) → j < p → get_or r j 0 ≡ byte_of k 0 (get_or l (from + j) 0))
    → ((j : ℕ) → j < p → get_or g j 0 ≡ byte_of k 1 (get_or l (from + p * p + j) 0))
    → ((j : ℕ) → j < p → get_or b j 0 ≡ byte_of k 2 (get_or l (from + 2 * (p * p) + j) 0))
    → saved_pixels r g b p ≡ saved_run k p l from
unfolding tab
run-saved k p l from r g b hr hg hb = rows_ext p _ _ (λ j h.
    let u : from + j ≡ from + j + 0 * (p * p) = omega arith in
    let v : from + p * p + j ≡ from + j + 1 * (p * p) = omega arith in
    let w : from + 2 * (p * p) + j ≡ from + j + 2 * (p * p) = omega arith in
    rw (hr j h, hg j h, hb j h, ← u, ← v, ← w) refl)

-- ---- how long what is written is
pub length-saved_run : (k : ℕ → ℕ → ℕ) (p : ℕ) (l : List ℕ) (from : ℕ) → length (saved_run k p l from) ≡ p * 3
length-saved_run k p l from = length-rows _ 3 (λ j. length-tab 3 _) p

pub length-saved_line : (k : ℕ → ℕ → ℕ) (p gw : ℕ) (l : List ℕ) (from i : ℕ) → length (saved_line k p gw l from i) ≡ gw * (p * 3)
length-saved_line k p gw l from i = length-rows _ (p * 3) (λ b. length-saved_run k p l (from + b * patch_floats p + i * p)) gw

-- ---- what the loops count, list and write is what the definitions say
no_byte : (b : ℕ) → not (ltb b 256) ≡ leb 256 b
no_byte b = go (dec_lt b 256)
  where
    go : Dec (b < 256) → not (ltb b 256) ≡ leb 256 b
    go (yes h) = rw (lt-ltb b 256 h, lt-leb 256 b h) refl
    go (no h) = let m : 256 ≤ b = omega arith in rw (le-ltb b 256 m, le-leb 256 b m) refl

module _ (k : ℕ → ℕ → ℕ) (p : ℕ) (h : 0 < p) (l : List ℕ) where
  area : 0 < p * p
  area = mul-pos h h

  -- sample j of run r is of channel r mod 3
  of-run : (r j : ℕ) → j < p * p → bad k p l (r * (p * p) + j) ≡ bad_in k l (r * (p * p)) (r % 3) j
  of-run r j hj = no_byte (byte_of k ((r * (p * p) + j) / (p * p) % 3) (get_or l (r * (p * p) + j) 0)) ∙ ap (λ (n : ℕ). leb 256 (byte_of k (n % 3) (get_or l (r * (p * p) + j) 0))) (quotient (p * p) area r j hj)

  pub runs-are : (m : ℕ) → bad_run k p l m ≡ count (m * (p * p)) (bad k p l)
  unfolding bad_run count
  runs-are zero = ap (λ (n : ℕ). count n (bad k p l)) (sym (zero-mul (p * p)))
  runs-are (suc m) =
      let n = p * p in
      ap (λ (x : ℕ). x + count n (bad_in k l (m * n) (m % 3))) (runs-are m)
      ∙ ap (λ (x : ℕ). count (m * n) (bad k p l) + x) (sym (count-ext n (λ j. bad k p l (m * n + j)) (bad_in k l (m * n) (m % 3)) (λ j hj. of-run m j hj)))
      ∙ sym (count_add (m * n) n (bad k p l))
      ∙ ap (λ (x : ℕ). count x (bad k p l)) (sym (suc-mul m n))

  -- patch and place of sample j of run r
  in-patch : (r j : ℕ) → j < p * p → ((r * (p * p) + j) / patch_floats p ≡ r / 3) × ((r * (p * p) + j) % patch_floats p ≡ r % 3 * (p * p) + j)
  in-patch r j hj =
      let n = p * p in
      let c : r % 3 < 3 = omega arith in
      let d : r % 3 * n + j < patch_floats p = omega (arith, fit n c) in
      let o : 0 < patch_floats p = omega (arith, area) in
      let q : r / 3 * 3 + r % 3 ≡ r = div-add-mod' r 3 in
      let e : r * n + j ≡ r / 3 * patch_floats p + (r % 3 * n + j) = ap (λ (x : ℕ). x * n + j) (sym q) ∙ omega (arith, add-mul (r / 3 * 3) (r % 3) n, mul_assoc (r / 3) 3 n) in
      (ap (λ (x : ℕ). x / patch_floats p) e ∙ quotient (patch_floats p) o (r / 3) (r % 3 * n + j) d, ap (λ (x : ℕ). x % patch_floats p) e ∙ remainder (patch_floats p) o (r / 3) (r % 3 * n + j) d)

  pub entries-are : (m : ℕ) → all_entries k p l m ≡ rows (m * (p * p)) (λ i. cond (bad k p l i) (entry_of p l i) [])
  entries-are m =
      let n = p * p in
      rows_ext m _ _ (λ r _. rows_ext n _ _ (λ j hj.
      let z = in-patch r j hj in
      ap (λ (x : Bool). cond x (r / 3 ∷ (r % 3 * n + j) ∷ get_or l (r * n + j) 0 ∷ []) []) (sym (of-run r j hj))
      ∙ ap (λ (x : ℕ). cond (bad k p l (r * n + j)) (x ∷ (r % 3 * n + j) ∷ get_or l (r * n + j) 0 ∷ []) []) (sym z.0)
      ∙ ap (λ (x : ℕ). cond (bad k p l (r * n + j)) ((r * n + j) / patch_floats p ∷ x ∷ get_or l (r * n + j) 0 ∷ []) []) (sym z.1)))
      ∙ sym (rows-mul m n (λ i. cond (bad k p l i) (entry_of p l i) []))

  pub rows_are : (gh gw : ℕ) → saved_rows k p gw l (gh * p) ≡ saved_from k p l gh gw
  rows_are gh gw =
      rows_ext (gh * p) _ _ (λ y _.
      let f : ℕ → List ℕ = λ x. tab 3 (λ c. saved (byte_of k c (get_or l (sample_place p gw y x c) 0))) in
      rows_ext gw _ _ (λ b _. rows_ext p _ _ (λ j hj. tab-ext 3 _ _ (λ c _. ap (λ (i : ℕ). saved (byte_of k c (get_or l i 0))) (place gw y b j c hj))))
      ∙ sym (rows-mul gw p f))
    where
      place : (gw y b j c : ℕ) → j < p → y / p * (gw * patch_floats p) + b * patch_floats p + y % p * p + j + c * (p * p) ≡ sample_place p gw y (b * p + j) c
      place gw y b j c hj = rw (quotient p h b j hj, remainder p h b j hj) (omega (arith, add-mul (y / p * gw) b (patch_floats p), mul_assoc (y / p) gw (patch_floats p)))

-- ---- equal tables count, list and write the same
module _ (k m : ℕ → ℕ → ℕ) (e : Same k m) (p : ℕ) (l : List ℕ) where
  bad-same : (i : ℕ) → bad k p l i ≡ bad m p l i
  bad-same i = let h : i / (p * p) % 3 < 3 = mod-lt (i / (p * p)) (omega arith) in ap (λ (b : ℕ). not (ltb b 256)) (byte-same k m e (i / (p * p) % 3) (get_or l i 0) h)

  pub count_same : bad_samples k p l ≡ bad_samples m p l
  count_same = count-ext (length l) (bad k p l) (bad m p l) (λ i _. bad-same i)

  pub listed_same : listed k p l ≡ listed m p l
  listed_same = rows_ext (length l) _ _ (λ i _. ap (λ (b : Bool). cond b (entry_of p l i) []) (bad-same i))

  pub saved-same : (gh gw : ℕ) → saved_from k p l gh gw ≡ saved_from m p l gh gw
  saved-same gh gw = rows_ext (gh * p) _ _ (λ y _. rows_ext (gw * p) _ _ (λ x _. tab-ext 3 _ _ (λ c hc. ap saved (byte-same k m e c (get_or l (sample_place p gw y x c) 0) hc))))

-- ---- where settings, grid and length are in order, and the channels too, the room and then the list decide
abbrev pub decided : PictureSettings → List ℕ → ℕ → ℕ → ℕ → ℕ → Result Salvaged F.Refusal
decided s l gh gw room space =
    unless (leb (gh * s.patch_size * (gw * s.patch_size) * 3) room) (Err F.Refusal.Output)
    (unless (leb (bad_samples (pattern_of s) s.patch_size l) (space / 3)) (Err F.Refusal.List)
    (Ok (record { height = gh * s.patch_size; width = gw * s.patch_size; bad = bad_samples (pattern_of s) s.patch_size l })))

abbrev pub decided_by : PictureSettings → List ℕ → ℕ → ℕ → ℕ → ℕ → Result ℕ F.Refusal → Result Salvaged F.Refusal
decided_by s l gh gw room space (Err r) = Err r
decided_by s l gh gw room space (Ok t) = decided s l gh gw room space

pub agrees : (s : PictureSettings) (l : List ℕ) (gh gw room space : ℕ)
    → salvaged s l gh gw room space ≡ unless (allowed s) (Err F.Refusal.Setting) (unless (channels_allowed (value_of s)) (Err F.Refusal.Channel) (decided_by s l gh gw room space (shaped s gh gw (length l))))
unfolding salvaged shaped
agrees s l gh gw room space = go (allowed s) (channels_allowed (value_of s)) (grid_allowed s gh && grid_allowed s gw) (eqb (length l) (gh * gw * patch_floats s.patch_size))
  where
    go : (a d g n : Bool)
        → unless a (Err F.Refusal.Setting) (unless d (Err F.Refusal.Channel) (unless g (Err F.Refusal.Grid) (unless n (Err F.Refusal.PatchesLength) (decided s l gh gw room space))))
        ≡ unless a (Err F.Refusal.Setting) (unless d (Err F.Refusal.Channel) (decided_by s l gh gw room space (unless a (Err F.Refusal.Setting) (unless g (Err F.Refusal.Grid) (unless n (Err F.Refusal.PatchesLength) (Ok (gh * gw)))))))
    go false d g n = refl
    go true false g n = refl
    go true true false n = refl
    go true true true false = refl
    go true true true true = refl

pub agreed : (s : PictureSettings) (l : List ℕ) (gh gw room space t : ℕ) → shaped s gh gw (length l) ≡ Ok t → channels_allowed (value_of s) ≡ true
    → salvaged s l gh gw room space ≡ decided s l gh gw room space
agreed s l gh gw room space t e d =
    let a = (shaped-says s gh gw (length l) t e).accepts in
    agrees s l gh gw room space ∙ rw (a, d, e) refl
