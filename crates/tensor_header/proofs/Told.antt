-- What the walk found is what the text says. Assumes nothing.
use Rattle.std.specs.Prelude.{Option, None, Some, Ok, Err}
use mathlib.Core.Path.{◌≡◌, refl, sym, ap, ◌∙◌}
use mathlib.Core.Bool.{Bool, true, false, ◌&&◌}
use mathlib.Core.List.{List, [], ◌∷◌}
use Prim.Native.Nat.{ℕ, zero, suc, ◌+◌, ◌-◌, ◌≤◌, ◌<◌}
use native.Mathlib.Decide.{dec_lt}
use native.Mathlib.Omega.{arith}
use lib.Dec.{eqb, ltb}
use lib.ListN.{length, get_or, drop, length-drop}
use lib.Seq.{drop-cons}
use borrow.Author.Tests.{lt-ltb, ne_eqb, eqb-true}
use Rattle.buffers.specs.Rows.{tab}
use Rattle.buffers.proofs.Lists.{and_right, tab-self, tab-ext}
use Rattle.json_grammar.specs.Grammar as G
use Rattle.json_grammar.specs.Grammar.{Ws, Value, Text, text}
use Rattle.json_grammar.specs.inner.Steps.{Skips}
use Rattle.json_members.specs.Names.{Entry, entries_of, lookup}
use Rattle.json_members.specs.inner.Turns.{place_of, Finds}
use Rattle.json_members.proofs.Finding.{ws-skip, value-solid, gets-object}
use Rattle.encoder_settings.specs.declared.EncoderSettings.{EncoderSettings}
use Rattle.tensor_header.specs.Tensors.{Tensor, tensors, entry_at}
use Rattle.tensor_header.specs.Header.{is_object, place_in, damaged, opened, placed}
use Rattle.tensor_header.specs.inner.Named.{names, name_at}
use Rattle.tensor_header.specs.inner.Walked.{Each, Found, Walked}
use Rattle.tensor_header.proofs.Ascii.{names-ascii}

-- ---- entries

pub entry-is : (ts : List Tensor) (es : List Entry) (i : ℕ) → i < length (names ts) → entry_at ts es i ≡ lookup (name_at (names ts) i) es
unfolding entry_at
entry-is [] es i h = absurd (omega arith)
entry-is (t ∷ ts) es zero h = refl
entry-is (t ∷ ts) es (suc i) h = entry-is ts es i (omega arith)

entry-none : (ts : List Tensor) (es : List Entry) (i : ℕ) → length (names ts) ≤ i → entry_at ts es i ≡ None
unfolding entry_at
entry-none [] es i h = refl
entry-none (t ∷ ts) es zero h = absurd (omega arith)
entry-none (t ∷ ts) es (suc i) h = entry-none ts es i (omega arith)

pub names-long : (ts : List Tensor) → length (names ts) ≡ length ts
names-long [] = refl
names-long (t ∷ ts) = ap suc (names-long ts)

pub place_is : (h : List ℕ) (o : Option Entry) → place_of h o ≡ place_in h o
unfolding place_of place_in
place_is h None = refl
place_is h (Some e) = refl

-- ---- objects begin with a brace

object-head : {k : ℕ} {l r : List ℕ} (v : Value k l r) → (b : ℕ) × (t : List ℕ) × (l ≡ b ∷ t) × (is_object v ≡ eqb b 0x7B)
unfolding is_object
object-head G.value-false = (_, _, refl, refl)
object-head G.value-null = (_, _, refl, refl)
object-head G.value-true = (_, _, refl, refl)
object-head (G.number (G.positive (G.natural G.zero-int f x))) = (_, _, refl, refl)
object-head (G.number (G.positive (G.natural (G.int (G.byte {b = b} h k) d) f x))) = (b, _, refl, sym (ne_eqb b 0x7B (λ e. omega arith)))
object-head (G.number (G.negative k)) = (_, _, refl, refl)
object-head (G.string (G.str k)) = (_, _, refl, refl)
object-head (G.empty-array w) = (_, _, refl, refl)
object-head (G.array k) = (_, _, refl, refl)
object-head (G.empty-object w) = (_, _, refl, refl)
object-head (G.object k) = (_, _, refl, refl)

-- ---- a text whose value begins at p

module _ {h : List ℕ} {p : ℕ} (k : Skips h 0 p) where
  here : {m n : List ℕ} {d : ℕ} → Ws h m → Value d m n → drop p h ≡ m
  here w v = k.same ∙ ws-skip w (value-solid v)

  inside : {m n : List ℕ} {d : ℕ} → Ws h m → Value d m n → p < length h
  inside w v = let o = object-head v in let e = ap length (here w v ∙ o.2) in omega (arith, rw length-drop at e)

  first : {m n : List ℕ} {d : ℕ} (w : Ws h m) (v : Value d m n) → (ltb p (length h) && eqb (get_or h p 0) 0x7B) ≡ is_object v
  first w v =
      let o = object-head v in
      let i = inside w v in
      let b : get_or h p 0 ≡ o.0 = heads (get_or h p 0) o.0 (sym (drop-cons h p 0 i) ∙ here w v ∙ o.2) in
      rw (lt-ltb p (length h) i, b) (sym o.3)
    where
      heads : (a b : ℕ) {l m : List ℕ} → a ∷ l ≡ b ∷ m → a ≡ b
      heads a b e = cc

  place : {m n : List ℕ} {d : ℕ} (w : Ws h m) (v : Value d m n) → p ≡ length h - length m
  place w v = let e = ap length (here w v) in omega (arith, rw length-drop at e, inside w v)

  abbrev opens : Bool
  opens = ltb p (length h) && eqb (get_or h p 0) 0x7B

  none_told : (s : EncoderSettings) (before : List ℕ) → opens ≡ false → (t : Text 32 h) → (Err (damaged p) ≡ opened t) × (before ≡ placed s t before)
  unfolding opened placed
  none_told s before f (text w v u) = let e : is_object v ≡ false = sym (first w v) ∙ f in rw (e) (ap (λ (i : ℕ). Err (damaged i)) (place w v), refl)

  pub no-object : (s : EncoderSettings) (before : List ℕ) → opens ≡ false → Found s h before before (Err (damaged p))
  no-object s before f = record { told = none_told s before f }

  -- the place of each
  each-place : (s : EncoderSettings) {m n : List ℕ} (w : Ws h m) (v : Value 32 m n) (i x : ℕ) → opens ≡ true → Each s (Finds h (p + 1) 31) i x → x ≡ place_in h (entry_at (tensors s) (entries_of v) i)
  unfolding place_in
  each-place s {m} {n} w v i x f e = of (dec_lt i (length (names (tensors s))))
    where
      bracket : get_or h p 0 ≡ 0x7B
      bracket = eqb-true (get_or h p 0) 0x7B (and_right (ltb p (length h)) (eqb (get_or h p 0) 0x7B) f)

      of : Dec (i < length (names (tensors s))) → x ≡ place_in h (entry_at (tensors s) (entries_of v) i)
      of (yes c) =
          (gets-object refl (inside w v) bracket (e.there c)).value 32 m n (here w v) (omega arith) (names-ascii s i) v
          ∙ place_is h (lookup (name_at (names (tensors s)) i) (entries_of v)) ∙ ap (place_in h) (sym (entry-is (tensors s) (entries_of v) i c))
      of (no c) = e.beyond (omega arith) ∙ ap (place_in h) (sym (entry-none (tensors s) (entries_of v) i (omega arith)))

  object-told : (s : EncoderSettings) (before after : List ℕ) → length after ≡ length before → opens ≡ true → Walked s h (p + 1) after → (t : Text 32 h) → (Ok (length h) ≡ opened t) × (after ≡ placed s t before)
  unfolding opened placed
  object-told s before after n f g (text w v u) =
      let e : is_object v ≡ true = sym (first w v) ∙ f in
      let q : after ≡ tab (length before) (λ i. place_in h (entry_at (tensors s) (entries_of v) i)) =
      sym (tab-self after (length before) 0 n)
      ∙ tab-ext (length before) (λ i. get_or after i 0) (λ i. place_in h (entry_at (tensors s) (entries_of v) i)) (λ i c. each-place s w v i (get_or after i 0) f (g.each i (rw n c))) in
      rw (e) (refl, q)

  pub an-object : (s : EncoderSettings) (before after : List ℕ) → length after ≡ length before → opens ≡ true → Walked s h (p + 1) after → Found s h before after (Ok (length h))
  an-object s before after n f g = record { told = object-told s before after n f g }
