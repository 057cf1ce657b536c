-- What is read at the place of an entry is what the entry says. Assumes nothing.
use Rattle.std.specs.Prelude.{Option, None, Some, Result, Ok, Err}
use mathlib.Core.Path.{◌≡◌, refl, sym, ap, subst, ◌∙◌}
use mathlib.Core.Bool.{true, cond}
use mathlib.Core.List.{List, [], ◌∷◌}
use Prim.Native.Nat.{ℕ, suc, ◌+◌, ◌≤◌, ◌<◌}
use native.Mathlib.Numerals.{add-one}
use native.Mathlib.Omega.{arith}
use lib.ListN.{length, get_or, drop, length-drop}
use lib.Seq.{drop-cons}
use borrow.Author.Tests.{ne_eqb}
use Rattle.json_grammar.specs.Grammar as G
use Rattle.json_grammar.specs.Grammar.{Value}
use Rattle.json_members.specs.Names.{word, Entry, entries_of, same, lookup}
use Rattle.json_members.specs.inner.Bytes.{name_is}
use Rattle.json_members.specs.inner.Turns.{place_of, Ascii, Gets, Stands, nowhere, somewhere}
use Rattle.json_members.proofs.Named.{name-says}
use Rattle.json_members.proofs.Plain.{plain, ascii}
use Rattle.json_members.proofs.Suffix.{found}
use Rattle.json_lists.specs.Lists.{product, held, sums_of, said_of}
use Rattle.json_lists.specs.inner.Bytes.{list_at}
use Rattle.json_lists.specs.declared.Sizes.{Sizes}
use Rattle.json_lists.proofs.Listing.{list_law}
use Rattle.tensor_values.specs.declared.Kind.{Kind}
use Rattle.tensor_values.specs.declared.Kind.TheVariants.{F32, BF16, F16}
use Rattle.weights.specs.File.{string_of, string_in, sizes_in, described_by, found_by, found_in, kind_of}
use Rattle.weights.specs.inner.Described.{dtype_by, dtype_of, Dtyped, Sized, Kept, made_of, summary, Describes}
use Rattle.weights.specs.declared.entry.Undescribed.{Undescribed}
use Rattle.weights.specs.declared.entry.Undescribed.TheVariants.{Missing, Damaged}

-- ---- strings

-- a value begins with byte b, and t stands behind it: a string where b is a quotation mark
data Strung (b : ℕ) (t : List ℕ) : Option (List ℕ) → Type 0 where
  unstrung : (b ≡ 0x22 → ⊥) → Strung b t None
  strung : {s : List ℕ} → b ≡ 0x22 → ((w : List ℕ) → Ascii w → name_is w t ≡ same s w) → Strung b t (Some s)

record Headed (l : List ℕ) (o : Option (List ℕ)) : Type 0 where
  head : ℕ
  tail : List ℕ
  is : l ≡ head ∷ tail
  told : Strung head tail o

no-quote : (b : ℕ) (t : List ℕ) → (b ≡ 0x22 → ⊥) → Headed (b ∷ t) None
no-quote b t h = record { head = b; tail = t; is = refl; told = unstrung h }

headed : {k : ℕ} {l r : List ℕ} (v : Value k l r) → Headed l (string_of v)
unfolding string_of
headed G.value-false = no-quote _ _ (λ e. omega arith)
headed G.value-null = no-quote _ _ (λ e. omega arith)
headed G.value-true = no-quote _ _ (λ e. omega arith)
headed (G.number (G.positive (G.natural G.zero-int f x))) = no-quote _ _ (λ e. omega arith)
headed (G.number (G.positive (G.natural (G.int (G.byte {b = b} h k) d) f x))) = no-quote b _ (λ e. omega arith)
headed (G.number (G.negative k)) = no-quote _ _ (λ e. omega arith)
headed (G.string (G.str {l = l} k)) = record { head = 0x22; tail = l; is = refl; told = strung refl (λ w a. name-says k w a) }
headed (G.empty-array w) = no-quote _ _ (λ e. omega arith)
headed (G.array k) = no-quote _ _ (λ e. omega arith)
headed (G.empty-object w) = no-quote _ _ (λ e. omega arith)
headed (G.object k) = no-quote _ _ (λ e. omega arith)

heads : (a b : ℕ) {l m : List ℕ} → a ∷ l ≡ b ∷ m → (a ≡ b) × (l ≡ m)
heads a b e = (cc, cc)

module _ (h : List ℕ) (at : ℕ) where
  -- at a place that is not 0 something is found, inside
  pub is-inside : (k : ℕ) (o : Option Entry) → Stands h k o → at ≡ place_of h o → (at ≡ 0 → ⊥) → at < length h
  unfolding place_of
  is-inside k o nowhere e n = absurd (n e)
  is-inside k o (somewhere {e = x} a b q l) e n =
      let y = headed x.value in
      let z = ap length (ap (λ (i : ℕ). drop i h) e ∙ b ∙ y.is) in
      omega (arith, rw length-drop at z)

  strung-at : (k : ℕ) (o : Option Entry) → Stands h k o → at ≡ place_of h o → (at ≡ 0 → ⊥) → at < length h → Strung (get_or h at 0) (drop (at + 1) h) (string_in o)
  unfolding place_of
  strung-at k o nowhere e n i = absurd (n e)
  strung-at k o (somewhere {e = x} a b q l) e n i =
      let y = headed x.value in
      let z = heads (get_or h at 0) y.head (sym (drop-cons h at 0 i) ∙ ap (λ (j : ℕ). drop j h) e ∙ b ∙ y.is) in
      subst (λ (c : ℕ). Strung c (drop (at + 1) h) (string_of x.value)) (sym z.0) (subst (λ (t : List ℕ). Strung y.head t (string_of x.value)) (sym (ap (λ (j : ℕ). drop j h) (add-one at) ∙ z.1)) y.told)

-- ---- dtypes

module _ {b : ℕ} {t : List ℕ} where
  no-dtype : {o : Option (List ℕ)} → Strung b t o → (b ≡ 0x22 → ⊥) → Err Damaged ≡ dtype_of o
  no-dtype (unstrung h) n = refl
  no-dtype (strung e f) n = absurd (n e)

  -- the three tests, one behind the other
  dtype-is : {o : Option (List ℕ)} → Strung b t o → b ≡ 0x22 → dtype_by (cond (name_is (word "F32") t) (Some F32) (cond (name_is (word "BF16") t) (Some BF16) (cond (name_is (word "F16") t) (Some F16) None))) ≡ dtype_of o
  dtype-is (unstrung h) e = absurd (h e)
  dtype-is (strung {s = s} q f) e = rw (f (word "F32") (ascii (word "F32") refl), f (word "BF16") (ascii (word "BF16") refl), f (word "F16") (ascii (word "F16") refl)) refl

module _ (h : List ℕ) (at : ℕ) where
  pub no_place : at ≡ 0 → Dtyped h at (Err Damaged)
  no_place z = record { is = λ k o s e. of k o s e }
    where
      of : (k : ℕ) (o : Option Entry) → Stands h k o → at ≡ place_of h o → Err Damaged ≡ dtype_of (string_in o)
      of k o nowhere e = refl
      of k o (somewhere a b c l) e = absurd (omega arith)

  module _ (n : at ≡ 0 → ⊥) where
    pub past-text : length h ≤ at → Dtyped h at (Err Damaged)
    past-text x = record { is = λ k o s e. let i = is-inside h at k o s e n in absurd (omega arith) }

    pub no-string : (get_or h at 0 ≡ 0x22 → ⊥) → Dtyped h at (Err Damaged)
    no-string x = record { is = λ k o s e. no-dtype (strung-at h at k o s e n (is-inside h at k o s e n)) x }

    pub a-string : get_or h at 0 ≡ 0x22 → (r : Result Kind Undescribed) → r ≡ dtype_by (cond (name_is (word "F32") (drop (at + 1) h)) (Some F32) (cond (name_is (word "BF16") (drop (at + 1) h)) (Some BF16) (cond (name_is (word "F16") (drop (at + 1) h)) (Some F16) None))) → Dtyped h at r
    a-string x r q = record { is = λ k o s e. q ∙ dtype-is (strung-at h at k o s e n (is-inside h at k o s e n)) x }

  -- ---- lists

  pub no-list : at ≡ 0 → Sized h at None
  unfolding said_of
  no-list z = record { is = λ k o s e. of k o s e }
    where
      of : (k : ℕ) (o : Option Entry) → Stands h k o → at ≡ place_of h o → None ≡ said_of (sizes_in o)
      of k o nowhere e = refl
      of k o (somewhere a b c l) e = absurd (omega arith)

  pub a-list : (at ≡ 0 → ⊥) → (r : Option Sizes) → r ≡ list_at (drop at h) → Sized h at r
  unfolding place_of
  a-list n r q = record { is = λ k o s e. of k o s e }
    where
      of : (k : ℕ) (o : Option Entry) → Stands h k o → at ≡ place_of h o → r ≡ said_of (sizes_in o)
      of k o nowhere e = absurd (n e)
      of k o (somewhere {e = x} a b c l) e = q ∙ ap list_at (ap (λ (i : ℕ). drop i h) e ∙ b) ∙ list_law x.value

-- ---- together

pub made-is : (a b c : Option (List ℕ)) → made_of (dtype_of a) (said_of b) (said_of c) ≡ summary (described_by a b c)
unfolding said_of sums_of
made-is None None c = refl
made-is None (Some n) None = refl
made-is None (Some n) (Some []) = refl
made-is None (Some n) (Some (x ∷ [])) = refl
made-is None (Some n) (Some (x ∷ (y ∷ []))) = refl
made-is None (Some n) (Some (x ∷ (y ∷ (z ∷ l)))) = rw (ne_eqb (suc (suc (suc (length l)))) 2 (λ e. omega arith)) refl
made-is (Some t) None c = refl
made-is (Some t) (Some n) None = refl
made-is (Some t) (Some n) (Some []) = refl
made-is (Some t) (Some n) (Some (x ∷ [])) = refl
made-is (Some t) (Some n) (Some (x ∷ (y ∷ []))) = refl
made-is (Some t) (Some n) (Some (x ∷ (y ∷ (z ∷ l)))) = rw (ne_eqb (suc (suc (suc (length l)))) 2 (λ e. omega arith)) refl

module _ (h : List ℕ) (at : ℕ) where
  pub no-entry : at ≡ 0 → Describes h at (Err Missing)
  no-entry z = record { is = λ k o q s e. of k o s e }
    where
      of : (k : ℕ) (o : Option Entry) → Stands h k o → at ≡ place_of h o → Err Missing ≡ summary (found_in o)
      of k o nowhere e = refl
      of k o (somewhere a b c l) e = absurd (omega arith)

  module _ {t s o : ℕ} (f : Gets h at 32 (word "dtype") t) (g : Gets h at 32 (word "shape") s) (i : Gets h at 32 (word "data_offsets") o) where
    -- a member of the entry stands where it was found
    member-at : {n j : ℕ} (w : List ℕ) → plain w ≡ true → Gets h at 32 w n → (x : Entry) → at ≡ place_of h (Some x) → drop (place_of h (Some x)) h ≡ x.from → x.level < j → j ≤ 32 → (Stands h x.level (lookup w (entries_of x.value))) × (n ≡ place_of h (lookup w (entries_of x.value)))
    member-at {n} {j} w a z x e b l q =
        let u : drop at h ≡ x.from = ap (λ (m : ℕ). drop m h) e ∙ b in
        (found h w at x.value u, z.value x.level x.from x.to u (omega arith) (ascii w a) x.value)

    pub an-entry : (at ≡ 0 → ⊥) → {d : Result Kind Undescribed} {u v : Option Sizes} {r : Kept} → Dtyped h t d → Sized h s u → Sized h o v → r ≡ made_of d u v → Describes h at r
    unfolding found_by place_of
    an-entry n {d} {u} {v} {r} x y z m = record { is = λ k p q w e. of k p q w e }
      where
        of : (k : ℕ) (p : Option Entry) → k ≤ 32 → Stands h k p → at ≡ place_of h p → r ≡ summary (found_in p)
        of k p q nowhere e = absurd (n e)
        of k p q (somewhere {e = c} a b l j) e =
            let dt = member-at (word "dtype") refl f c e b j q in
            let sh = member-at (word "shape") refl g c e b j q in
            let off = member-at (word "data_offsets") refl i c e b j q in
            m ∙ rw (x.is c.level _ dt.0 dt.1, y.is c.level _ sh.0 sh.1, z.is c.level _ off.0 off.1) (made-is (string_in (lookup (word "dtype") (entries_of c.value))) (sizes_in (lookup (word "shape") (entries_of c.value))) (sizes_in (lookup (word "data_offsets") (entries_of c.value))))
