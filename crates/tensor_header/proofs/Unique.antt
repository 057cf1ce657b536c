-- Every file is one of five cases, so any two answers that satisfy the contract of `open` are equal, and so are the places
-- left; and what an opened file has. Assumes nothing.
use mathlib.Core.Path.{◌≡◌, refl, sym, ap, subst, ◌∙◌}
use mathlib.Core.Bool.{Bool, true, false, cond}
use mathlib.Core.List.{List}
use Prim.Native.Nat.{ℕ, ◌-◌, ◌≤◌, ◌<◌}
use native.Mathlib.Omega.{arith}
use lib.Dec.{leb}
use lib.ListN.{length, get_or}
use borrow.Author.Tests.{leb-true}
use Rattle.buffers.specs.Rows.{tab}
use Rattle.buffers.proofs.Lists.{and_left, and_right, get_or-tab}
use Rattle.buffers.proofs.Regions.{length-region}
use Rattle.json_grammar.specs.Grammar.{Ws, Value, Text, text}
use Rattle.json_grammar.specs.Judge.{Stopped, Deepened, Judged}
use Rattle.json_grammar.specs.inner.Machine.{read}
use Rattle.json_grammar.specs.inner.Steps.{located}
use Rattle.json_grammar.specs.Judge.{Read}
use Rattle.std.specs.Prelude.{Ok, Err}
use Rattle.json_grammar.specs.declared.scan.Fault.TheVariants as F
use Rattle.json_grammar.proofs.Verdict.{verdict}
use Rattle.json_members.specs.Names.{entries_of}
use Rattle.json_members.specs.inner.Turns.{place_of, Stands}
use Rattle.json_members.proofs.Suffix.{ws-s, drop-suffix, found}
use Rattle.picture_limits.specs.declared.Refusal.{Refusal}
use Rattle.encoder_settings.specs.declared.EncoderSettings.{EncoderSettings}
use Rattle.encoder_settings.specs.Settings.{allowed}
use Rattle.tensor_header.specs.Tensors.{tensors, entry_at}
use Rattle.tensor_header.specs.Header.{header_length, framed, header_of, is_object, place_in, Opened, damaged, refused, opened, Opening}
use Rattle.tensor_header.specs.inner.Named.{names, name_at}
use Rattle.tensor_header.proofs.Told.{entry-is, place_is, names-long}

pub data Case (s : EncoderSettings) (file : List ℕ) : Type 0 where
  not-allowed : allowed s ≡ false → Case s file
  not-framed : allowed s ≡ true → framed file ≡ false → Case s file
  stops : allowed s ≡ true → framed file ≡ true → (n : ℕ) → Stopped 32 (header_of file) n → Case s file
  deepens : allowed s ≡ true → framed file ≡ true → (n : ℕ) → Deepened 32 (header_of file) n → Case s file
  is-text : allowed s ≡ true → framed file ≡ true → Text 32 (header_of file) → Case s file

pub case-of : (s : EncoderSettings) (file : List ℕ) → Case s file
unfolding Judged
case-of s file = of (allowed s) refl (framed file) refl (located (header_of file) (read 32 (header_of file))) (verdict 32 (header_of file) refl)
  where
    of : (a : Bool) → allowed s ≡ a → (f : Bool) → framed file ≡ f → (r : Read) → Judged 32 (header_of file) r → Case s file
    of false e f g r j = not-allowed e
    of true e false g r j = not-framed e g
    of true e true g (Ok n) j = is-text e g j.1
    of true e true g (Err (F.Stop n)) j = stops e g n j
    of true e true g (Err (F.Deep n)) j = deepens e g n j

pub open-unique : (s : EncoderSettings) (file before after also : List ℕ) (a b : Opened) → Opening s file before after a → Opening s file before also b → (a ≡ b) × (after ≡ also)
open-unique s file before after also a b x y = of (case-of s file)
  where
    of : Case s file → (a ≡ b) × (after ≡ also)
    of (not-allowed h) = ((x.setting h).0 ∙ sym (y.setting h).0, (x.setting h).1 ∙ sym (y.setting h).1)
    of (not-framed h f) = ((x.unframed h f).0 ∙ sym (y.unframed h f).0, (x.unframed h f).1 ∙ sym (y.unframed h f).1)
    of (stops h f n k) = (((x.headed h f).stopped n k).0 ∙ sym ((y.headed h f).stopped n k).0, ((x.headed h f).stopped n k).1 ∙ sym ((y.headed h f).stopped n k).1)
    of (deepens h f n k) = (((x.headed h f).deep n k).0 ∙ sym ((y.headed h f).deep n k).0, ((x.headed h f).deep n k).1 ∙ sym ((y.headed h f).deep n k).1)
    of (is-text h f t) = (((x.headed h f).read t).0 ∙ sym ((y.headed h f).read t).0, ((x.headed h f).read t).1 ∙ sym ((y.headed h f).read t).1)

-- ---- what an opened file has

pub record Opens (s : EncoderSettings) (file : List ℕ) (n : ℕ) : Type 0 where
  pub settings : allowed s ≡ true
  pub frame : framed file ≡ true
  pub eight : 8 ≤ length file
  pub inside : header_length file ≤ length file - 8
  pub long : n ≡ header_length file

pub open-not : (n : ℕ) (why : Refusal) (p : ℕ) → ◌≡◌ {A = Opened} (Ok n) (refused why p) → ⊥
open-not n why p e = let z : ◌≡◌ {A = ℕ} 0 1 = cc in omega arith

pub one_of : (b : Bool) (n m p : ℕ) → ◌≡◌ {A = Opened} (Ok n) (cond b (Ok m) (Err (damaged p))) → (b ≡ true) × (n ≡ m)
one_of true n m p e = let h : n ≡ m = cc in (refl, h)
one_of false n m p e = absurd (open-not n _ _ e)

text-opens : {h : List ℕ} (s : EncoderSettings) (t : Text 32 h) (n : ℕ) → Ok n ≡ opened t → n ≡ length h
unfolding opened
text-opens {h} s (text {m = m} w v u) n e = (one_of (is_object v) n (length h) (length h - length m) e).1

pub opens : (s : EncoderSettings) (file before after : List ℕ) (n : ℕ) → Opening s file before after (Ok n) → Opens s file n
opens s file before after n x = of (case-of s file)
  where
    of : Case s file → Opens s file n
    of (not-allowed h) = absurd (open-not n _ _ (x.setting h).0)
    of (not-framed h f) = absurd (open-not n _ _ (x.unframed h f).0)
    of (stops h f m k) = absurd (open-not n _ _ ((x.headed h f).stopped m k).0)
    of (deepens h f m k) = absurd (open-not n _ _ ((x.headed h f).deep m k).0)
    of (is-text h f t) =
        let e = leb-true 8 (length file) (and_left (leb 8 (length file)) (leb (header_length file) (length file - 8)) f) in
        let i = leb-true (header_length file) (length file - 8) (and_right (leb 8 (length file)) (leb (header_length file) (length file - 8)) f) in
        record { settings = h; frame = f; eight = e; inside = i; long = text-opens s t n ((x.headed h f).read t).0 ∙ length-region file 8 (header_length file) (omega arith) }

-- where a value is an object, its entries stand at the places that are left
pub entries-stand : {h m n : List ℕ} (s : EncoderSettings) (w : Ws h m) (v : Value 32 m n) (i : ℕ) → i < length (tensors s) → Stands h 32 (entry_at (tensors s) (entries_of v) i)
entries-stand {h} {m} s w v i x =
    subst (Stands h 32) (sym (entry-is (tensors s) (entries_of v) i (rw (names-long (tensors s)) x))) (found h (name_at (names (tensors s)) i) (length h - length m) v (drop-suffix (ws-s w)))

pub entries-placed : (h : List ℕ) {m n : List ℕ} (s : EncoderSettings) (v : Value 32 m n) (before after : List ℕ) (i : ℕ) → i < length before → after ≡ tab (length before) (λ i. place_in h (entry_at (tensors s) (entries_of v) i)) → get_or after i 0 ≡ place_of h (entry_at (tensors s) (entries_of v) i)
entries-placed h s v before after i x e =
    ap (λ (l : List ℕ). get_or l i 0) e ∙ get_or-tab (length before) i (λ i. place_in h (entry_at (tensors s) (entries_of v) i)) 0 x ∙ sym (place_is h (entry_at (tensors s) (entries_of v) i))
