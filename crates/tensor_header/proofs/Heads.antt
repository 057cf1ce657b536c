-- The answer for a header by what the reader says of it. Assumes nothing.
use mathlib.Core.Path.{◌≡◌, refl, sym, ap, subst, ◌∙◌}
use mathlib.Core.Bool.{Bool, true, false, ◌&&◌, false≢true}
use mathlib.Core.List.{List}
use Prim.Native.Nat.{ℕ, ◌-◌, ◌≤◌, ◌<◌}
use native.Mathlib.Omega.{arith}
use lib.Dec.{leb}
use lib.ListN.{length}
use borrow.Author.Tests.{le-leb, lt-leb}
use Rattle.json_grammar.specs.Judge.{Judged}
use Rattle.json_grammar.specs.inner.Steps.{place}
use Rattle.json_grammar.specs.Judge.{Read}
use Rattle.std.specs.Prelude.{Ok, Err}
use Rattle.json_grammar.specs.declared.scan.Fault.TheVariants as F
use Rattle.json_grammar.proofs.Answers.{by-text, by-stop, by-depth, past_stop, past-deep, stop-past, stop-deep, deep-past, deep-stop}
use Rattle.encoder_settings.specs.declared.EncoderSettings.{EncoderSettings}
use Rattle.encoder_settings.specs.Settings.{allowed}
use Rattle.encoder_settings.proofs.Bounds.{allowed-says}
use Rattle.picture_limits.specs.declared.Refusal.TheVariants.{Setting, Header}
use Rattle.tensor_header.specs.Header.{header_length, framed, header_of, Opened, damaged, refused, Headed, Opening}
use Rattle.tensor_header.specs.inner.Walked.{Found}

module _ (h : List ℕ) where
  pub judged-as : (r q : Read) → r ≡ q → Judged 32 h r → Judged 32 h q
  judged-as r q e j = subst (Judged 32 h) e j

  pub stop-inside : (n : ℕ) → Judged 32 h (Err (F.Stop n)) → n ≤ length h
  unfolding Judged
  stop-inside n j = j.inside

  pub deep-inside : (n : ℕ) → Judged 32 h (Err (F.Deep n)) → n ≤ length h
  unfolding Judged
  deep-inside n j = omega (arith, j.inside)

module _ (s : EncoderSettings) (h before : List ℕ) (n : ℕ) where
  pub when-past : {after : List ℕ} {r : Opened} → Judged 32 h (Ok n) → Found s h before after r → Headed s h before after r
  when-past j f =
      record {
        stopped = λ m x. absurd (past_stop n m (by-stop 32 h j x));
        deep = λ m x. absurd (past-deep n m (by-depth 32 h j x));
        read = λ t. f.told t;
      }

  pub when-stop : Judged 32 h (Err (F.Stop n)) → Headed s h before before (Err (damaged n))
  when-stop j =
      record {
        stopped = λ m x. (ap (λ (i : ℕ). Err (damaged i)) (ap place (by-stop 32 h j x)), refl);
        deep = λ m x. absurd (stop-deep n m (by-depth 32 h j x));
        read = λ t. absurd (stop-past n (length h) (by-text 32 h j t));
      }

  pub when-deep : Judged 32 h (Err (F.Deep n)) → Headed s h before before (Err (damaged n))
  when-deep j =
      record {
        stopped = λ m x. absurd (deep-stop n m (by-stop 32 h j x));
        deep = λ m x. (ap (λ (i : ℕ). Err (damaged i)) (ap place (by-depth 32 h j x)), refl);
        read = λ t. absurd (deep-past n (length h) (by-text 32 h j t));
      }

-- ---- the whole file

module _ (s : EncoderSettings) (file before : List ℕ) where
  pub not-allowed : allowed s ≡ false → Opening s file before before (refused Setting 0)
  not-allowed a =
      record {
        setting = λ x. (refl, refl);
        unframed = λ x y. absurd (false≢true (sym a ∙ x));
        headed = λ x y. absurd (false≢true (sym a ∙ x));
      }

  pub not-framed : allowed s ≡ true → framed file ≡ false → Opening s file before before (refused Header 0)
  not-framed a f =
      record {
        setting = λ x. absurd (false≢true (sym x ∙ a));
        unframed = λ x y. (refl, refl);
        headed = λ x y. absurd (false≢true (sym f ∙ y));
      }

  pub with-header : {h after : List ℕ} {r : Opened} → allowed s ≡ true → framed file ≡ true → h ≡ header_of file → Headed s h before after r → Opening s file before after r
  with-header {h} {after} {r} a f e k =
      record {
        setting = λ x. absurd (false≢true (sym x ∙ a));
        unframed = λ x y. absurd (false≢true (sym y ∙ f));
        headed = λ x y. subst (λ (l : List ℕ). Headed s l before after r) e k;
      }

  pub too_short : length file < 8 → framed file ≡ false
  too_short h = rw (lt-leb 8 (length file) h)

  pub past_end : length file - 8 < header_length file → framed file ≡ false
  past_end h = rw (lt-leb (header_length file) (length file - 8) h) (and-false (leb 8 (length file)))
    where
      and-false : (b : Bool) → (b && false) ≡ false
      and-false true = refl
      and-false false = refl

  pub in_frame : 8 ≤ length file → header_length file ≤ length file - 8 → framed file ≡ true
  in_frame h k = rw (le-leb 8 (length file) h, le-leb (header_length file) (length file - 8) k)

pub few-layers : (s : EncoderSettings) → allowed s ≡ true → s.num_layers ≤ 48
few-layers s h = (allowed-says s h).ranges.layers
