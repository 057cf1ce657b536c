-- Forward with plain attention agrees with forward wherever neither 22 nor its own 11 comes first. Assumes nothing.
use mathlib.Core.Bool.{Bool, true, false, ◌&&◌}
use mathlib.Core.Path.{◌≡◌, refl, sym, ap, ◌∙◌, subst}
use mathlib.Core.List.{List}
use Prim.Native.Nat.{ℕ, suc, ◌+◌, ◌*◌, ◌-◌, ◌/◌, ◌≤◌}
use native.Mathlib.Omega.{arith}
use borrow.Author.Tests.{leb-true, le-leb}
use lib.Dec.{leb, eqb}
use lib.ListN.{length}
use lib.Ieee.{Float}
use Rattle.picture_limits.specs.declared.Refusal.TheVariants.{Setting, Output, WeightsLength, TableLength, Scratch, Tokens}
use Rattle.picture_limits.specs.declared.Refusal.{Refusal}
use Rattle.std.specs.Prelude.{Result, Ok, Err}
use Rattle.picture_limits.specs.Refusal.{unless}
use Rattle.picture_limits.specs.Shape.{shaped}
use Rattle.encoder_settings.specs.declared.EncoderSettings.{EncoderSettings}
use Rattle.encoder_settings.specs.Settings as S
use Rattle.encoder_settings.specs.Settings.{Checked, accepted, allowed, merge_area, weight_floats, scratch_floats, plain_floats, full_tables, lengths, onward, checked_of, checked_plain}
use Rattle.encoder_steps.specs.Run.{Run, stopped, went}
use Rattle.encoder_run.specs.Stages.{forward_run}
use Rattle.encoder.specs.Forward.{number, encoded_of, out_of, scratch_of}
use Rattle.encoder_run.specs.Answer.{Encoded, encoded_by, out_by, scratch_by}
use Rattle.encoder.specs.Plain.{encoded_plain, out_plain, scratch_plain, PlainAgrees}

-- the number of what settings and lengths say shows in the answer
shows : (c : Checked) (r : Run) (n : ℕ) → S.number c ≡ suc n → number (encoded_by c r) ≡ suc n
shows (Err x) r n e = e
shows (Ok a) r n e = absurd (omega (arith, e))

-- 9, 10, 5: the same; behind them the plain call asks for more
by-scratch : (a b c d d' : Bool) (t o : ℕ) → (d' ≡ true → d ≡ true)
    → (let P = unless a (Err WeightsLength) (unless b (Err TableLength) (unless c (Err Output) (unless d' (Err Scratch) (accepted t o)))) in
    let F = unless a (Err WeightsLength) (unless b (Err TableLength) (unless c (Err Output) (unless d (Err Scratch) (accepted t o)))) in
    (S.number P ≡ 11 → ⊥) → P ≡ F)
by-scratch false b c d d' t o h k = refl
by-scratch true false c d d' t o h k = refl
by-scratch true true false d d' t o h k = refl
by-scratch true true true d false t o h k = absurd (k refl)
by-scratch true true true d true t o h k = rw (h refl) refl

module _ (s : EncoderSettings) (gh gw patches weights : ℕ) (tables : Bool) (out scratch : ℕ) where
  abbrev plain_rest : ℕ → Checked
  plain_rest t = let o = t / merge_area s.picture in unless (leb t 64) (Err Tokens) (lengths s t o weights tables out (plain_floats s t o) scratch)

  abbrev rest : ℕ → Checked
  rest t = let o = t / merge_area s.picture in lengths s t o weights tables out (scratch_floats s t o) scratch

  by-tokens : (t : ℕ) (a : Bool) → leb t 64 ≡ a → (S.number (plain_rest t) ≡ 22 → ⊥) → (S.number (plain_rest t) ≡ 11 → ⊥) → plain_rest t ≡ rest t
  unfolding lengths
  by-tokens t false e h k = absurd (h (rw e refl))
  by-tokens t true e h k =
      let o = t / merge_area s.picture in
      let m : leb (plain_floats s t o) scratch ≡ true → leb (scratch_floats s t o) scratch ≡ true =
      λ z. let q = leb-true (plain_floats s t o) scratch z in le-leb (scratch_floats s t o) scratch (omega arith) in
      rw e (by-scratch (eqb weights (weight_floats s)) tables (leb (o * s.text_hidden_size) out) (leb (scratch_floats s t o) scratch) (leb (plain_floats s t o) scratch) t o m (λ z. k (rw e z)))

  by_shape : (h : Result ℕ Refusal) → (S.number (onward h plain_rest) ≡ 22 → ⊥) → (S.number (onward h plain_rest) ≡ 11 → ⊥) → onward h plain_rest ≡ onward h rest
  by_shape (Ok t) a b = by-tokens t (leb t 64) refl a b
  by_shape (Err r) a b = refl

  by-settings : (a : Bool) → (S.number (unless a (Err Setting) (onward (shaped s.picture gh gw patches) plain_rest)) ≡ 22 → ⊥)
      → (S.number (unless a (Err Setting) (onward (shaped s.picture gh gw patches) plain_rest)) ≡ 11 → ⊥)
      → unless a (Err Setting) (onward (shaped s.picture gh gw patches) plain_rest) ≡ unless a (Err Setting) (onward (shaped s.picture gh gw patches) rest)
  by-settings true h k = by_shape (shaped s.picture gh gw patches) h k
  by-settings false h k = refl

  same : (S.number (checked_plain s gh gw patches weights tables out scratch) ≡ 22 → ⊥) → (S.number (checked_plain s gh gw patches weights tables out scratch) ≡ 11 → ⊥)
      → checked_plain s gh gw patches weights tables out scratch ≡ checked_of s gh gw patches weights tables out scratch
  unfolding checked_plain checked_of
  same h k = by-settings (allowed s) h k

pub plain-agrees : PlainAgrees
unfolding encoded_plain out_plain scratch_plain encoded_of out_of scratch_of
plain-agrees s gh gw w cos sin x out scratch h k =
    let R = forward_run s gh gw w cos sin x in
    let T = full_tables s (length cos) (length sin) in
    let P = checked_plain s gh gw (length x) (length w) T (length out) (length scratch) in
    let e = same s gh gw (length x) (length w) T (length out) (length scratch) (λ z. h (shows P R 21 z)) (λ z. k (shows P R 10 z)) in
    (ap (λ (c : Checked). encoded_by c R) e, ap (λ (c : Checked). out_by c R out) e, ap (λ (c : Checked). scratch_by c scratch) e)
