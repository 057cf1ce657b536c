-- Laws of records: the first of a text, and one after another. Assumes nothing.
use mathlib.Core.Path.{◌≡◌, refl, sym, subst, ap, ◌∙◌}
use mathlib.Core.Bool.{Bool, true, false, ◌&&◌}
use mathlib.Core.List.{List, [], ◌∷◌, ◌++◌}
use Prim.Native.Nat.{ℕ, ◌+◌, ◌-◌, ◌≤◌, ◌<◌}
use native.Mathlib.Nat.{le_refl}
use native.Mathlib.Omega.{arith}
use borrow.Author.Tests.{le-leb, lt-leb}
use lib.Dec.{eqb, leb}
use lib.ListN.{length, take, drop, replicate, length-drop, drop_of_length-le}
use lib.Seq.{take_all, drop-drop}
use Rattle.buffers.specs.Region.{region, over}
use Rattle.encoder_settings.specs.declared.EncoderSettings.{EncoderSettings}
use Rattle.weights.specs.File.{Weighing}
use Rattle.weights.specs.File.{Weighed}
use Rattle.replay.specs.Hash.{word_hash}
use Rattle.replay.specs.Line.{Read, read_of}
use Rattle.replay.proofs.Lines.{read_whole}
use Rattle.weights_replay.specs.declared.record.Step.{Step}
use Rattle.weights_replay.specs.declared.text.Counts.{Counts}
use Rattle.weights_replay.specs.Record.{at, settings_of, lent_of, marked, said_agrees, Judges, unread, line_len, numbers_of, is_read, Steps, bad, cut, whole, counted, Tally, next}
use Rattle.weights_replay.specs.Record as R

pub rest : (s : List ℕ) (at : ℕ) → take (length s - at) (drop at s) ≡ drop at s
rest s at = take_all (length s - at) (drop at s) (simp length-drop (le_refl (length s - at)))

-- ---- the first record: n is the length of its line, v are the numbers that were read there

module _ (t v : List ℕ) (n : ℕ) (b : Bool) (n-is : n ≡ line_len t) (b-is : b ≡ (read_of 18 (take n t)).whole) where
  pub step-bad : b ≡ false → Steps t (unread t)
  step-bad e = bad (ap (λ (m : ℕ). (read_of 18 (take m t)).whole) (sym n-is) ∙ sym b-is ∙ e)

  module _ (v-is : v ≡ over (read_of 18 (take n t)).list (replicate 18 0)) (e : b ≡ true) where
    read : is_read t ≡ true
    read = ap (λ (m : ℕ). (read_of 18 (take m t)).whole) (sym n-is) ∙ sym b-is ∙ e

    numbers : v ≡ numbers_of t
    numbers = sym (ap (λ (r : Read). r.list) (read_whole 18 (take n t) (replicate 18 0) v b refl b-is v-is e)) ∙ ap (λ (m : ℕ). (read_of 18 (take m t)).list) n-is

    pub step_cut : length t - n ≤ at v 0 → Steps t (unread t)
    step_cut h = cut read (rw (← n-is, ← numbers) (le-leb (length t - n) (at v 0) h))

    pub step-whole : (r : Bool) → at v 0 < length t - n → Judges (region t n (at v 0)) v r → Steps t (record { len = n + at v 0 + 1; same = r })
    step-whole r h k =
        let x : leb (length t - line_len t) (at (numbers_of t) 0) ≡ false = rw (← n-is, ← numbers) (lt-leb (length t - n) (at v 0) h) in
        let y : Judges (region t (line_len t) (at (numbers_of t) 0)) (numbers_of t) r = rw (← n-is, ← numbers) k in
        rw (n-is, numbers) (whole read x y)

-- ---- a file's answer a, the words w that the call left of those that it was lent, and what was made of them

pub judged : {s : EncoderSettings} {f v out w : List ℕ} {n h : ℕ} {p : Bool} (a : Weighed)
    → out ≡ marked → n ≡ lent_of (at v 12) → s ≡ settings_of v → Weighing s f (take n out) w a → h ≡ word_hash (w ++ drop n out) → p ≡ said_agrees a v
    → Judges f v (p && eqb h (at v 17))
judged {s} {f} {v} {out} {w} {n} {h} {p} a o_is n-is s-is k h-is p-is =
    let x : Weighing (settings_of v) f (take (lent_of (at v 12)) marked) w a = rw (o_is, n-is, s-is) at k in
    let y : word_hash (w ++ drop n out) ≡ word_hash (w ++ drop (lent_of (at v 12)) marked) = rw (o_is, n-is) refl in
    record {
      answer = a;
      after = w;
      given = x;
      is = ap (λ (q : Bool). q && eqb h (at v 17)) p-is ∙ ap (λ (m : ℕ). said_agrees a v && eqb m (at v 17)) (h-is ∙ y);
    }

-- ---- one record after another

-- where the records from `at` on lead from c, there all of them lead from `from`
abbrev pub Leads : Counts → List ℕ → ℕ → Counts → Type 0
Leads from t at c = (r : Counts) → Tally c (drop at t) r → Tally from t r

front : (t : List ℕ) {c r : Counts} (s : Step) → 0 < length t → Steps t s → Tally (counted s.same c) (drop s.len t) r → Tally c t r
front [] s h k x = absurd (omega arith)
front (b ∷ bs) s h k x = next k x

pub turn : (from : Counts) (t : List ℕ) (at : ℕ) (c : Counts) (s : Step) → at < length t → Steps (drop at t) s → Leads from t at c → Leads from t (at + s.len) (counted s.same c)
turn from t at c s h k l r x =
    l r (front (drop at t) s (rw length-drop (omega arith)) k (subst (λ (m : List ℕ). Tally (counted s.same c) m r) (sym (drop-drop s.len at t)) x))

pub ends : (from : Counts) (t : List ℕ) (at : ℕ) (c : Counts) → length t ≤ at → Leads from t at c → Tally from t c
ends from t at c h l = l c (rw (drop_of_length-le t h) R.over)

pub counted-sum : (b : Bool) (c : Counts) → (counted b c).agree + (counted b c).differ ≡ c.agree + c.differ + 1
counted-sum true c = omega arith
counted-sum false c = omega arith
