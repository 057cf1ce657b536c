-- The digits of a number, and what follows them. Assumes nothing.
use mathlib.Core.Path.{◌≡◌, refl, ap, ◌∙◌}
use mathlib.Core.Bool.{true, false}
use mathlib.Core.List.{List, [], ◌∷◌}
use Prim.Native.Nat.{ℕ, ◌+◌, ◌≤◌, ◌<◌}
use native.Mathlib.Omega.{arith}
use lib.ListN.{length, get_or, drop}
use Rattle.json_grammar.specs.inner.Machine.{value, values, spaced, natural, digits, frac, exp, settle, alts, pick, within, height, weight, ready, nullable}
use Rattle.json_grammar.specs.inner.Steps.{is_blank, is_digit, is_more, Lexes, LexesTo}
use Rattle.json_grammar.specs.Judge.{Read}
use Rattle.std.specs.Prelude.{Ok}
use Rattle.json_grammar.proofs.Steps.{go-took, go-alike, frame-flat, ends-past, passes, takes, alike, moved}
use Rattle.json_grammar.proofs.Lexing.{natural-more, more-none}
use Rattle.json_read.specs.inner.Steps.{Minus, minus, no_minus, Whole}
use Rattle.json_read.proofs.Values.{value-natural}

module _ {s : List ℕ} {at : ℕ} (h : at < length s) where
  pub whole-zero : get_or s at 0 ≡ 0x30 → Whole s at (at + 1)
  unfolding settle alts pick within
  whole-zero e =
      record {
        same = λ d. go-took s at d (natural ∷ []) (frac ∷ (exp ∷ [])) h (ap (settle (natural ∷ [])) e);
        low = omega arith;
        high = omega arith;
      }

  pub whole-more : {n : ℕ} → is_digit (get_or s at 0) ≡ true → (get_or s at 0 ≡ 0x30 → ⊥) → LexesTo s (at + 1) (digits ∷ []) n → Whole s at n
  unfolding height weight
  whole-more e ne k =
      record {
        same = λ d.
            go-took s at d (natural ∷ []) (digits ∷ (frac ∷ (exp ∷ []))) h (natural-more [] (get_or s at 0) e ne)
            ∙ frame-flat d (frac ∷ (exp ∷ [])) (digits ∷ []) (drop (at + 1) s) refl
            ∙ rw (← k.same d) refl;
        low = omega (arith, k.low);
        high = omega (arith, k.high);
      }

module _ {s : List ℕ} {at n : ℕ} (k : Whole s at n) where
  -- more of the number is read behind its digits
  pub whole-then : {r : Read} → Lexes s n (frac ∷ (exp ∷ [])) r → Lexes s at (natural ∷ []) r
  whole-then z = moved n (frac ∷ (exp ∷ [])) k.low k.high k.same z

  pub whole-end : length s ≤ n → Lexes s at (natural ∷ []) (Ok n)
  unfolding ready nullable
  whole-end h = whole-then (ends-past refl h)

  pub whole-alone : n < length s → is_more (get_or s n 0) ≡ false → Lexes s at (natural ∷ []) (Ok n)
  whole-alone h e = whole-then (passes h (more-none (get_or s n 0) e))

-- a value that begins as no other does is a number, with a minus or without
pub number-value :
    {s : List ℕ} {at n : ℕ} {r : Read} →
    at < length s →
    is_blank (get_or s at 0) ≡ false →
    (get_or s at 0 ≡ 0x22 → ⊥) →
    (get_or s at 0 ≡ 0x5B → ⊥) →
    (get_or s at 0 ≡ 0x7B → ⊥) →
    (get_or s at 0 ≡ 0x66 → ⊥) →
    (get_or s at 0 ≡ 0x6E → ⊥) →
    (get_or s at 0 ≡ 0x74 → ⊥) →
    Minus s at n →
    Lexes s n (natural ∷ []) r →
    Lexes s at (value ∷ []) r
unfolding settle alts pick within values spaced
number-value h b p q u x y z (minus e) k = takes (natural ∷ []) h (ap (settle (value ∷ [])) e) k
number-value {s} {at} h b p q u x y z (no_minus ne) k =
    alike (natural ∷ []) (λ d. go-alike s at d (value ∷ []) (natural ∷ []) h (value-natural [] (get_or s at 0) b p q u ne x y z)) k
