-- What single bytes do in a string. Assumes nothing.
use mathlib.Core.Path.{◌≡◌, refl, sym, ap, subst, ◌∙◌}
use mathlib.Core.Bool.{false}
use mathlib.Core.List.{List, [], ◌∷◌, ◌++◌}
use mathlib.Core.Logic.{◌⊎◌, inl, inr}
use Prim.Native.Nat.{ℕ, ◌+◌, ◌≤◌, ◌<◌}
use native.Mathlib.Decide.{dec_lt}
use native.Mathlib.Omega.{arith}
use lib.ListN.{length, get_or, drop}
use Rattle.json_grammar.specs.inner.Machine.{tail, Sym, chars, escape, hex, range, alts, nullable, height, within, pick, took, stuck, settle, go}
use Rattle.json_grammar.specs.inner.Steps.{place, Lexes}
use Rattle.json_read.specs.inner.Steps.{Char}
use Rattle.json_grammar.specs.Judge.{Read}
use Rattle.std.specs.Prelude.{Ok, Err}
use Rattle.json_grammar.specs.declared.scan.Fault.{Fault}
use Rattle.json_grammar.specs.declared.scan.Fault.TheVariants as F
use Rattle.json_grammar.proofs.Picks.{clear, at, settle-at}
use Rattle.json_grammar.proofs.Steps.{go-took, frame-flat, byte-out, stops}

-- ---- characters

module _ {s : List ℕ} {at : ℕ} where
  pub char-step : (β : List Sym) {r : Read} → height (chars ∷ []) ≡ 0 → at < length s → settle (chars ∷ []) (get_or s at 0) ≡ took false (β ++ (chars ∷ [])) → Lexes s (at + 1) β r → Char s at r
  char-step β flat h e k =
      record {
        same = λ d. sym (go-took s at d (chars ∷ []) (β ++ (chars ∷ [])) h e ∙ frame-flat d (chars ∷ []) β (drop (at + 1) s) flat ∙ rw (← k.same d));
        low = omega (arith, k.low);
        high = omega (arith, k.high);
        falls = λ n q. omega (arith, k.low, ap place q);
      }

  pub char-plain : at < length s → settle (chars ∷ []) (get_or s at 0) ≡ took false (chars ∷ []) → Char s at (Ok (at + 1))
  char-plain h e =
      record {
        same = λ d. sym (go-took s at d (chars ∷ []) (chars ∷ []) h e);
        low = omega arith;
        high = omega arith;
        falls = λ n q. omega (arith, ap place q);
      }

  pub char-stuck : at < length s → settle (chars ∷ []) (get_or s at 0) ≡ stuck → Char s at (Err (F.Stop at))
  char-stuck h e =
      let k = stops h e in
      record { same = λ d. k.same d; low = omega arith; high = omega arith; falls = λ n q. let z : ◌≡◌ {A = ℕ} 0 1 = cc in absurd (omega arith) }

  -- the others are read behind it
  pub char-past : {n : ℕ} → Char s at (Ok n) → (d : ℕ) → go d (chars ∷ []) (drop at s) ≡ go d (chars ∷ []) (drop n s)
  char-past k d = sym (k.same d)

  pub char-told : {r q : Read} → r ≡ q → Char s at r → Char s at q
  char-told e k = subst (Char s at) e k

  pub char-err : (e : Fault) → Char s at (Err e) → Lexes s at (chars ∷ []) (Err e)
  char-err (F.Stop n) k = record { same = λ d. k.same d; low = k.low; high = k.high }
  char-err (F.Deep n) k = record { same = λ d. k.same d; low = k.low; high = k.high }

module _ (b : ℕ) where
  -- one byte that stands for itself
  pub plain-char : 0x20 ≤ b → b ≤ 0x7F → (b ≡ 0x22 → ⊥) → (b ≡ 0x5C → ⊥) → settle (chars ∷ []) b ≡ took false (chars ∷ [])
  unfolding alts at clear
  plain-char h w p q = of (dec_lt b 0x22) (dec_lt b 0x5C)
    where
      of : Dec (b < 0x22) → Dec (b < 0x5C) → settle (chars ∷ []) b ≡ took false (chars ∷ [])
      of (yes x) y = settle-at chars [] 0x20 0x21 1 b refl h (omega arith)
      of (no x) (yes y) = settle-at chars [] 0x23 0x5B 2 b refl (omega arith) (omega arith)
      of (no x) (no y) = settle-at chars [] 0x5D 0x7F 4 b refl (omega arith) w

  pub three-char : 0xE1 ≤ b → b ≤ 0xEF → (b ≡ 0xED → ⊥) → settle (chars ∷ []) b ≡ took false (range tail ∷ (range tail ∷ (chars ∷ [])))
  unfolding alts at clear
  three-char h w p = of (dec_lt b 0xED)
    where
      of : Dec (b < 0xED) → settle (chars ∷ []) b ≡ took false (range tail ∷ (range tail ∷ (chars ∷ [])))
      of (yes x) = settle-at chars [] 0xE1 0xEC 7 b refl h (omega arith)
      of (no x) = settle-at chars [] 0xEE 0xEF 9 b refl (omega arith) w

-- ---- escapes

abbrev Plain : ℕ → Type 0
Plain b = (b ≡ 0x22) ⊎ ((b ≡ 0x2F) ⊎ ((b ≡ 0x5C) ⊎ ((b ≡ 0x62) ⊎ ((b ≡ 0x66) ⊎ ((b ≡ 0x6E) ⊎ ((b ≡ 0x72) ⊎ (b ≡ 0x74)))))))

module _ (b : ℕ) where
  pub escape-plain : Plain b → settle (escape ∷ []) b ≡ took false []
  unfolding settle alts pick within
  escape-plain (inl e) = rw e
  escape-plain (inr (inl e)) = rw e
  escape-plain (inr (inr (inl e))) = rw e
  escape-plain (inr (inr (inr (inl e)))) = rw e
  escape-plain (inr (inr (inr (inr (inl e))))) = rw e
  escape-plain (inr (inr (inr (inr (inr (inl e)))))) = rw e
  escape-plain (inr (inr (inr (inr (inr (inr (inl e))))))) = rw e
  escape-plain (inr (inr (inr (inr (inr (inr (inr e))))))) = rw e

  pub escape-other : (Plain b → ⊥) → (b ≡ 0x75 → ⊥) → settle (escape ∷ []) b ≡ stuck
  unfolding settle alts pick nullable
  escape-other p q =
      rw (
        byte-out 0x22 b [] (λ e. p (inl e)),
        byte-out 0x5C b [] (λ e. p (inr (inr (inl e)))),
        byte-out 0x2F b [] (λ e. p (inr (inl e))),
        byte-out 0x62 b [] (λ e. p (inr (inr (inr (inl e))))),
        byte-out 0x66 b [] (λ e. p (inr (inr (inr (inr (inl e)))))),
        byte-out 0x6E b [] (λ e. p (inr (inr (inr (inr (inr (inl e))))))),
        byte-out 0x72 b [] (λ e. p (inr (inr (inr (inr (inr (inr (inl e)))))))),
        byte-out 0x74 b [] (λ e. p (inr (inr (inr (inr (inr (inr (inr e)))))))),
        byte-out 0x75 b (hex ∷ (hex ∷ (hex ∷ (hex ∷ [])))) q,
      )
