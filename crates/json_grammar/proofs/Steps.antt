-- What is read at a place of a slice. Assumes nothing.
use mathlib.Core.Path.{◌≡◌, refl, sym, subst, ◌∙◌}
use mathlib.Core.Bool.{Bool, true, false, cond, ◌&&◌, ◌||◌, false≢true}
use mathlib.Core.List.{List, [], ◌∷◌, ◌++◌}
use mathlib.Core.Option.{some}
use Prim.Native.Nat.{ℕ, suc, ◌+◌, ◌-◌, ◌≤◌, ◌<◌}
use native.Mathlib.Numerals.{add-one}
use native.Mathlib.Omega.{arith}
use lib.Dec.{leb, eqb}
use lib.ListN.{length, get_or, drop, drop_of_length-le}
use lib.Seq.{drop-cons}
use borrow.Author.Tests.{le-leb, leb-true, eqb-true, eqb-false}
use Rattle.json_grammar.specs.inner.Machine.{Sym, Alt, byte, spaced, alts, height, within, pick, took, empty, stuck, settle, ready, past, at_end, onward, go, after}
use Rattle.json_grammar.specs.inner.Steps.{is_blank, seen, Reads, Lexes, skip, Skips}
use Rattle.json_grammar.specs.Judge.{Read}
use Rattle.std.specs.Prelude.{Ok, Err}
use Rattle.json_grammar.specs.declared.scan.Fault.{Fault}
use Rattle.json_grammar.specs.declared.scan.Fault.TheVariants as F
use Rattle.json_grammar.proofs.Frame.{frame}
use Rattle.json_grammar.proofs.Picks.{go-some}

pub go-nil : (d : ℕ) (l : List ℕ) → go d [] l ≡ past l
unfolding go settle ready
go-nil d [] = refl
go-nil d (b ∷ l) = refl

pub go-end : (s : List ℕ) (at d : ℕ) (α : List Sym) → length s ≤ at → go d α (drop at s) ≡ at_end (ready α)
unfolding go
go-end s at d α h = rw (drop_of_length-le s h)

pub go-at :
    (s : List ℕ) (at d : ℕ) (α : List Sym) →
    at < length s →
    go d α (drop at s) ≡ onward d (drop at s) (λ β. go d β (drop (at + 1) s)) (settle α (get_or s at 0))
unfolding go
go-at s at d α h = rw (add-one at, drop-cons s at 0 h)

-- a byte is taken that opens no bracket, and β is expected
pub go-took : (s : List ℕ) (at d : ℕ) (α β : List Sym) → at < length s → settle α (get_or s at 0) ≡ took false β → go d α (drop at s) ≡ go d β (drop (at + 1) s)
go-took s at d α β h e = go-at s at d α h ∙ rw e

-- a bracket is opened
pub go-open : (s : List ℕ) (at d : ℕ) (α β : List Sym) → at < length s → settle α (get_or s at 0) ≡ took true β → height β ≤ d → go d α (drop at s) ≡ go d β (drop (at + 1) s)
go-open s at d α β h e w = go-at s at d α h ∙ rw (e, le-leb (height β) d w)

-- the byte is expected by β as by α
pub go-alike : (s : List ℕ) (at d : ℕ) (α β : List Sym) → at < length s → settle α (get_or s at 0) ≡ settle β (get_or s at 0) → go d α (drop at s) ≡ go d β (drop at s)
go-alike s at d α β h e = go-at s at d α h ∙ rw e (sym (go-at s at d β h))

module _ {s : List ℕ} {at : ℕ} {α : List Sym} where
  -- the end is reached
  pub ends : ready α ≡ false → length s ≤ at → Lexes s at α (Err (F.Stop at))
  ends e h = record { same = λ d. rw (go-end s at d α h, e, drop_of_length-le s h); low = omega arith; high = omega arith }

  pub ends-past : ready α ≡ true → length s ≤ at → Lexes s at α (Ok at)
  ends-past e h = record { same = λ d. rw (go-end s at d α h, e, drop_of_length-le s h); low = omega arith; high = omega arith }

  -- no alternative has the byte
  pub stops : at < length s → settle α (get_or s at 0) ≡ stuck → Lexes s at α (Err (F.Stop at))
  stops h e = record { same = λ d. rw (go-at s at d α h, e); low = omega arith; high = omega arith }

  -- nothing is expected that has the byte
  pub passes : at < length s → settle α (get_or s at 0) ≡ empty → Lexes s at α (Ok at)
  passes h e = record { same = λ d. rw (go-at s at d α h, e); low = omega arith; high = omega arith }

  -- the byte is the last that is expected
  pub closes : at < length s → settle α (get_or s at 0) ≡ took false [] → Lexes s at α (Ok (at + 1))
  closes h e = record { same = λ d. sym (go-took s at d α [] h e ∙ go-nil d (drop (at + 1) s)); low = omega arith; high = omega arith }

  -- a byte is taken, and the others are read
  pub takes : (β : List Sym) {r : Read} → at < length s → settle α (get_or s at 0) ≡ took false β → Lexes s (at + 1) β r → Lexes s at α r
  takes β h e k = record { same = λ d. k.same d ∙ sym (go-took s at d α β h e); low = omega arith; high = omega arith }

  -- what is expected is as good as β
  pub alike : (β : List Sym) {r : Read} → ((d : ℕ) → go d α (drop at s) ≡ go d β (drop at s)) → Lexes s at β r → Lexes s at α r
  alike β e k = record { same = λ d. k.same d ∙ sym (e d); low = k.low; high = k.high }

  -- β is expected further on
  pub moved : (i : ℕ) (β : List Sym) {r : Read} → at ≤ i → i ≤ at + (length s - at) → ((d : ℕ) → go d α (drop at s) ≡ go d β (drop i s)) → Lexes s i β r → Lexes s at α r
  moved i β h w e k = record { same = λ d. k.same d ∙ sym (e d); low = omega (arith, k.low); high = omega (arith, k.high) }

  pub told : {r q : Read} → r ≡ q → Lexes s at α r → Lexes s at α q
  told e k = subst (Lexes s at α) e k

  pub at-limit : {d : ℕ} {r : Read} → Lexes s at α r → Reads s at d α r
  at-limit {d} k = record { same = k.same d; low = k.low; high = k.high }

-- ---- one after the other

pub frame-flat : (d : ℕ) (base α : List Sym) (l : List ℕ) → height base ≡ 0 → go d (α ++ base) l ≡ after (go d α l) (go d base)
frame-flat d base α l h = subst (λ (k : ℕ). go k (α ++ base) l ≡ after (go d α l) (go k base)) (omega arith) (frame d base α l)

module _ {s : List ℕ} {at : ℕ} {α : List Sym} (base : List Sym) (flat : height base ≡ 0) where
  whole : {r : Read} → Lexes s at α r → (d : ℕ) → go d (α ++ base) (drop at s) ≡ after (seen s r) (go d base)
  whole k d = frame-flat d base α (drop at s) flat ∙ rw (← k.same d)

  pub then-past : {n : ℕ} {r : Read} → Lexes s at α (Ok n) → Lexes s n base r → Lexes s at (α ++ base) r
  then-past k m = record { same = λ d. m.same d ∙ sym (whole k d); low = omega (arith, k.low, m.low); high = omega (arith, k.high, m.high, k.low) }

  pub then-err : (e : Fault) → Lexes s at α (Err e) → Lexes s at (α ++ base) (Err e)
  then-err (F.Stop n) k = record { same = λ d. sym (whole k d); low = k.low; high = k.high }
  then-err (F.Deep n) k = record { same = λ d. sym (whole k d); low = k.low; high = k.high }

-- ---- blanks

pub byte-out : (x b : ℕ) (α : List Sym) → (b ≡ x → ⊥) → within (byte x α) b ≡ false
unfolding within
byte-out x b α ne = of (leb x b) (leb b x) refl refl
  where
    of : (t u : Bool) → leb x b ≡ t → leb b x ≡ u → (t && u) ≡ false
    of true true p q = let h : x ≤ b = leb-true x b p in let k : b ≤ x = leb-true b x q in absurd (ne (omega arith))
    of true false p q = refl
    of false u p q = refl

pub or-neither : (s t : Bool) → (s || t) ≡ false → (s ≡ false) × (t ≡ false)
or-neither true t h = absurd (false≢true (sym h))
or-neither false t h = (refl, h)

-- a byte that is no blank
pub record Solid (b : ℕ) : Type 0 where
  pub no-space : b ≡ 0x20 → ⊥
  pub no-tab : b ≡ 0x09 → ⊥
  pub no-feed : b ≡ 0x0A → ⊥
  pub no_return : b ≡ 0x0D → ⊥

pub solid : (b : ℕ) → is_blank b ≡ false → Solid b
solid b h =
    let p = or-neither (eqb b 0x20) (eqb b 0x09 || (eqb b 0x0A || eqb b 0x0D)) h in
    let q = or-neither (eqb b 0x09) (eqb b 0x0A || eqb b 0x0D) p.1 in
    let r = or-neither (eqb b 0x0A) (eqb b 0x0D) q.1 in
    record { no-space = eqb-false b 0x20 p.0; no-tab = eqb-false b 0x09 q.0; no-feed = eqb-false b 0x0A r.0; no_return = eqb-false b 0x0D r.1 }

pub pick-solid : (α : List Sym) (more : List Alt) (b : ℕ) → is_blank b ≡ false → pick (spaced α more) b ≡ pick more b
unfolding spaced pick
pick-solid α more b h =
    let k = solid b h in
    rw (byte-out 0x20 b α k.no-space, byte-out 0x09 b α k.no-tab, byte-out 0x0A b α k.no-feed, byte-out 0x0D b α k.no_return)

-- blanks change nothing where they are expected
blank_step : (d : ℕ) (n : Sym) (α : List Sym) (more : List Alt) → alts n ≡ spaced (n ∷ []) more → (b : ℕ) (l : List ℕ) → is_blank b ≡ true → go d (n ∷ α) (b ∷ l) ≡ go d (n ∷ α) l
unfolding spaced pick within
blank_step d n α more e b l h = of (eqb b 0x20) (eqb b 0x09) (eqb b 0x0A) (eqb b 0x0D) refl refl refl refl h
  where
    taken : (x : ℕ) → pick (alts n) x ≡ some (byte x (n ∷ [])) → b ≡ x → go d (n ∷ α) (b ∷ l) ≡ go d (n ∷ α) l
    taken x k q = rw q (go-some d n α x l (byte x (n ∷ [])) k refl)

    of : (p q r s : Bool) → eqb b 0x20 ≡ p → eqb b 0x09 ≡ q → eqb b 0x0A ≡ r → eqb b 0x0D ≡ s → (p || (q || (r || s))) ≡ true → go d (n ∷ α) (b ∷ l) ≡ go d (n ∷ α) l
    of true q r s hp hq hr hs k = taken 0x20 (rw e) (eqb-true b 0x20 hp)
    of false true r s hp hq hr hs k = taken 0x09 (rw e) (eqb-true b 0x09 hq)
    of false false true s hp hq hr hs k = taken 0x0A (rw e) (eqb-true b 0x0A hr)
    of false false false true hp hq hr hs k = taken 0x0D (rw e) (eqb-true b 0x0D hs)
    of false false false false hp hq hr hs k = absurd (false≢true k)

pub go-skip : (d : ℕ) (n : Sym) (α : List Sym) (more : List Alt) → alts n ≡ spaced (n ∷ []) more → (l : List ℕ) → go d (n ∷ α) l ≡ go d (n ∷ α) (skip l)
unfolding skip
go-skip d n α more e [] = refl
go-skip d n α more e (b ∷ l) = of (is_blank b) refl (go-skip d n α more e l)
  where
    of : (t : Bool) → is_blank b ≡ t → go d (n ∷ α) l ≡ go d (n ∷ α) (skip l) → go d (n ∷ α) (b ∷ l) ≡ go d (n ∷ α) (cond t (skip l) (b ∷ l))
    of true h k = blank_step d n α more e b l h ∙ k
    of false h k = refl

pub skip-solid : (l : List ℕ) (b : ℕ) (m : List ℕ) → skip l ≡ b ∷ m → is_blank b ≡ false
unfolding skip
skip-solid [] b m h = let z : ◌≡◌ {A = ℕ} 0 1 = cc in absurd (omega arith)
skip-solid (a ∷ l) b m h = of (is_blank a) refl (skip-solid l b m) h
  where
    of : (t : Bool) → is_blank a ≡ t → (skip l ≡ b ∷ m → is_blank b ≡ false) → cond t (skip l) (a ∷ l) ≡ b ∷ m → is_blank b ≡ false
    of true e ih k = ih k
    of false e ih k = let q : a ≡ b = cc in subst (λ (x : ℕ). is_blank x ≡ false) q e

-- behind the blanks stands none
pub behind-solid : {s : List ℕ} {at n : ℕ} → Skips s at n → n < length s → is_blank (get_or s n 0) ≡ false
behind-solid {s} {at} {n} k h = skip-solid (drop at s) (get_or s n 0) (drop (suc n) s) (sym k.same ∙ drop-cons s n 0 h)

pub skips-go : {s : List ℕ} {at i : ℕ} (d : ℕ) (n : Sym) (α : List Sym) (more : List Alt) → alts n ≡ spaced (n ∷ []) more → Skips s at i → go d (n ∷ α) (drop at s) ≡ go d (n ∷ α) (drop i s)
skips-go {s} {at} {i} d n α more e k = go-skip d n α more e (drop at s) ∙ rw k.same
