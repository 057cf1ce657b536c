-- What `read` answers, judged by the grammar alone. Assumes nothing.
use mathlib.Core.Path.{◌≡◌, refl, sym, subst, ◌∙◌}
use mathlib.Core.Bool.{Bool, true, false, ◌&&◌, false≢true}
use mathlib.Core.List.{List, [], ◌∷◌, ◌++◌, append-nil, append_assoc}
use Prim.Native.Nat.{ℕ, zero, suc, ◌+◌, ◌≤◌}
use native.Mathlib.Nat.{le_refl}
use native.Mathlib.Omega.{arith}
use borrow.Author.Tests.{leb-true}
use Rattle.json_grammar.specs.Grammar as G
use Rattle.json_grammar.specs.Grammar.{Text}
use Rattle.json_grammar.specs.inner.Machine.{Class, just, digit, tail, tail-E0, tail-ED, tail-F0, tail-F4, lowest, highest, Sym, value, first, rest, first_member, rest-member, key, colon, chars, escape, hex, natural, digits, frac, exp, signed, range, blanks, nullable, weight, height, took, empty, stuck, settle, ready, Out, past, stop, deep, fine, go, after, ended, read}
use Rattle.json_grammar.proofs.Says as S
use Rattle.json_grammar.proofs.Says.{Says1, avail, Says, done, then}
use Rattle.json_grammar.proofs.Walk.{Walk, here, step, End, passes-end, stops_end, passes, stops, deepens, trace, walk-go}
use Rattle.json_grammar.proofs.Sound.{sound-step, bump, rises, avail-is, missing, Bracket, bracket-is}
use Rattle.json_grammar.proofs.Complete.{complete}

-- ---- what is expected can come

class-some : (c : Class) → lowest c ≤ highest c
class-some (just b) = omega arith
class-some digit = omega arith
class-some tail = omega arith
class-some tail-E0 = omega arith
class-some tail-ED = omega arith
class-some tail-F0 = omega arith
class-some tail-F4 = omega arith

class-byte : (c : Class) (r : List ℕ) → G.Range (lowest c) (highest c) (lowest c ∷ r) r
class-byte c r = G.byte (le_refl (lowest c)) (class-some c)

can-come : (n : Sym) (e : ℕ) (r : List ℕ) → weight n ≤ e → (l : List ℕ) × Says1 n e l r
unfolding weight
can-come value e r h = (0x22 ∷ (0x22 ∷ r), S.valued G.unspaced (G.string (G.str G.no-chars)))
can-come first zero r h = absurd (omega arith)
can-come first (suc e) r h = (0x5D ∷ r, S.first-none G.unspaced)
can-come rest zero r h = absurd (omega arith)
can-come rest (suc e) r h = (0x5D ∷ r, S.rest-none G.unspaced)
can-come first_member zero r h = absurd (omega arith)
can-come first_member (suc e) r h = (0x7D ∷ r, S.member-none G.unspaced)
can-come rest-member zero r h = absurd (omega arith)
can-come rest-member (suc e) r h = (0x7D ∷ r, S.members-none G.unspaced)
can-come key e r h = (0x22 ∷ (0x22 ∷ r), S.keyed G.unspaced (G.str G.no-chars))
can-come colon e r h = (0x3A ∷ r, G.unspaced)
can-come chars e r h = (0x22 ∷ r, G.no-chars)
can-come escape e r h = (0x22 ∷ r, G.esc-quote)
can-come hex e r h = (0x30 ∷ r, G.hex-digit (class-byte digit r))
can-come natural e r h = (0x30 ∷ r, G.natural G.zero-int G.no-frac G.no-exp)
can-come digits e r h = (r, G.no-digits)
can-come frac e r h = (r, G.no-frac)
can-come exp e r h = (r, G.no-exp)
can-come signed e r h = (0x30 ∷ r, G.unsigned (G.digits1 (class-byte digit r) G.no-digits))
can-come (range c) e r h = (lowest c ∷ r, class-byte c r)
can-come blanks e r h = (r, G.unspaced)

all_come : (e : ℕ) (α : List Sym) → height α ≤ e → (l : List ℕ) × Says e α l []
unfolding height
all_come e [] h = ([], done)
all_come e (n ∷ α) h =
    let k = all_come e α (omega arith) in
    let m = can-come n (avail e α) k.0 (omega (arith, avail-is e α (omega arith))) in
    (m.0, then m.1 k.1)

none-come : (e : ℕ) (α : List Sym) (l : List ℕ) → ready α ≡ true → Says e α l l
unfolding ready
none-come e [] l h = done
none-come e (n ∷ α) l h = of (λ k. none-come e α l k) (nullable n) refl h
  where
    of : (ready α ≡ true → Says e α l l) → (t : Bool) → nullable n ≡ t → (t && ready α) ≡ true → Says e (n ∷ α) l l
    of ih true q k = then (missing n (avail e α) l q) (ih k)
    of ih false q k = absurd (false≢true k)

-- ---- along a walk

fine-height : (d : ℕ) (α : List Sym) (b : ℕ) (o : Bool) (β : List Sym) → settle α b ≡ took o β → fine d o β ≡ true → height α ≤ d → height β ≤ d
fine-height d α b true β e w h = leb-true (height β) d w
fine-height d α b false β e w h = omega (arith, rises b α e)

walk-height : {d : ℕ} {α β : List Sym} {p : List ℕ} → Walk d α p β → height α ≤ d → height β ≤ d
walk-height here h = h
walk-height {d} {α} (step {β = β} {b = b} o e w k) h = walk-height k (fine-height d α b o β e w h)

walk-says : {d : ℕ} {α β : List Sym} {p : List ℕ} (e : ℕ) → Walk d α p β → height α ≤ d → d ≤ e → (l r : List ℕ) → Says e β l r → Says e α (p ++ l) r
walk-says e here h w l r s = s
walk-says {d} {α} e (step {β = β} {b = b} o t f k) h w l r s =
    sound-step e b α t (omega arith) (walk-says e k (fine-height d α b o β t f h) w l r s)

-- ---- texts

abbrev start : List Sym
start = value ∷ (blanks ∷ [])

start-height : (d : ℕ) → height start ≤ d
unfolding height weight
start-height d = omega arith

text_of : {e : ℕ} {l : List ℕ} → Says e start l [] → Text e l
unfolding avail weight
text_of (then (S.valued w v) (then u done)) = G.text w v u

-- no text, of any depth, is p and then the first byte of r; where r is empty: p is no text
unfoldable pub Refused : List ℕ → List ℕ → Type 0
Refused p [] = (k : ℕ) → Text k p → ⊥
Refused p (b ∷ r) = (k : ℕ) (c : List ℕ) → Text k (p ++ (b ∷ c)) → ⊥

-- p and then c is a text of at most d levels
abbrev pub Begins : ℕ → List ℕ → Type 0
Begins d p = (c : List ℕ) × Text d (p ++ c)

-- what is left of l is the end of it
pub record Stopped (d : ℕ) (l r : List ℕ) : Type 0 where
  pub taken : List ℕ
  pub all : taken ++ r ≡ l
  pub begins : Begins d taken
  pub refused : Refused taken r

pub record Deepened (d : ℕ) (l r : List ℕ) : Type 0 where
  pub taken : List ℕ
  pub bracket : ℕ
  pub left : List ℕ
  pub rest-is : r ≡ bracket ∷ left
  pub all : taken ++ r ≡ l
  pub begins : Begins d taken
  pub deeper : Begins (suc d) (taken ++ (bracket ∷ []))
  pub too-deep : Begins d (taken ++ (bracket ∷ [])) → ⊥
  pub opens : Bracket bracket

abbrev pub Judged : ℕ → List ℕ → Out → Type 0
Judged d l (past r) = (r ≡ []) × Text d l
Judged d l (stop r) = Stopped d l r
Judged d l (deep r) = Deepened d l r

module _ {d : ℕ} {p : List ℕ} {β : List Sym} (w : Walk d start p β) where
  begins : Begins d p
  begins = let k = all_come d β (walk-height w (start-height d)) in (k.0, text_of (walk-says d w (start-height d) (le_refl d) k.0 [] k.1))

  -- what a text of any depth makes of what is expected
  goes : (k : ℕ) (l : List ℕ) → Text k (p ++ l) → go (d + k) β l ≡ past []
  goes k l t = sym (walk-go d (d + k) (omega arith) w l) ∙ complete (d + k) (omega arith) t

  goes-stop : (k : ℕ) (l m : List ℕ) → Text k (p ++ l) → go (d + k) β l ≡ stop m → ⊥
  goes-stop k l m t e = let z = goes k l t in let y : ◌≡◌ {A = ℕ} 0 1 = cc in omega arith

  refused_end : ready β ≡ false → Refused p []
  unfolding Refused go
  refused_end e k t = goes-stop k [] [] (subst (Text k) (sym (append-nil p)) t) (rw e)

  refused-stuck : (b : ℕ) (r : List ℕ) → settle β b ≡ stuck → Refused p (b ∷ r)
  unfolding Refused go
  refused-stuck b r e k c t = goes-stop k (b ∷ c) (b ∷ c) t (rw e)

  refused-empty : (b : ℕ) (r : List ℕ) → settle β b ≡ empty → Refused p (b ∷ r)
  unfolding Refused go
  refused-empty b r e k c t =
      let z = goes k (b ∷ c) t in
      let u : go (d + k) β (b ∷ c) ≡ past (b ∷ c) = rw e in
      let y : ◌≡◌ {A = ℕ} 0 1 = cc in
      omega arith

  deepened : (b : ℕ) (r : List ℕ) (o : Bool) (γ : List Sym) → settle β b ≡ took o γ → fine d o γ ≡ false → Deepened d (p ++ (b ∷ r)) (b ∷ r)
  unfolding go
  deepened b r o γ e f =
      let h : height β ≤ d = walk-height w (start-height d) in
      let u : height γ ≤ suc d = of o (rises b β e) in
      let c = all_come (suc d) γ u in
      let t = text_of (walk-says (suc d) w (start-height d) (omega arith) (b ∷ c.0) [] (sound-step (suc d) b β e (omega arith) c.1)) in
      record {
        taken = p;
        bracket = b;
        left = r;
        rest-is = refl;
        all = refl;
        begins = begins;
        deeper = (c.0, subst (Text (suc d)) (sym (append_assoc p (b ∷ []) c.0)) t);
        too-deep = λ q. deny q.0 (subst (Text d) (append_assoc p (b ∷ []) q.0) q.1);
        opens = brk o e f;
      }
    where
      of : (o : Bool) → height γ ≤ bump o (height β) → height γ ≤ suc d
      of true k = omega (arith, walk-height w (start-height d))
      of false k = omega (arith, walk-height w (start-height d))

      brk : (o : Bool) → settle β b ≡ took o γ → fine d o γ ≡ false → Bracket b
      brk true k z = bracket-is b β k
      brk false k z = absurd (false≢true (sym z))

      deny : (c : List ℕ) → Text d (p ++ (b ∷ c)) → ⊥
      deny c t =
          let z = sym (walk-go d d (le_refl d) w (b ∷ c)) ∙ complete d (le_refl d) t in
          let u : go d β (b ∷ c) ≡ deep (b ∷ c) = rw (e, f) in
          let y : ◌≡◌ {A = ℕ} 0 1 = cc in
          omega arith

  judged-end : {r : List ℕ} {o : Out} → End d β r o → Judged d (p ++ r) (after o ended)
  judged-end (passes-end e) = (refl, text_of (walk-says d w (start-height d) (le_refl d) [] [] (none-come d β [] e)))
  judged-end (stops_end e) = record { taken = p; all = refl; begins = begins; refused = refused_end e }
  judged-end (passes {b = b} {l = l} e) = record { taken = p; all = refl; begins = begins; refused = refused-empty b l e }
  judged-end (stops {b = b} {l = l} e) = record { taken = p; all = refl; begins = begins; refused = refused-stuck b l e }
  judged-end (deepens {β = γ} {b = b} {l = l} o e f) = deepened b l o γ e f

-- (a), (c) and (d): an accepted text is one of at most d levels; a refusal stands at the first byte, or the end, with which no
-- text agrees; and a bracket that is too deep is the first byte with which no text of at most d levels agrees, though one of d + 1 does
pub judged : (d : ℕ) (l : List ℕ) → Judged d l (read d l)
unfolding read
judged d l = let t = trace d l start in subst (λ (m : List ℕ). Judged d m (after (go d start l) ended)) t.all (judged-end t.walk t.ends)

-- (b): every text of at most d levels is accepted
pub accepts : {k : ℕ} {l : List ℕ} (d : ℕ) → k ≤ d → Text k l → read d l ≡ past []
unfolding read
accepts d h t = rw (complete d h t)
