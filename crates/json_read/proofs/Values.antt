-- What is read of values, lists and objects. Assumes nothing.
use mathlib.Core.Path.{◌≡◌, refl, sym, ap, subst, ◌∙◌}
use mathlib.Core.Bool.{Bool, true, false, cond, ◌&&◌}
use mathlib.Core.List.{List, [], ◌∷◌, ◌++◌, append-nil}
use mathlib.Core.Option.{none}
use Prim.Native.Nat.{ℕ, ◌+◌, ◌-◌, ◌≤◌, ◌<◌}
use native.Mathlib.Decide.{dec_lt}
use native.Mathlib.Numerals.{add-one}
use native.Mathlib.Omega.{arith}
use lib.Dec.{leb, eqb}
use lib.ListN.{length, get_or, drop, drop_of_length-le, length-drop}
use lib.Seq.{drop-cons}
use borrow.Author.Tests.{lt-leb, eq-eqb, ne_eqb, eqb-true, eqb-false}
use Rattle.json_grammar.specs.inner.Machine.{Sym, value, first, rest, first_member, rest-member, key, colon, chars, natural, blanks, Alt, byte, behind, spaced, values, alts, nullable, height, weight, within, or_else, pick, Settled, took, empty, stuck, settled, settle, ready, Out, past, stop, at_end, onward, go, after, ended, read}
use Rattle.json_grammar.specs.inner.Steps.{is_blank, seen, place, located, Reads, Lexes, skip, Skips}
use Rattle.json_read.specs.inner.Steps.{Sep, more, closed, wrong, sep_of, separate, part_place, Parts}
use Rattle.json_grammar.specs.Judge.{Read}
use Rattle.std.specs.Prelude.{Ok, Err}
use Rattle.json_grammar.specs.declared.scan.Fault.{Fault}
use Rattle.json_grammar.specs.declared.scan.Fault.TheVariants as F
use Rattle.json_read.specs.inner.Steps.{Part}
use Rattle.json_read.specs.declared.value.Next.TheVariants as N
use Rattle.json_grammar.proofs.Frame.{frame}
use Rattle.json_grammar.proofs.Picks.{inside}
use Rattle.json_grammar.proofs.Steps.{frame-flat, go-nil, go-end, go-at, go-open, byte-out, pick-solid, go-skip, skip-solid, skips-go, behind-solid, moved}

-- ---- behind blanks

module _ {s : List ℕ} {at : ℕ} {α : List Sym} (i : ℕ) (n : Sym) (more : List Alt) (e : alts n ≡ spaced (n ∷ []) more) where
  pub spaced-lexes : {r : Read} → Skips s at i → Lexes s i (n ∷ α) r → Lexes s at (n ∷ α) r
  spaced-lexes w k = moved i (n ∷ α) w.low w.high (λ d. skips-go d n α more e w) k

-- a byte that is not x
out : (x b : ℕ) → (b ≡ x → ⊥) → (leb x b && leb b x) ≡ false
unfolding within
out x b h = byte-out x b [] h

module _ (α : List Sym) (b : ℕ) (h : is_blank b ≡ false) where
  pub colon-stuck : (b ≡ 0x3A → ⊥) → settle (colon ∷ α) b ≡ stuck
  unfolding settle alts nullable pick within
  colon-stuck p = rw (pick-solid (colon ∷ []) (byte 0x3A [] ∷ []) b h, out 0x3A b p)

  pub key-stuck : (b ≡ 0x22 → ⊥) → settle (key ∷ α) b ≡ stuck
  unfolding settle alts nullable pick within
  key-stuck p = rw (pick-solid (key ∷ []) (byte 0x22 (chars ∷ []) ∷ []) b h, out 0x22 b p)

  -- what begins otherwise is a number without a minus
  pub value-natural : (b ≡ 0x22 → ⊥) → (b ≡ 0x5B → ⊥) → (b ≡ 0x7B → ⊥) → (b ≡ 0x2D → ⊥) → (b ≡ 0x66 → ⊥) → (b ≡ 0x6E → ⊥) → (b ≡ 0x74 → ⊥) → settle (value ∷ α) b ≡ settle (natural ∷ α) b
  unfolding settle alts nullable pick within values
  value-natural p q r s t u v =
      rw (pick-solid (value ∷ []) values b h, out 0x22 b p, out 0x5B b q, out 0x7B b r, out 0x2D b s, out 0x66 b t, out 0x6E b u, out 0x74 b v)

-- ---- what parts elements

module _ {s : List ℕ} {at i close : ℕ} (k : Skips s at i) where
  pub part_end : length s ≤ i → Parts s at close (Err i)
  unfolding separate
  part_end h = record { same = rw (← k.same, drop_of_length-le s h); low = k.low; high = k.high; falls = λ m q. let z : ◌≡◌ {A = ℕ} 0 1 = cc in absurd (omega arith) }

  pub part-more : i < length s → get_or s i 0 ≡ 0x2C → Parts s at close (Ok (N.More (i + 1)))
  unfolding separate
  part-more h e = record { same = rw (← k.same, add-one i, drop-cons s i 0 h, e); low = omega (arith, k.low); high = omega (arith, k.high); falls = λ m q. omega (arith, k.low, ap part_place q) }

  pub part-closed : i < length s → (get_or s i 0 ≡ 0x2C → ⊥) → get_or s i 0 ≡ close → Parts s at close (Ok (N.Closed (i + 1)))
  unfolding separate
  part-closed h p e = record { same = rw (← k.same, add-one i, drop-cons s i 0 h, ne_eqb (get_or s i 0) 0x2C p, eq-eqb (get_or s i 0) close e); low = omega (arith, k.low); high = omega (arith, k.high); falls = λ m q. let z : ◌≡◌ {A = ℕ} 0 1 = cc in absurd (omega arith) }

  pub part-wrong : i < length s → (get_or s i 0 ≡ 0x2C → ⊥) → (get_or s i 0 ≡ close → ⊥) → Parts s at close (Err i)
  unfolding separate
  part-wrong h p e = record { same = rw (← k.same, drop-cons s i 0 h, ne_eqb (get_or s i 0) 0x2C p, ne_eqb (get_or s i 0) close e); low = k.low; high = k.high; falls = λ m q. let z : ◌≡◌ {A = ℕ} 0 1 = cc in absurd (omega arith) }

byte-in : (x b : ℕ) (α : List Sym) → b ≡ x → within (byte x α) b ≡ true
byte-in x b α e = inside (byte x α) b (omega arith) (omega arith)

-- what is read on
abbrev sep_go : ℕ → List Sym → Sep → Out
sep_go d β (more l) = go d β l
sep_go d β (closed l) = past l
sep_go d β (wrong l) = stop l

module _ (d close : ℕ) (n : Sym) (β : List Sym) (e : alts n ≡ spaced (n ∷ []) (byte 0x2C β ∷ (byte close [] ∷ []))) (o : nullable n ≡ false) where
  sep-none : go d (n ∷ []) [] ≡ stop []
  unfolding go ready
  sep-none = rw o

  sep-solid : (b : ℕ) (l : List ℕ) → is_blank b ≡ false → go d (n ∷ []) (b ∷ l) ≡ sep_go d β (sep_of close (b ∷ l))
  unfolding go settle pick
  sep-solid b l h = rw (e, pick-solid (n ∷ []) (byte 0x2C β ∷ (byte close [] ∷ [])) b h) (of (eqb b 0x2C) (eqb b close) refl refl)
    where
      of : (t u : Bool) → eqb b 0x2C ≡ t → eqb b close ≡ u → onward d (b ∷ l) (λ γ. go d γ l) (settled (pick (byte 0x2C β ∷ (byte close [] ∷ [])) b) (nullable n) [] empty) ≡ sep_go d β (cond t (more l) (cond u (closed l) (wrong (b ∷ l))))
      of true u p q = rw (byte-in 0x2C b β (eqb-true b 0x2C p), append-nil β)
      of false true p q = rw (byte-out 0x2C b β (eqb-false b 0x2C p), byte-in close b [] (eqb-true b close q)) (go-nil d l)
      of false false p q = rw (byte-out 0x2C b β (eqb-false b 0x2C p), byte-out close b [] (eqb-false b close q), o)

  -- behind an element
  pub separates : (l : List ℕ) → go d (n ∷ []) l ≡ sep_go d β (separate close l)
  unfolding separate
  separates l = go-skip d n [] (byte 0x2C β ∷ (byte close [] ∷ [])) e l ∙ of (skip l) refl
    where
      of : (m : List ℕ) → skip l ≡ m → go d (n ∷ []) m ≡ sep_go d β (sep_of close m)
      of [] q = sep-none
      of (b ∷ m) q = sep-solid b m (skip-solid l b m q)

-- ---- with brackets

module _ {s : List ℕ} {at d : ℕ} {α : List Sym} where
  pub reads-told : {r q : Read} → r ≡ q → Reads s at d α r → Reads s at d α q
  reads-told e k = subst (Reads s at d α) e k

  pub reads-limit : {e : ℕ} {r : Read} → e ≡ d → Reads s at e α r → Reads s at d α r
  reads-limit {e} {r} h k = subst (λ (n : ℕ). Reads s at n α r) h k

  pub reads-moved : (i : ℕ) (β : List Sym) {r : Read} → at ≤ i → i ≤ at + (length s - at) → go d α (drop at s) ≡ go d β (drop i s) → Reads s i d β r → Reads s at d α r
  reads-moved i β h w e k = record { same = k.same ∙ sym e; low = omega (arith, k.low); high = omega (arith, k.high) }

  -- the bracket opens a level too many
  pub deepens : (β : List Sym) → at < length s → settle α (get_or s at 0) ≡ took true β → d < height β → Reads s at d α (Err (F.Deep at))
  deepens β h e w = record { same = rw (go-at s at d α h, e, lt-leb (height β) d w); low = omega arith; high = omega arith }

  pub opens : (β : List Sym) {r : Read} → at < length s → settle α (get_or s at 0) ≡ took true β → height β ≤ d → Reads s (at + 1) d β r → Reads s at d α r
  opens β h e w k = record { same = k.same ∙ sym (go-open s at d α β h e w); low = omega (arith, k.low); high = omega (arith, k.high) }

module _ {s : List ℕ} {at d : ℕ} {α : List Sym} (base : List Sym) where
  pub reads_whole : {r : Read} → Reads s at d α r → go (d + height base) (α ++ base) (drop at s) ≡ after (seen s r) (go (d + height base) base)
  reads_whole k = frame d base α (drop at s) ∙ rw (← k.same)

  pub reads-past : {n : ℕ} {r : Read} → Reads s at d α (Ok n) → Reads s n (d + height base) base r → Reads s at (d + height base) (α ++ base) r
  reads-past k m = record { same = m.same ∙ sym (reads_whole k); low = omega (arith, k.low, m.low); high = omega (arith, k.high, m.high, k.low) }

  pub reads-err : (e : Fault) → Reads s at d α (Err e) → Reads s at (d + height base) (α ++ base) (Err e)
  reads-err (F.Stop n) k = record { same = sym (reads_whole k); low = k.low; high = k.high }
  reads-err (F.Deep n) k = record { same = sym (reads_whole k); low = k.low; high = k.high }

-- ---- the parts of a list or an object

pub parts-told : {s : List ℕ} {at close : ℕ} {r q : Part} → r ≡ q → Parts s at close r → Parts s at close q
parts-told {s} {at} {close} e k = subst (Parts s at close) e k

module _ {s : List ℕ} {at d close : ℕ} (n : Sym) (β : List Sym) (e : alts n ≡ spaced (n ∷ []) (byte 0x2C β ∷ (byte close [] ∷ []))) (o : nullable n ≡ false) where
  pub parts-closed : {m : ℕ} → Parts s at close (Ok (N.Closed m)) → Reads s at d (n ∷ []) (Ok m)
  parts-closed {m} k = record { same = ap (sep_go d β) k.same ∙ sym (separates d close n β e o (drop at s)); low = k.low; high = k.high }

  pub parts-wrong : {m : ℕ} → Parts s at close (Err m) → Reads s at d (n ∷ []) (Err (F.Stop m))
  parts-wrong {m} k = record { same = ap (sep_go d β) k.same ∙ sym (separates d close n β e o (drop at s)); low = k.low; high = k.high }

pub parts_more : {s : List ℕ} {at close m : ℕ} (d : ℕ) (n : Sym) (β : List Sym) → alts n ≡ spaced (n ∷ []) (byte 0x2C β ∷ (byte close [] ∷ [])) → nullable n ≡ false → Parts s at close (Ok (N.More m)) → go d (n ∷ []) (drop at s) ≡ go d β (drop m s)
parts_more {s} {at} {close} d n β e o k = separates d close n β e o (drop at s) ∙ ap (sep_go d β) (sym k.same)

-- ---- behind a bracket that opens

behind-settle : (γ : List Sym) (others : List Alt) (b : ℕ) (t u : Settled) → settled (pick (behind γ others) b) false [] t ≡ settled (pick others b) false γ u
unfolding pick behind within
behind-settle γ [] b t u = refl
behind-settle γ (a ∷ others) b t u = of (within a b) (behind-settle γ others b t u)
  where
    of : (w : Bool) → settled (pick (behind γ others) b) false [] t ≡ settled (pick others b) false γ u → settled (or_else w (record { low = a.low; high = a.high; opens = a.opens; next = a.next ++ γ }) (pick (behind γ others) b)) false [] t ≡ settled (or_else w a (pick others b)) false γ u
    of true ih = ap (took a.opens) (append-nil (a.next ++ γ))
    of false ih = ih

pick_next : (a : Alt) (others : List Alt) (b : ℕ) → within a b ≡ false → pick (a ∷ others) b ≡ pick others b
unfolding pick
pick_next a others b h = rw h

first-value : (b : ℕ) → is_blank b ≡ false → (b ≡ 0x5D → ⊥) → settle (first ∷ []) b ≡ settle (value ∷ (rest ∷ [])) b
unfolding settle alts nullable
first-value b h p =
    rw (pick-solid (first ∷ []) (byte 0x5D [] ∷ behind (rest ∷ []) values) b h, pick-solid (value ∷ []) values b h, pick_next (byte 0x5D []) (behind (rest ∷ []) values) b (byte-out 0x5D b [] p))
    (behind-settle (rest ∷ []) values b _ _)

key-settle : (b : ℕ) (t u : Settled) → settled (pick (byte 0x22 (chars ∷ (colon ∷ (value ∷ (rest-member ∷ [])))) ∷ []) b) false [] t ≡ settled (pick (byte 0x22 (chars ∷ []) ∷ []) b) false (colon ∷ (value ∷ (rest-member ∷ []))) u
unfolding pick within
key-settle b t u = of (leb 0x22 b && leb b 0x22)
  where
    of : (w : Bool) → settled (or_else w (byte 0x22 (chars ∷ (colon ∷ (value ∷ (rest-member ∷ []))))) none) false [] t ≡ settled (or_else w (byte 0x22 (chars ∷ [])) none) false (colon ∷ (value ∷ (rest-member ∷ []))) u
    of true = refl
    of false = refl

first_key : (b : ℕ) → is_blank b ≡ false → (b ≡ 0x7D → ⊥) → settle (first_member ∷ []) b ≡ settle (key ∷ (colon ∷ (value ∷ (rest-member ∷ [])))) b
unfolding settle alts nullable
first_key b h p =
    rw (pick-solid (first_member ∷ []) (byte 0x7D [] ∷ (byte 0x22 (chars ∷ (colon ∷ (value ∷ (rest-member ∷ [])))) ∷ [])) b h, pick-solid (key ∷ []) (byte 0x22 (chars ∷ []) ∷ []) b h, pick_next (byte 0x7D []) (byte 0x22 (chars ∷ (colon ∷ (value ∷ (rest-member ∷ [])))) ∷ []) b (byte-out 0x7D b [] p))
    (key-settle b _ _)

-- what is expected behind an opening bracket is as good as β, unless the bracket is closed at once
starts :
    {s : List ℕ} {at i : ℕ} (d : ℕ) (n m : Sym) (β : List Sym) (close : ℕ) (others ms : List Alt) →
    alts n ≡ spaced (n ∷ []) others →
    alts m ≡ spaced (m ∷ []) ms →
    ready (n ∷ []) ≡ false →
    ready (m ∷ β) ≡ false →
    ((b : ℕ) → is_blank b ≡ false → (b ≡ close → ⊥) → settle (n ∷ []) b ≡ settle (m ∷ β) b) →
    Skips s at i →
    (i < length s → get_or s i 0 ≡ close → ⊥) →
    go d (n ∷ []) (drop at s) ≡ go d (m ∷ β) (drop i s)
starts {s} {at} {i} d n m β close others ms e f p q alike k ne = skips-go d n [] others e k ∙ of (dec_lt i (length s))
  where
    of : Dec (i < length s) → go d (n ∷ []) (drop i s) ≡ go d (m ∷ β) (drop i s)
    of (yes h) = go-at s i d (n ∷ []) h ∙ rw (alike (get_or s i 0) (behind-solid k h) (ne h)) (sym (go-at s i d (m ∷ β) h))
    of (no h) = go-end s i d (n ∷ []) (omega arith) ∙ ap at_end (p ∙ sym q) ∙ sym (go-end s i d (m ∷ β) (omega arith))

pub list-starts : {s : List ℕ} {at i : ℕ} (d : ℕ) → Skips s at i → (i < length s → get_or s i 0 ≡ 0x5D → ⊥) → go d (first ∷ []) (drop at s) ≡ go d (value ∷ (rest ∷ [])) (drop i s)
unfolding alts ready nullable
list-starts d k ne = starts d first value (rest ∷ []) 0x5D _ _ refl refl refl refl first-value k ne

pub object-starts : {s : List ℕ} {at i : ℕ} (d : ℕ) → Skips s at i → (i < length s → get_or s i 0 ≡ 0x7D → ⊥) → go d (first_member ∷ []) (drop at s) ≡ go d (key ∷ (colon ∷ (value ∷ (rest-member ∷ [])))) (drop i s)
unfolding alts ready nullable
object-starts d k ne = starts d first_member key (colon ∷ (value ∷ (rest-member ∷ []))) 0x7D _ _ refl refl refl refl first_key k ne

pub spaced-reads : {s : List ℕ} {at d : ℕ} {α : List Sym} {r : Read} (i : ℕ) (n : Sym) (others : List Alt) → alts n ≡ spaced (n ∷ []) others → Skips s at i → Reads s i d (n ∷ α) r → Reads s at d (n ∷ α) r
spaced-reads {s} {at} {d} {α} i n others e w k = reads-moved i (n ∷ α) w.low w.high (skips-go d n α others e w) k

-- ---- whole texts

placed : (s : List ℕ) (r : Read) → place r ≤ length s → r ≡ located s (seen s r)
unfolding located
placed s (Ok n) h = ap Ok (rw length-drop (omega arith))
placed s (Err (F.Stop n)) h = ap (λ (i : ℕ). Err (F.Stop i)) (rw length-drop (omega arith))
placed s (Err (F.Deep n)) h = ap (λ (i : ℕ). Err (F.Deep i)) (rw length-drop (omega arith))

blanks-go : (d : ℕ) (l : List ℕ) → go d (blanks ∷ []) l ≡ past (skip l)
unfolding alts go ready nullable settle pick
blanks-go d l = go-skip d blanks [] [] refl l ∙ of (skip l) refl
  where
    of : (m : List ℕ) → skip l ≡ m → go d (blanks ∷ []) m ≡ past m
    of [] q = refl
    of (b ∷ m) q = rw (pick-solid (blanks ∷ []) [] b (skip-solid l b m q))

module _ (s : List ℕ) (d : ℕ) where
  text-is : (r : Read) → Reads s 0 d (value ∷ []) r → read d s ≡ after (after (seen s r) (go d (blanks ∷ []))) ended
  unfolding read height weight
  text-is r k = ap (λ (o : Out). after o ended) (frame-flat d (blanks ∷ []) (value ∷ []) s refl ∙ ap (λ (o : Out). after o (go d (blanks ∷ []))) (sym k.same))

  pub text-err : (e : Fault) → Reads s 0 d (value ∷ []) (Err e) → Err e ≡ located s (read d s)
  text-err (F.Stop n) k = placed s (Err (F.Stop n)) (omega (arith, k.high)) ∙ ap (located s) (sym (text-is (Err (F.Stop n)) k))
  text-err (F.Deep n) k = placed s (Err (F.Deep n)) (omega (arith, k.high)) ∙ ap (located s) (sym (text-is (Err (F.Deep n)) k))

  module _ (n e : ℕ) (k : Reads s 0 d (value ∷ []) (Ok n)) (w : Skips s n e) where
    text-past : read d s ≡ ended (drop e s)
    text-past = text-is (Ok n) k ∙ ap (λ (o : Out). after o ended) (blanks-go d (drop n s)) ∙ ap ended (sym w.same)

    ended-more : e < length s → stop (drop e s) ≡ ended (drop e s)
    ended-more h = rw (drop-cons s e 0 h)

    ended-all : length s ≤ e → past (drop e s) ≡ ended (drop e s)
    ended-all h = rw (drop_of_length-le s h)

    pub text-more : e < length s → Err (F.Stop e) ≡ located s (read d s)
    text-more h = placed s (Err (F.Stop e)) (omega arith) ∙ ap (located s) (ended-more h ∙ sym text-past)

    pub text-all : length s ≤ e → Ok e ≡ located s (read d s)
    text-all h = placed s (Ok e) (omega (arith, w.high, k.high)) ∙ ap (located s) (ended-all h ∙ sym text-past)
