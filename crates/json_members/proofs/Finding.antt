-- How the members of an object are found. Assumes nothing.
use mathlib.Core.Path.{◌≡◌, refl, sym, ap, subst, ◌∙◌}
use mathlib.Core.Bool.{Bool, true, false, cond}
use mathlib.Core.List.{List, [], ◌∷◌}
use Prim.Native.Nat.{ℕ, suc, ◌+◌, ◌-◌, ◌≤◌, ◌<◌}
use native.Mathlib.Decide.{dec_lt}
use native.Mathlib.Numerals.{add-one}
use native.Mathlib.Omega.{arith}
use lib.ListN.{length, get_or, drop, drop_of_length-le, length-drop}
use lib.Seq.{drop-cons}
use borrow.Author.Tests.{ne_eqb}
use Rattle.json_grammar.specs.Grammar as G
use Rattle.json_grammar.specs.Grammar.{Ws, Value, Members, Str, Chars}
use Rattle.json_grammar.specs.inner.Machine.{value, key, colon, spaced, alts, nullable, pick, within, settle, height, past, stop, go, ready}
use Rattle.json_grammar.specs.inner.Steps.{seen, place, Reads, Lexes, skip, Skips}
use Rattle.json_read.specs.inner.Steps.{more, closed, wrong, separate, parted, part_place, Parts}
use Rattle.json_members.specs.Names.{Entry, members_of, entries_of, same, later, lookup}
use Rattle.json_members.specs.inner.Bytes.{name_is}
use Rattle.json_members.specs.inner.Turns.{Turn, Turns, nameless, valueless, unparted, last as lastly, more as furthermore, place_of, Ascii, Finds, Gets}
use Rattle.json_members.specs.declared.member.Member.{Member}
use Rattle.json_grammar.specs.Judge.{Read}
use Rattle.std.specs.Prelude.{Ok, Err, Option, None, Some}
use Rattle.json_grammar.specs.declared.scan.Fault.TheVariants as F
use Rattle.json_read.specs.inner.Steps.{Part}
use Rattle.json_read.specs.declared.value.Next.TheVariants as N
use Rattle.json_grammar.proofs.Complete.{value-c, str-key, key-ws, colon-ws, quiet-ws, quiet-comma, quiet-object}
use Rattle.json_grammar.proofs.Steps.{go-nil, go-end}
use Rattle.json_members.proofs.Named.{name-says}

-- ---- blanks by the grammar

pub ws-skip : {l r : List ℕ} → Ws l r → skip r ≡ r → skip l ≡ r
unfolding skip
ws-skip G.unspaced h = h
ws-skip (G.space w) h = ws-skip w h
ws-skip (G.tab w) h = ws-skip w h
ws-skip (G.feed w) h = ws-skip w h
ws-skip (G.return w) h = ws-skip w h

digit-solid : (b : ℕ) (l : List ℕ) → 0x31 ≤ b → skip (b ∷ l) ≡ b ∷ l
unfolding skip
digit-solid b l h = rw (ne_eqb b 0x20 (λ e. omega arith), ne_eqb b 0x09 (λ e. omega arith), ne_eqb b 0x0A (λ e. omega arith), ne_eqb b 0x0D (λ e. omega arith))

natural-solid : {l r : List ℕ} → G.Natural l r → skip l ≡ l
unfolding skip
natural-solid (G.natural G.zero-int f x) = refl
natural-solid (G.natural (G.int (G.byte {b = b} {r = r} h k) d) f x) = digit-solid b r h

pub value-solid : {k : ℕ} {l r : List ℕ} → Value k l r → skip l ≡ l
unfolding skip
value-solid G.value-false = refl
value-solid G.value-null = refl
value-solid G.value-true = refl
value-solid (G.number (G.positive k)) = natural-solid k
value-solid (G.number (G.negative k)) = refl
value-solid (G.string (G.str k)) = refl
value-solid (G.empty-array w) = refl
value-solid (G.array k) = refl
value-solid (G.empty-object w) = refl
value-solid (G.object k) = refl

-- ---- one member

data Then (k : ℕ) (to m : List ℕ) : List Entry → Type 0 where
  last : separate 0x7D to ≡ closed m → Then k to m []
  on : {l q : List ℕ} → separate 0x7D to ≡ more l → (v : Members k l q) → q ≡ 0x7D ∷ m → Then k to m (members_of v)

data View (d k : ℕ) (l m : List ℕ) : List Entry → Type 0 where
  view :
      {behind from to quote : List ℕ} {n : List ℕ} {es : List Entry} →
      ((e : ℕ) → go e (key ∷ (colon ∷ [])) l ≡ past behind) →
      skip behind ≡ from →
      go d (value ∷ []) from ≡ past to →
      skip l ≡ 0x22 ∷ quote →
      ((w : List ℕ) → Ascii w → name_is w quote ≡ same n w) →
      (v : Value k from to) →
      Then k to m es →
      View d k l m (record { name = n; level = k; from = from; to = to; value = v } ∷ es)

named : {l m n o : List ℕ} → Ws l m → Str m n → Ws n (0x3A ∷ o) → (e : ℕ) → go e (key ∷ (colon ∷ [])) l ≡ past o
unfolding go settle alts pick within spaced
named {o = o} w s c e = key-ws e (colon ∷ []) w ∙ str-key e (colon ∷ []) s ∙ colon-ws e [] c ∙ go-nil e o

quoted : {l m n : List ℕ} → Ws l m → Str m n → (q : List ℕ) × (skip l ≡ 0x22 ∷ q) × Chars q (0x22 ∷ n)
unfolding skip
quoted w (G.str {l = q} k) = (q, ws-skip w refl, k)

closes_at : {l r : List ℕ} (m : List ℕ) → Ws l r → r ≡ 0x7D ∷ m → separate 0x7D l ≡ closed m
unfolding separate skip
closes_at {l} m w e = let z : Ws l (0x7D ∷ m) = subst (Ws l) e w in rw (ws-skip z refl)

goes_on : {l u : List ℕ} → Ws l (0x2C ∷ u) → separate 0x7D l ≡ more u
unfolding separate skip
goes_on w = rw (ws-skip w refl)

view_of : {k : ℕ} {l q : List ℕ} (v : Members k l q) (d : ℕ) (m : List ℕ) → q ≡ 0x7D ∷ m → k ≤ d → View d k l m (members_of v)
unfolding members_of height skip
view_of (G.member w (G.str k) c x v u) d m e h =
    view (named w (G.str k) c) (ws-skip x (value-solid v)) (value-c v d [] (quiet-ws u (rw e quiet-object)) (omega arith) ∙ go-nil d _) (ws-skip w refl) (λ n a. name-says k n a) v (last (closes_at m u e))
view_of (G.members w (G.str k) c x v u z) d m e h =
    view (named w (G.str k) c) (ws-skip x (value-solid v)) (value-c v d [] (quiet-ws u quiet-comma) (omega arith) ∙ go-nil d _) (ws-skip w refl) (λ n a. name-says k n a) v (on (goes_on u) z e)

-- ---- along the members

-- the place of what was found, or one found before
abbrev place_from : List ℕ → ℕ → Option Entry → ℕ
place_from s f None = f
place_from s f (Some e) = length s - length e.from

pub record Onward (s w : List ℕ) (i f k : ℕ) (m : List ℕ) (want : ℕ) : Type 0 where
  pub at : List ℕ
  pub end : List ℕ
  pub left : Members k at end
  pub here : drop i s ≡ at
  pub ends : end ≡ 0x7D ∷ m
  pub place : want ≡ place_from s f (lookup w (members_of left))

-- the members from i on are left, and f was found before them
pub record Going (s : List ℕ) (at d : ℕ) (w : List ℕ) (i f : ℕ) : Type 0 where
  pub low : at ≤ i
  pub high : i ≤ at + (length s - at)
  pub empty : (l m : List ℕ) → drop at s ≡ l → Ws l (0x7D ∷ m) → (i ≡ at) × (f ≡ 0)
  pub members : (k : ℕ) (l m : List ℕ) → drop at s ≡ l → k ≤ d → Ascii w → (v : Members k l (0x7D ∷ m)) → Onward s w i f k m (place_of s (lookup w (members_of v)))

place_none : (s : List ℕ) (o : Option Entry) → place_of s o ≡ place_from s 0 o
unfolding place_of
place_none s None = refl
place_none s (Some e) = refl

pub begin : (s : List ℕ) (at d : ℕ) (w : List ℕ) → Going s at d w at 0
begin s at d w =
    record {
      low = omega arith;
      high = omega arith;
      empty = λ l m x e. (refl, refl);
      members = λ k l m x h a v. record { at = l; end = 0x7D ∷ m; left = v; here = x; ends = refl; place = place_none s (lookup w (members_of v)) };
    }

-- an answer that is known
seen-past : (s : List ℕ) (r : Read) (l : List ℕ) → seen s r ≡ past l → (r ≡ Ok (place r)) × (drop (place r) s ≡ l)
seen-past s (Ok n) l e = (refl, cc)
seen-past s (Err (F.Stop n)) l e = let z : ◌≡◌ {A = ℕ} 0 1 = cc in absurd (omega arith)
seen-past s (Err (F.Deep n)) l e = let z : ◌≡◌ {A = ℕ} 0 1 = cc in absurd (omega arith)

past_is : (s : List ℕ) (n : ℕ) (l : List ℕ) → past (drop n s) ≡ past l → drop n s ≡ l
past_is s n l e = cc

-- what the functions say of a member
module _ {d k : ℕ} {s : List ℕ} {i : ℕ} {l m : List ℕ} where
  view-name : {r : Read} {es : List Entry} → drop i s ≡ l → Lexes s i (key ∷ (colon ∷ [])) r → View d k l m es → r ≡ Ok (place r)
  view-name {r} h x (view {behind = o} a b c e f v t) = (seen-past s r o (x.same 0 ∙ rw h (a 0))).0

  view-value : {n j : ℕ} {r : Read} {es : List Entry} → drop i s ≡ l → Lexes s i (key ∷ (colon ∷ [])) (Ok n) → Skips s n j → Reads s j d (value ∷ []) r → View d k l m es → r ≡ Ok (place r)
  view-value {n} {j} {r} h x y z (view {behind = o} {to = to} a b c e f v t) =
      let p = past_is s n o (x.same 0 ∙ rw h (a 0)) in
      (seen-past s r to (z.same ∙ rw (y.same, p, b) c)).0

data Passed (s w : List ℕ) (t f g k : ℕ) (m : List ℕ) (es : List Entry) : Type 0 where
  passed : {to : List ℕ} {fs : List Entry} → drop t s ≡ to → Then k to m fs → place_from s f (lookup w es) ≡ place_from s g (lookup w fs) → Passed s w t f g k m es

kept : (s w : List ℕ) (f g : ℕ) (e : Entry) (t : Bool) (o : Option Entry) → g ≡ cond t (length s - length e.from) f → place_from s f (later o (cond t (Some e) None)) ≡ place_from s g o
kept s w f g e true None h = sym h
kept s w f g e true (Some x) h = refl
kept s w f g e false None h = sym h
kept s w f g e false (Some x) h = refl

inside : (s : List ℕ) (n : ℕ) (b : ℕ) (l : List ℕ) → drop n s ≡ b ∷ l → n < length s
inside s n b l e = let h = ap length e in omega (arith, rw length-drop at h)

value-head : {k : ℕ} {l r : List ℕ} → Value k l r → (b : ℕ) × (t : List ℕ) × (l ≡ b ∷ t)
value-head G.value-false = (_, _, refl)
value-head G.value-null = (_, _, refl)
value-head G.value-true = (_, _, refl)
value-head (G.number (G.positive (G.natural G.zero-int f x))) = (_, _, refl)
value-head (G.number (G.positive (G.natural (G.int (G.byte h k) d) f x))) = (_, _, refl)
value-head (G.number (G.negative k)) = (_, _, refl)
value-head (G.string (G.str k)) = (_, _, refl)
value-head (G.empty-array w) = (_, _, refl)
value-head (G.array k) = (_, _, refl)
value-head (G.empty-object w) = (_, _, refl)
value-head (G.object k) = (_, _, refl)

tail-is : (a b : ℕ) (l m : List ℕ) → a ∷ l ≡ b ∷ m → l ≡ m
tail-is a b l m e = cc

turned : {s : List ℕ} {d : ℕ} {w : List ℕ} {i q j t f g k : ℕ} {l m : List ℕ} {es : List Entry} → Turn s i d q j t → g ≡ cond (name_is w (drop (q + 1) s)) j f → drop i s ≡ l → Ascii w → View d k l m es → Passed s w t f g k m es
unfolding lookup
turned {s} {d} {w} {i} {q} {j} {t} {f} {g} {k} {l} {m} z y h a (view {behind = o} {from = p} {to = to} {quote = u} {n = x} {es = es} nm sk vl qt ns v rest) =
    let e1 = past_is s z.behind o (z.name-is.same 0 ∙ rw h (nm 0)) in
    let e2 : drop j s ≡ p = z.skipped.same ∙ rw e1 sk in
    let e3 : drop t s ≡ to = past_is s t to (z.value-is.same ∙ rw e2 vl) in
    let e4 : drop q s ≡ 0x22 ∷ u = z.quote-is.same ∙ rw h qt in
    let vh = value-head v in
    let h1 : j < length s = inside s j vh.0 vh.1 (e2 ∙ vh.2) in
    let h2 : q < length s = inside s q 0x22 u e4 in
    let e5 : drop (q + 1) s ≡ u = rw (add-one q) (tail-is (get_or s q 0) 0x22 (drop (suc q) s) u (sym (drop-cons s q 0 h2) ∙ e4)) in
    let b = ap length e2 in
    let e6 : j ≡ length s - length p = omega (arith, rw length-drop at b) in
    let e7 : name_is w (drop (q + 1) s) ≡ same x w = rw e5 (ns w a) in
    passed e3 rest (kept s w f g _ (same x w) (lookup w es) (cc (y, e6, e7)))

-- ---- what parts the members

parted-more : (s : List ℕ) (r : Part) (l : List ℕ) → parted s r ≡ more l → (r ≡ Ok (N.More (part_place r))) × (drop (part_place r) s ≡ l)
parted-more s (Ok (N.More n)) l e = (refl, cc)
parted-more s (Ok (N.Closed n)) l e = let z : ◌≡◌ {A = ℕ} 0 1 = cc in absurd (omega arith)
parted-more s (Err n) l e = let z : ◌≡◌ {A = ℕ} 0 1 = cc in absurd (omega arith)

not-closed : (s : List ℕ) (n : ℕ) (l : List ℕ) → parted s (Ok (N.More n)) ≡ closed l → ⊥
not-closed s n l e = let z : ◌≡◌ {A = ℕ} 0 1 = cc in omega arith

module _ {s w : List ℕ} {t f g k : ℕ} {m : List ℕ} {es : List Entry} where
  -- no comma: it was the last
  over : {r : Part} → Parts s t 0x7D r → (r ≡ Ok (N.More (part_place r)) → ⊥) → Passed s w t f g k m es → place_from s f (lookup w es) ≡ g
  unfolding lookup
  over {r} p deny (passed e (last c) q) = q
  over {r} p deny (passed e (on {l = l} c v h) q) = absurd (deny (parted-more s r l (p.same ∙ rw e c)).0)

  -- a comma: the others are left
  others : {j : ℕ} {want : ℕ} → Parts s t 0x7D (Ok (N.More j)) → Passed s w t f g k m es → want ≡ place_from s f (lookup w es) → Onward s w j g k m want
  others {j} p (passed e (last c) q) x = absurd (not-closed s j m (p.same ∙ rw e c))
  others {j} p (passed e (on {l = l} {q = y} c v h) q) x =
      record { at = l; end = y; left = v; here = (parted-more s (Ok (N.More j)) l (p.same ∙ rw e c)).1; ends = h; place = x ∙ q }

-- ---- an object without members

ws-stops : {l m : List ℕ} → Ws l (0x7D ∷ m) → (e : ℕ) → go e (key ∷ (colon ∷ [])) l ≡ stop (0x7D ∷ m)
unfolding go settle alts pick within spaced nullable
ws-stops w e = key-ws e (colon ∷ []) w

name-stops : {s : List ℕ} {at : ℕ} {n : ℕ} (l m : List ℕ) → drop at s ≡ l → Ws l (0x7D ∷ m) → Lexes s at (key ∷ (colon ∷ [])) (Ok n) → ⊥
name-stops {s} {at} {n} l m h w x =
    let q : go 0 (key ∷ (colon ∷ [])) (drop at s) ≡ stop (0x7D ∷ m) = rw h (ws-stops w 0) in
    let p = x.same 0 ∙ q in let z : ◌≡◌ {A = ℕ} 0 1 = cc in omega arith

-- what parts members in an object is no other byte
unpartable : {s : List ℕ} {t j k : ℕ} {m to : List ℕ} {es : List Entry} → Parts s t 0x7D (Err j) → drop t s ≡ to → Then k to m es → ⊥
unpartable {s} {t} {j} {k} {m} {to} p e (last c) =
    let q : wrong (drop j s) ≡ closed m = p.same ∙ rw e c in let z : ◌≡◌ {A = ℕ} 0 1 = cc in omega arith
unpartable {s} {t} {j} {k} {m} {to} p e (on {l = l} {q = y} c v h) =
    let q : wrong (drop j s) ≡ more l = p.same ∙ rw e c in let z : ◌≡◌ {A = ℕ} 0 1 = cc in omega arith

-- ---- what the turns find

module _ {s : List ℕ} {at d : ℕ} {w : List ℕ} {i f : ℕ} (o : Going s at d w i f) where
  no_member : {n : ℕ} (l m : List ℕ) → drop at s ≡ l → Ws l (0x7D ∷ m) → Lexes s i (key ∷ (colon ∷ [])) (Ok n) → ⊥
  no_member {n} l m h e x = name-stops l m h e (subst (λ (j : ℕ). Lexes s j (key ∷ (colon ∷ [])) (Ok n)) (o.empty l m h e).0 x)

  finds-by : {q j t g : ℕ} {r : Part} → Turn s i d q j t → g ≡ cond (name_is w (drop (q + 1) s)) j f → Parts s t 0x7D r → (r ≡ Ok (N.More (part_place r)) → ⊥) → Finds s at d w g
  finds-by z y p deny =
      record {
        empty = λ l m b e. absurd (no_member l m b e z.name-is);
        members = λ k l m b h a v. let q = o.members k l m b h a v in sym (q.place ∙ over p deny (turned z y q.here a (view_of q.left d m q.ends h)));
      }

  goes_by : {q j t g u : ℕ} → Turn s i d q j t → g ≡ cond (name_is w (drop (q + 1) s)) j f → Parts s t 0x7D (Ok (N.More u)) → Going s at d w u g
  goes_by {u = u} z y p =
      record {
        low = omega (arith, o.low, z.name-is.low, z.skipped.low, z.value-is.low, p.low);
        high = omega (arith, o.high, o.low, p.falls u refl);
        empty = λ l m b e. absurd (no_member l m b e z.name-is);
        members = λ k l m b h a v. let x = o.members k l m b h a v in others p (turned z y x.here a (view_of x.left d m x.ends h)) x.place;
      }

  -- no member is left
  pub finds-none : Turns s i d None → Finds s at d w f
  finds-none (nameless x deny) =
      record {
        empty = λ l m y e. (o.empty l m y e).1;
        members = λ k l m b h a v. let q = o.members k l m b h a v in absurd (deny (view-name q.here x (view_of q.left d m q.ends h)));
      }
  finds-none (valueless x y z deny) =
      record {
        empty = λ l m b e. absurd (no_member l m b e x);
        members = λ k l m b h a v. let q = o.members k l m b h a v in absurd (deny (view-value q.here x y z (view_of q.left d m q.ends h)));
      }
  finds-none (unparted z p) =
      record {
        empty = λ l m b e. absurd (no_member l m b e z.name-is);
        members = λ k l m b h a v. let q = o.members k l m b h a v in absurd (unparts p (turned z refl q.here a (view_of q.left d m q.ends h)));
      }
    where
      unparts : {t j g k : ℕ} {m : List ℕ} {es : List Entry} → Parts s t 0x7D (Err j) → Passed s w t f g k m es → ⊥
      unparts p (passed e x y) = unpartable p e x

  -- it was the last: its value's place is kept where its name is w
  pub finds-last : {n v g : ℕ} → Turns s i d (Some (record { name = n; value = v; next = None })) → g ≡ cond (name_is w (drop n s)) v f → Finds s at d w g
  finds-last (lastly z p) y = finds-by z y p (λ e. let b : ◌≡◌ {A = ℕ} 0 1 = cc in omega arith)

  -- others are left
  pub goes-on-with : {n v u g : ℕ} → Turns s i d (Some (record { name = n; value = v; next = Some u })) → g ≡ cond (name_is w (drop n s)) v f → Going s at d w u g
  goes-on-with (furthermore z p) y = goes_by z y p

-- a member, by what is known of the place of the next
pub turns-told : {s : List ℕ} {i d : ℕ} {m : Member} {o : Option ℕ} → m.next ≡ o → Turns s i d (Some m) → Turns s i d (Some (record { name = m.name; value = m.value; next = o }))
turns-told {s} {i} {d} {m} e t = subst (λ (o : Option ℕ). Turns s i d (Some (record { name = m.name; value = m.value; next = o }))) e t

-- the next member begins further on
pub next-falls : {s : List ℕ} {i d n v u : ℕ} → Turns s i d (Some (record { name = n; value = v; next = Some u })) → (i < u) × (u ≤ length s)
next-falls {u = u} (furthermore z p) = let q = p.falls u refl in (omega (arith, q, z.name-is.low, z.skipped.low, z.value-is.low), q.1)

-- a name begins inside
pub named-inside : {s : List ℕ} {at n : ℕ} → Lexes s at (key ∷ (colon ∷ [])) (Ok n) → at < length s
unfolding ready nullable
named-inside {s} {at} {n} x = of (dec_lt at (length s))
  where
    of : Dec (at < length s) → at < length s
    of (yes h) = h
    of (no h) = let e = x.same 0 ∙ go-end s at 0 (key ∷ (colon ∷ [])) (omega arith) in let z : ◌≡◌ {A = ℕ} 0 1 = cc in absurd (omega arith)

-- ---- at a value

-- what begins with no brace has no members
no-entries : {k : ℕ} {l e : List ℕ} (v : Value k l e) (b : ℕ) (t : List ℕ) → l ≡ b ∷ t → (b ≡ 0x7B → ⊥) → entries_of v ≡ []
unfolding entries_of
no-entries G.value-false b t h ne = refl
no-entries G.value-null b t h ne = refl
no-entries G.value-true b t h ne = refl
no-entries (G.number k) b t h ne = refl
no-entries (G.string k) b t h ne = refl
no-entries (G.empty-array w) b t h ne = refl
no-entries (G.array k) b t h ne = refl
no-entries (G.empty-object w) b t h ne = refl
no-entries (G.object k) b t h ne = absurd (ne (cc))

-- at the end no value stands
no_value : {k : ℕ} {l e : List ℕ} → Value k l e → l ≡ [] → ⊥
no_value v h = let p = value-head v in let q : p.0 ∷ p.1 ≡ [] = sym p.2 ∙ h in let z : ◌≡◌ {A = ℕ} 0 1 = cc in omega arith

none_found : (s w : List ℕ) {es : List Entry} → es ≡ [] → 0 ≡ place_of s (lookup w es)
unfolding place_of lookup
none_found s w h = rw h

module _ {s : List ℕ} {at d : ℕ} {w : List ℕ} where
  pub gets-end : length s ≤ at → Gets s at d w 0
  gets-end h = record { value = λ k l e x q a v. absurd (no_value v (sym x ∙ drop_of_length-le s h)) }

  pub gets-other : at < length s → (get_or s at 0 ≡ 0x7B → ⊥) → Gets s at d w 0
  gets-other h ne = record { value = λ k l e x q a v. none_found s w (no-entries v (get_or s at 0) (drop (suc at) s) (sym x ∙ drop-cons s at 0 h) ne) }

-- no level is left for an object
flat : {k : ℕ} {l e : List ℕ} (v : Value k l e) → k ≤ 0 → entries_of v ≡ []
unfolding entries_of
flat G.value-false h = refl
flat G.value-null h = refl
flat G.value-true h = refl
flat (G.number k) h = refl
flat (G.string k) h = refl
flat (G.empty-array w) h = refl
flat (G.array k) h = refl
flat (G.empty-object w) h = refl
flat (G.object k) h = absurd (omega arith)

head-is : (a b : ℕ) (l m : List ℕ) → a ∷ l ≡ b ∷ m → a ≡ b
head-is a b l m e = cc

module _ {s : List ℕ} {at d : ℕ} {w : List ℕ} {n : ℕ} (f : Finds s at d w n) (a : Ascii w) where
  -- what begins with a brace is an object
  brace : {k : ℕ} {l e : List ℕ} (v : Value k l e) (t : List ℕ) → l ≡ 0x7B ∷ t → drop at s ≡ t → k ≤ suc d → n ≡ place_of s (lookup w (entries_of v))
  unfolding entries_of place_of lookup
  brace G.value-false t h x q = let y = head-is _ _ _ _ h in absurd (omega arith)
  brace G.value-null t h x q = let y = head-is _ _ _ _ h in absurd (omega arith)
  brace G.value-true t h x q = let y = head-is _ _ _ _ h in absurd (omega arith)
  brace (G.number (G.positive (G.natural G.zero-int i j))) t h x q = let y = head-is _ _ _ _ h in absurd (omega arith)
  brace (G.number (G.positive (G.natural (G.int (G.byte u v) z) i j))) t h x q = let y = head-is _ _ _ _ h in absurd (omega arith)
  brace (G.number (G.negative k)) t h x q = let y = head-is _ _ _ _ h in absurd (omega arith)
  brace (G.string (G.str k)) t h x q = let y = head-is _ _ _ _ h in absurd (omega arith)
  brace (G.empty-array u) t h x q = let y = head-is _ _ _ _ h in absurd (omega arith)
  brace (G.array k) t h x q = let y = head-is _ _ _ _ h in absurd (omega arith)
  brace (G.empty-object {l = l} {r = r} u) t h x q = f.empty l r (x ∙ sym (tail-is _ _ l t h)) u
  brace (G.object {d = k} {l = l} {r = r} v) t h x q = f.members k l r (x ∙ sym (tail-is _ _ l t h)) (omega arith) a v

module _ {s : List ℕ} {at : ℕ} {w : List ℕ} where
  pub gets-flat : {d : ℕ} → d ≡ 0 → Gets s at d w 0
  gets-flat {d} h = record { value = λ k l e x q a v. none_found s w (flat v (omega arith)) }

  pub gets-object : {d e n : ℕ} → e ≡ suc d → at < length s → get_or s at 0 ≡ 0x7B → Finds s (at + 1) d w n → Gets s at e w n
  gets-object {d} {e} {n} g h b f =
      record {
        value = λ k l m x q a v. brace f a v (drop (at + 1) s) (sym x ∙ drop-cons s at 0 h ∙ rw (b, add-one at) refl) refl (omega arith);
      }
