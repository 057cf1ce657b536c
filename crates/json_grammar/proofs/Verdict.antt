-- The reader's answer is what the grammar says of the text, and nothing else is. Assumes nothing.
use mathlib.Core.Path.{◌≡◌, refl, sym, ap, subst, ◌∙◌}
use mathlib.Core.List.{List, [], ◌∷◌, ◌++◌, append-nil, append_assoc}
use Prim.Native.Nat.{ℕ, suc, ◌+◌, ◌-◌, ◌≤◌, ◌<◌}
use native.Mathlib.Decide.{dec_lt}
use native.Mathlib.Omega.{arith}
use lib.ListN.{length, get_or, take, drop, length-append, take-append-drop}
use lib.Seq.{take_at, drop_at, take-add, drop-cons, take-suc}
use Rattle.json_grammar.specs.Grammar.{Text}
use Rattle.json_grammar.specs.inner.Machine.{Out, past, stop, deep, read}
use Rattle.json_grammar.specs.inner.Steps.{located}
use Rattle.json_grammar.specs.Judge as J
use Rattle.json_grammar.specs.Judge.{Begins, Alike, both_end, same_byte, Judged}
use Rattle.json_grammar.specs.Judge.{Read}
use Rattle.std.specs.Prelude.{Ok, Err}
use Rattle.json_grammar.specs.declared.scan.Fault.TheVariants as F
use Rattle.json_grammar.proofs.Sound.{Bracket}
use Rattle.json_grammar.proofs.Judged as L
use Rattle.json_grammar.proofs.Judged.{judged, Refused}

-- where what is left begins
module _ (p r : List ℕ) where
  left_at : length (p ++ r) - length r ≡ length p
  left_at = rw length-append (omega arith)

refused-at : (p r : List ℕ) → Refused p r → (k : ℕ) (c : List ℕ) → Alike r c → Text k (p ++ c) → ⊥
unfolding Refused
refused-at p [] h k [] both_end t = h k (subst (Text k) (append-nil p) t)
refused-at p (b ∷ r) h k (b' ∷ c) same_byte t = h k c t
refused-at p [] h k (b' ∷ c) x5 t = elim x5 [ ]
refused-at p (b ∷ r) h k [] x5 t = elim x5 [ ]

stopped : (d : ℕ) (p r : List ℕ) → L.Begins d p → Refused p r → J.Stopped d (p ++ r) (length p)
stopped d p r h k =
    record {
      inside = rw length-append (omega arith);
      begins = rw (take_at p r (length p) refl) h;
      refused = rw (take_at p r (length p) refl, drop_at p r (length p) refl) (refused-at p r k);
    }

take-one-more : (p : List ℕ) (b : ℕ) (r : List ℕ) → take (suc (length p)) (p ++ (b ∷ r)) ≡ p ++ (b ∷ [])
take-one-more [] b r = refl
take-one-more (a ∷ p) b r = ap (λ (l : List ℕ). a ∷ l) (take-one-more p b r)

get_seam : (p : List ℕ) (b : ℕ) (r : List ℕ) → get_or (p ++ (b ∷ r)) (length p) 0 ≡ b
get_seam [] b r = refl
get_seam (a ∷ p) b r = get_seam p b r

deepened : (d : ℕ) (p : List ℕ) (b : ℕ) (r : List ℕ) → L.Begins d p → L.Begins (suc d) (p ++ (b ∷ [])) → (L.Begins d (p ++ (b ∷ [])) → ⊥) → Bracket b → J.Deepened d (p ++ (b ∷ r)) (length p)
deepened d p b r h k n q =
    record {
      inside = rw length-append (omega arith);
      bracket = rw (get_seam p b r) q;
      begins = rw (take_at p (b ∷ r) (length p) refl) h;
      deeper = rw (take-one-more p b r) k;
      refused = rw (take-one-more p b r) n;
    }

-- the place of what is left
stop-at : (d : ℕ) (s r : List ℕ) → L.Stopped d s r → J.Stopped d s (length s - length r)
stop-at d s r k =
    subst (λ (l : List ℕ). J.Stopped d l (length l - length r)) k.all
    (rw (left_at k.taken r) (stopped d k.taken r k.begins k.refused))

deep-at : (d : ℕ) (s r : List ℕ) → L.Deepened d s r → J.Deepened d s (length s - length r)
deep-at d s r k =
    subst (λ (m : List ℕ). J.Deepened d s (length s - length m)) (sym k.rest-is)
    (subst (λ (l : List ℕ). J.Deepened d l (length l - length (k.bracket ∷ k.left))) (ap (λ (m : List ℕ). k.taken ++ m) (sym k.rest-is) ∙ k.all)
    (rw (left_at k.taken (k.bracket ∷ k.left)) (deepened d k.taken k.bracket k.left k.begins k.deeper k.too-deep k.opens)))

judge : (d : ℕ) (s : List ℕ) (o : Out) → L.Judged d s o → Judged d s (located s o)
unfolding Judged located
judge d s (past r) k = (rw k.0 (omega arith), k.1)
judge d s (stop r) k = stop-at d s r k
judge d s (deep r) k = deep-at d s r k

-- the answer is what the grammar says
pub verdict : {r : Read} (d : ℕ) (s : List ℕ) → r ≡ located s (read d s) → Judged d s r
verdict d s e = subst (Judged d s) (sym e) (judge d s (read d s) (judged d s))

-- ---- and nothing else is

-- a longer part of s, and then c, is a shorter part and then as s goes on
part : (s : List ℕ) (n m : ℕ) → n < m → m ≤ length s → (c : List ℕ) → take m s ++ c ≡ take (suc n) s ++ (take (m - suc n) (drop (suc n) s) ++ c)
part s n m h w c =
    let e : m ≡ suc n + (m - suc n) = omega arith in
    ap (λ (l : List ℕ). l ++ c) (ap (λ (i : ℕ). take i s) e ∙ take-add (suc n) (m - suc n) s) ∙ append_assoc (take (suc n) s) (take (m - suc n) (drop (suc n) s)) c

begins-less : {d : ℕ} (s : List ℕ) (n m : ℕ) → n < m → m ≤ length s → Begins d (take m s) → Begins d (take (suc n) s)
begins-less {d} s n m h w k = (take (m - suc n) (drop (suc n) s) ++ k.0, subst (Text d) (part s n m h w k.0) k.1)

begins-all : {d : ℕ} (s : List ℕ) (n : ℕ) → n < length s → Text d s → Begins d (take (suc n) s)
begins-all {d} s n h t = (drop (suc n) s, subst (Text d) (sym (take-append-drop (suc n) s)) t)

alike-drop : (s : List ℕ) (n : ℕ) → n < length s → (c : List ℕ) → Alike (drop n s) (get_or s n 0 ∷ c)
alike-drop s n h c = rw (drop-cons s n 0 h) same_byte

one_more : (s : List ℕ) (n : ℕ) → n < length s → (c : List ℕ) → take (suc n) s ++ c ≡ take n s ++ (get_or s n 0 ∷ c)
one_more s n h c = rw (take-suc s n 0) (append_assoc (take n s) (get_or s n 0 ∷ []) c)

-- no text begins with byte n too
stops-there : {d k : ℕ} (s : List ℕ) (n : ℕ) → J.Stopped d s n → n < length s → Begins k (take (suc n) s) → ⊥
stops-there {d} {k} s n z h q = z.refused k (get_or s n 0 ∷ q.0) (alike-drop s n h q.0) (subst (Text k) (one_more s n h q.0) q.1)

stopped-text : {d k : ℕ} (s : List ℕ) (n : ℕ) → J.Stopped d s n → Text k s → ⊥
stopped-text {d} {k} s n z t = z.refused k (drop n s) (self (drop n s)) (subst (Text k) (sym (take-append-drop n s)) t)
  where
    self : (l : List ℕ) → Alike l l
    self [] = both_end
    self (b ∷ l) = same_byte

-- where two places refuse, the first of them would refuse the other
stop-stop : {d : ℕ} (s : List ℕ) (n m : ℕ) → J.Stopped d s n → J.Stopped d s m → n < m → ⊥
stop-stop s n m x y h = stops-there s n x (omega (arith, y.inside)) (begins-less s n m h y.inside y.begins)

deep-deep : {d : ℕ} (s : List ℕ) (n m : ℕ) → J.Deepened d s n → J.Deepened d s m → n < m → ⊥
deep-deep s n m x y h = x.refused (begins-less s n m h (omega (arith, y.inside)) y.begins)

same_place : (n m : ℕ) → (n < m → ⊥) → (m < n → ⊥) → n ≡ m
same_place n m h k = of (dec_lt n m) (dec_lt m n)
  where
    of : Dec (n < m) → Dec (m < n) → n ≡ m
    of (yes p) q = absurd (h p)
    of (no p) (yes q) = absurd (k q)
    of (no p) (no q) = omega arith

stop-deep : {d : ℕ} (s : List ℕ) (n m : ℕ) → J.Stopped d s n → J.Deepened d s m → ⊥
stop-deep {d} s n m x y = of (dec_lt n m) (dec_lt m n)
  where
    of : Dec (n < m) → Dec (m < n) → ⊥
    of (yes p) q = stops-there s n x (omega (arith, y.inside)) (begins-less s n m p (omega (arith, y.inside)) y.begins)
    of (no p) (yes q) = y.refused (begins-less s m n q x.inside x.begins)
    of (no p) (no q) = let e : m ≡ n = omega arith in stops-there s n x (omega (arith, y.inside)) (subst (λ (i : ℕ). Begins (suc d) (take (suc i) s)) e y.deeper)

pub only : (d : ℕ) (s : List ℕ) (r q : Read) → Judged d s r → Judged d s q → r ≡ q
unfolding Judged
only d s (Ok n) (Ok m) x y = ap Ok (x.0 ∙ sym y.0)
only d s (Ok n) (Err (F.Stop m)) x y = absurd (stopped-text s m y x.1)
only d s (Ok n) (Err (F.Deep m)) x y = absurd (y.refused (begins-all s m y.inside x.1))
only d s (Err (F.Stop n)) (Ok m) x y = absurd (stopped-text s n x y.1)
only d s (Err (F.Stop n)) (Err (F.Stop m)) x y = ap (λ (i : ℕ). Err (F.Stop i)) (same_place n m (stop-stop s n m x y) (stop-stop s m n y x))
only d s (Err (F.Stop n)) (Err (F.Deep m)) x y = absurd (stop-deep s n m x y)
only d s (Err (F.Deep n)) (Ok m) x y = absurd (x.refused (begins-all s n x.inside y.1))
only d s (Err (F.Deep n)) (Err (F.Stop m)) x y = absurd (stop-deep s m n y x)
only d s (Err (F.Deep n)) (Err (F.Deep m)) x y = ap (λ (i : ℕ). Err (F.Deep i)) (same_place n m (deep-deep s n m x y) (deep-deep s m n y x))

-- every text of at most d levels is accepted
pub accepted : (d : ℕ) (s : List ℕ) (r : Read) → Text d s → Judged d s r → r ≡ Ok (length s)
unfolding Judged
accepted d s r t k = only d s r (Ok (length s)) k (refl, t)
