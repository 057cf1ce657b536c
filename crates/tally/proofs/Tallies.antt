-- Laws of counts over a text of records. Assumes nothing.
use Rattle.std.proofs.Common.{◌≡◌, refl, Bool, true, false, List, [], ◌∷◌, ℕ, ◌+◌, ◌-◌, ◌<◌, ◌≤◌, length, take, drop, arith, subst}
use native.Mathlib.Nat.{le_refl}
use lib.ListN.{length-drop}
use lib.Seq.{take_all}
use Rattle.tally.specs.declared.Step.{Step}
use Rattle.tally.specs.declared.Step.TheVariants.{Agrees, Differs, NoRecord}
use Rattle.tally.specs.declared.Counts.{Counts}
use Rattle.tally.specs.Record.{judged, Inside}
use Rattle.tally.specs.Tally.{counted, taken, Tally, over, next}

-- where the records of t lead from c, there those of the whole text lead from the start
abbrev pub Leads : (P : List ℕ → Step → Type 0) → Counts → List ℕ → Counts → List ℕ → Type 0
Leads P from t c rest = (r : Counts) → Tally P c rest r → Tally P from t r

front : {P : List ℕ → Step → Type 0} (t : List ℕ) {c r : Counts} (s : Step) → 0 < length t → P t s → Tally P (counted s c) (drop (taken s t) t) r → Tally P c t r
front [] s h k x = absurd (omega arith)
front (b ∷ bs) s h k x = next k x

pub turn : {P : List ℕ → Step → Type 0} {from c : Counts} {t rest : List ℕ} (s : Step) → 0 < length rest → P rest s → Leads P from t c rest → Leads P from t (counted s c) (drop (taken s rest) rest)
turn {rest = rest} s h k l r x = l r (front rest s h k x)

pub ends : {P : List ℕ → Step → Type 0} {from c : Counts} {t : List ℕ} (rest : List ℕ) → length rest ≡ 0 → Leads P from t c rest → Tally P from t c
ends [] h l = l _ over
ends (b ∷ bs) h l = absurd (omega (arith, h))

-- what a judge says of each text may be said in other words
pub says : {P Q : List ℕ → Step → Type 0} → ((t : List ℕ) (s : Step) → P t s → Q t s) → {c r : Counts} {t : List ℕ} → Tally P c t r → Tally Q c t r
says f over = over
says f (next {b = b} {bs = bs} {s = s} k x) = next (f (b ∷ bs) s k) (says f x)

-- where a text's first record is one thing only, there its counts are
pub tally-unique : {P : List ℕ → Step → Type 0} → ((t : List ℕ) (s u : Step) → P t s → P t u → s ≡ u) → (c : Counts) (t : List ℕ) (r q : Counts) → Tally P c t r → Tally P c t q → r ≡ q
tally-unique f c t r q over over = refl
tally-unique {P} f c t r q (next {b = b} {bs = bs} {s = s} k x) (next {s = u} m y) =
    let e : u ≡ s = f (b ∷ bs) u s m k in
    tally-unique f (counted s c) (drop (taken s (b ∷ bs)) (b ∷ bs)) r q x (subst (λ (z : Step). Tally P (counted z c) (drop (taken z (b ∷ bs)) (b ∷ bs)) q) e y)

pub counted-sum : (s : Step) (c : Counts) → (counted s c).agree + (counted s c).differ ≡ c.agree + c.differ + 1
counted-sum (Agrees n) c = omega arith
counted-sum (Differs n) c = omega arith
counted-sum NoRecord c = omega arith

pub taken-inside : (s : Step) (t : List ℕ) → 0 < length t → Inside t s → (0 < taken s t) × (taken s t ≤ length t)
taken-inside (Agrees n) t h k = k
taken-inside (Differs n) t h k = k
taken-inside NoRecord t h k = (h, omega arith)

-- a text behind its first k bytes
pub behind : (t : List ℕ) (k : ℕ) → take (length t - k) (drop k t) ≡ drop k t
behind t k = take_all (length t - k) (drop k t) (simp length-drop (le_refl (length t - k)))

pub judged-inside : (r : Bool) (n : ℕ) (t : List ℕ) → 0 < n → n ≤ length t → Inside t (judged r n)
judged-inside true n t h k = (h, k)
judged-inside false n t h k = (h, k)
