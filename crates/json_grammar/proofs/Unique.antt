-- Any two results that satisfy the contract of a public function are equal. Assumes nothing.
use mathlib.Core.Path.{◌≡◌, sym, ap, ◌∙◌}
use mathlib.Core.List.{List}
use Prim.Native.Nat.{ℕ, ◌+◌, ◌-◌, ◌≤◌}
use native.Mathlib.Omega.{arith}
use lib.ListN.{length, drop, length-drop}
use Rattle.json_grammar.specs.inner.Machine.{Sym}
use Rattle.json_grammar.specs.inner.Steps.{seen, place, Reads, Lexes, LexesTo, Skips}
use Rattle.json_grammar.specs.Judge.{Read}
use Rattle.std.specs.Prelude.{Ok, Err}
use Rattle.json_grammar.specs.declared.scan.Fault.TheVariants as F

-- a place from `at` on, and not behind the end, is told by what is left there
pub same_place : (s : List ℕ) (at n m : ℕ) → at ≤ n → n ≤ at + (length s - at) → at ≤ m → m ≤ at + (length s - at) → drop n s ≡ drop m s → n ≡ m
same_place s at n m a b c d e = let h = ap length e in omega (arith, rw (length-drop, length-drop) at h)

same_seen : (s : List ℕ) (at : ℕ) (r q : Read) → at ≤ place r → place r ≤ at + (length s - at) → at ≤ place q → place q ≤ at + (length s - at) → seen s r ≡ seen s q → r ≡ q
same_seen s at (Ok n) (Ok m) a b c d e = let h : drop n s ≡ drop m s = cc in ap Ok (same_place s at n m a b c d h)
same_seen s at (Ok n) (Err (F.Stop m)) a b c d e = let z : ◌≡◌ {A = ℕ} 0 1 = cc in absurd (omega arith)
same_seen s at (Ok n) (Err (F.Deep m)) a b c d e = let z : ◌≡◌ {A = ℕ} 0 1 = cc in absurd (omega arith)
same_seen s at (Err (F.Stop n)) (Ok m) a b c d e = let z : ◌≡◌ {A = ℕ} 0 1 = cc in absurd (omega arith)
same_seen s at (Err (F.Stop n)) (Err (F.Stop m)) a b c d e = let h : drop n s ≡ drop m s = cc in ap (λ (i : ℕ). Err (F.Stop i)) (same_place s at n m a b c d h)
same_seen s at (Err (F.Stop n)) (Err (F.Deep m)) a b c d e = let z : ◌≡◌ {A = ℕ} 0 1 = cc in absurd (omega arith)
same_seen s at (Err (F.Deep n)) (Ok m) a b c d e = let z : ◌≡◌ {A = ℕ} 0 1 = cc in absurd (omega arith)
same_seen s at (Err (F.Deep n)) (Err (F.Stop m)) a b c d e = let z : ◌≡◌ {A = ℕ} 0 1 = cc in absurd (omega arith)
same_seen s at (Err (F.Deep n)) (Err (F.Deep m)) a b c d e = let h : drop n s ≡ drop m s = cc in ap (λ (i : ℕ). Err (F.Deep i)) (same_place s at n m a b c d h)

-- of `blank`
pub skips-unique : {s : List ℕ} {at : ℕ} (n m : ℕ) → Skips s at n → Skips s at m → n ≡ m
skips-unique {s} {at} n m x y = same_place s at n m x.low x.high y.low y.high (x.same ∙ sym y.same)

-- of `word`, and of what reads no bracket in other crates
pub lexes-unique : {s : List ℕ} {at : ℕ} {α : List Sym} (r q : Read) → Lexes s at α r → Lexes s at α q → r ≡ q
lexes-unique {s} {at} r q x y = same_seen s at r q x.low x.high y.low y.high (x.same 0 ∙ sym (y.same 0))

-- of `digits`
pub digits-unique : {s : List ℕ} {at : ℕ} {α : List Sym} (n m : ℕ) → LexesTo s at α n → LexesTo s at α m → n ≡ m
digits-unique n m x y = ap place (lexes-unique (Ok n) (Ok m) x y)

-- of what reads a value
pub reads-unique : {s : List ℕ} {at d : ℕ} {α : List Sym} (r q : Read) → Reads s at d α r → Reads s at d α q → r ≡ q
reads-unique {s} {at} r q x y = same_seen s at r q x.low x.high y.low y.high (x.same ∙ sym y.same)
