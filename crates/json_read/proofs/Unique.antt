-- Any two results that satisfy the contract of a public function are equal: of `name` and `read_value` by the laws of
-- json_grammar, of `read_text` by its verdict, and of `part` here. Assumes nothing.
use mathlib.Core.Path.{◌≡◌, sym, ap, ◌∙◌}
use mathlib.Core.List.{List, [], ◌∷◌}
use Prim.Native.Nat.{ℕ}
use native.Mathlib.Omega.{arith}
use lib.ListN.{drop}
use Rattle.json_grammar.specs.Judge.{Judged}
use Rattle.json_grammar.specs.inner.Machine.{value, key, colon}
use Rattle.json_grammar.specs.inner.Steps.{Reads, Lexes}
use Rattle.json_grammar.specs.Judge.{Read}
use Rattle.json_grammar.proofs.Unique.{same_place, lexes-unique, reads-unique}
use Rattle.json_grammar.proofs.Verdict.{only}
use Rattle.json_read.specs.inner.Steps.{parted, Parts}
use Rattle.std.specs.Prelude.{Ok, Err}
use Rattle.json_read.specs.inner.Steps.{Part}
use Rattle.json_read.specs.declared.value.Next.TheVariants as N

pub name-unique : {s : List ℕ} {at : ℕ} (r q : Read) → Lexes s at (key ∷ (colon ∷ [])) r → Lexes s at (key ∷ (colon ∷ [])) q → r ≡ q
name-unique r q = lexes-unique r q

pub read-value-unique : {s : List ℕ} {at d : ℕ} (r q : Read) → Reads s at d (value ∷ []) r → Reads s at d (value ∷ []) q → r ≡ q
read-value-unique r q = reads-unique r q

pub read-text-unique : (d : ℕ) (s : List ℕ) (r q : Read) → Judged d s r → Judged d s q → r ≡ q
read-text-unique = only

pub part-unique : {s : List ℕ} {at close : ℕ} (r q : Part) → Parts s at close r → Parts s at close q → r ≡ q
part-unique {s} {at} {close} r q x y = of r q x y (x.same ∙ sym y.same)
  where
    of : (r q : Part) → Parts s at close r → Parts s at close q → parted s r ≡ parted s q → r ≡ q
    of (Ok (N.More n)) (Ok (N.More m)) x y e = let h : drop n s ≡ drop m s = cc in ap (λ (i : ℕ). Ok (N.More i)) (same_place s at n m x.low x.high y.low y.high h)
    of (Ok (N.More n)) (Ok (N.Closed m)) x y e = let z : ◌≡◌ {A = ℕ} 0 1 = cc in absurd (omega arith)
    of (Ok (N.More n)) (Err m) x y e = let z : ◌≡◌ {A = ℕ} 0 1 = cc in absurd (omega arith)
    of (Ok (N.Closed n)) (Ok (N.More m)) x y e = let z : ◌≡◌ {A = ℕ} 0 1 = cc in absurd (omega arith)
    of (Ok (N.Closed n)) (Ok (N.Closed m)) x y e = let h : drop n s ≡ drop m s = cc in ap (λ (i : ℕ). Ok (N.Closed i)) (same_place s at n m x.low x.high y.low y.high h)
    of (Ok (N.Closed n)) (Err m) x y e = let z : ◌≡◌ {A = ℕ} 0 1 = cc in absurd (omega arith)
    of (Err n) (Ok (N.More m)) x y e = let z : ◌≡◌ {A = ℕ} 0 1 = cc in absurd (omega arith)
    of (Err n) (Ok (N.Closed m)) x y e = let z : ◌≡◌ {A = ℕ} 0 1 = cc in absurd (omega arith)
    of (Err n) (Err m) x y e = let h : drop n s ≡ drop m s = cc in ap Err (same_place s at n m x.low x.high y.low y.high h)
