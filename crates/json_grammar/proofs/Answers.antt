-- The answer for a text is the one that the grammar gives, and no two kinds of answer are one. Assumes nothing.
use mathlib.Core.Path.{◌≡◌, refl}
use mathlib.Core.List.{List}
use Prim.Native.Nat.{ℕ}
use native.Mathlib.Omega.{arith}
use lib.ListN.{length}
use Rattle.json_grammar.specs.Grammar.{Text}
use Rattle.json_grammar.specs.Judge.{Stopped, Deepened, Judged}
use Rattle.json_grammar.specs.Judge.{Read}
use Rattle.std.specs.Prelude.{Ok, Err}
use Rattle.json_grammar.specs.declared.scan.Fault.TheVariants as F
use Rattle.json_grammar.proofs.Verdict.{only}

module _ (d : ℕ) (s : List ℕ) where
  pub by-text : {r : Read} → Judged d s r → Text d s → r ≡ Ok (length s)
  unfolding Judged
  by-text {r} j t = only d s r (Ok (length s)) j (refl, t)

  pub by-stop : {r : Read} {n : ℕ} → Judged d s r → Stopped d s n → r ≡ Err (F.Stop n)
  unfolding Judged
  by-stop {r} {n} j k = only d s r (Err (F.Stop n)) j k

  pub by-depth : {r : Read} {n : ℕ} → Judged d s r → Deepened d s n → r ≡ Err (F.Deep n)
  unfolding Judged
  by-depth {r} {n} j k = only d s r (Err (F.Deep n)) j k

pub past_stop : (n m : ℕ) → Ok n ≡ Err (F.Stop m) → ⊥
past_stop n m e = let z : ◌≡◌ {A = ℕ} 0 1 = cc in omega arith

pub past-deep : (n m : ℕ) → Ok n ≡ Err (F.Deep m) → ⊥
past-deep n m e = let z : ◌≡◌ {A = ℕ} 0 1 = cc in omega arith

pub stop-past : (n m : ℕ) → Err (F.Stop n) ≡ Ok m → ⊥
stop-past n m e = let z : ◌≡◌ {A = ℕ} 0 1 = cc in omega arith

pub stop-deep : (n m : ℕ) → ◌≡◌ {A = Read} (Err (F.Stop n)) (Err (F.Deep m)) → ⊥
stop-deep n m e = let z : ◌≡◌ {A = ℕ} 0 1 = cc in omega arith

pub deep-past : (n m : ℕ) → Err (F.Deep n) ≡ Ok m → ⊥
deep-past n m e = let z : ◌≡◌ {A = ℕ} 0 1 = cc in omega arith

pub deep-stop : (n m : ℕ) → ◌≡◌ {A = Read} (Err (F.Deep n)) (Err (F.Stop m)) → ⊥
deep-stop n m e = let z : ◌≡◌ {A = ℕ} 0 1 = cc in omega arith
