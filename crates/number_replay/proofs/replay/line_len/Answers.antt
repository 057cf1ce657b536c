-- `replay::line_len` meets its contract: no byte that was passed is a newline. Assumes nothing.
use borrow.Author.Count.{below_more}
use borrow.Author.Tests.{eq-eqb, ne_eqb}
use Prim.Native.Nat.{ℕ, zero, suc, ◌≤◌, ◌<◌, zero-le, suc-le-suc}
use native.Mathlib.Nat.{le_of_suc-le-suc}
use native.Mathlib.Numerals.{add-one}
use native.Mathlib.Omega.{arith}
use mathlib.Core.Path.{◌≡◌}
use mathlib.Core.List.{List, [], ◌∷◌}
use lib.ListN.{length, get_or, take, drop, drop_of_length-le}
use lib.Seq.{take_all}
use Rattle.number_replay.specs.Lines.{lines, onto}
use Rattle.number_replay.proofs.replay.line_len.Invariants.{None}
use Rattle.number_replay.proofs.replay.line_len.Goals as goal

-- a line that ends at i, and one that lacks its newline
first : (s : List ℕ) (i : ℕ) → i < length s → None s i → get_or s i 0 ≡ 10 → lines s ≡ take (suc i) s ∷ lines (drop (suc i) s)
unfolding lines onto
first [] i h n e = absurd (omega arith)
first (b ∷ bs) zero h n e = simp (eq-eqb _ _ e)
first (b ∷ bs) (suc i) h n e =
    simp (ne_eqb _ _ (n 0 (suc-le-suc zero-le)), first bs i (le_of_suc-le-suc h) (λ k l. n (suc k) (suc-le-suc l)) e)

last : (s : List ℕ) → 0 < length s → None s (length s) → lines s ≡ s ∷ []
unfolding lines onto
last [] h n = absurd (omega arith)
last (b ∷ []) h n = simp (ne_eqb _ _ (n 0 (suc-le-suc zero-le)))
last (b ∷ (d ∷ bs)) h n =
    simp (ne_eqb _ _ (n 0 (suc-le-suc zero-le)), last (d ∷ bs) (suc-le-suc zero-le) (λ k l. n (suc k) (suc-le-suc l)))

pub returns-then-text-i-eq10 : goal.returns-then-text-i-eq10
returns-then-text-i-eq10 c =
    let h : c.loop-i.i < length c.args.text.now = omega arith in record {
      within = (omega arith, omega arith);
      first = rw (add-one c.loop-i.i) (first _ c.loop-i.i h c.loop-i.invariant.1 c.if-text-i-eq10.true);
    }

pub loop-i-preserved : goal.loop-i-preserved
loop-i-preserved c = (omega arith, below_more _ _ c.loop-i.invariant.1 c.if-text-i-eq10.false)

pub returns : goal.returns
unfolding lines
returns c =
    let s = c.args.text.now in
    let h : length s ≤ c.loop-i.i = omega arith in record {
      within = (omega arith, omega arith);
      first = rw (take_all c.loop-i.i s h, drop_of_length-le s {i = c.loop-i.i} h) (last s c.requires (λ k g. c.loop-i.invariant.1 k (omega arith)));
    }
