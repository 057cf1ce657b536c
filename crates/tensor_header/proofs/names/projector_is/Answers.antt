-- `names::projector_is` meets its contract. Assumes nothing.
use mathlib.Core.Path.{◌≡◌, sym, ap, ◌∙◌}
use mathlib.Core.Bool.{Bool, false}
use mathlib.Core.List.{List}
use Prim.Native.Nat.{ℕ}
use native.Mathlib.Omega.{arith}
use lib.ListN.{drop}
use Rattle.tensor_header.specs.inner.Named.{named_at, projector_names}
use Rattle.tensor_header.proofs.Listed.{above, named_past, first_three}
use Rattle.tensor_header.proofs.names.projector_is.Goals as goal

by-bias : {a b : Bool} → a ≡ b → (i : ℕ) (l : List ℕ) → named_at (projector_names a) i l ≡ named_at (projector_names b) i l
by-bias e i l = ap (λ (b : Bool). named_at (projector_names b) i l) e

pub returns-then-bias : goal.returns-then-bias
returns-then-bias c = c.biased_is.ensures ∙ by-bias (sym c.if-bias.true) c.args.i (drop c.args.at c.args.h.now)

pub returns-then-i-lt3 : goal.returns-then-i-lt3
returns-then-i-lt3 c = c.biased_is-then-i-lt3.ensures ∙ first_three c.args.i (drop c.args.at c.args.h.now) c.if-i-lt3.true ∙ by-bias (sym c.if-bias.false) c.args.i (drop c.args.at c.args.h.now)

pub returns-then-i-eq3 : goal.returns-then-i-eq3
returns-then-i-eq3 c = c.biased_is-then-i-eq3.ensures ∙ ap (λ (i : ℕ). named_at (projector_names false) i (drop c.args.at c.args.h.now)) (sym c.if-i-eq3.true) ∙ by-bias (sym c.if-bias.false) c.args.i (drop c.args.at c.args.h.now)

pub returns : goal.returns
returns c = sym (named_past (projector_names false) c.args.i (drop c.args.at c.args.h.now) (above 3 (omega arith) c.if-i-eq3.false)) ∙ by-bias (sym c.if-bias.false) c.args.i (drop c.args.at c.args.h.now)
