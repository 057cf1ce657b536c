-- `line::field` meets its contract: the tests on the way are those of `field_of`. Assumes nothing.
use Rattle.std.proofs.Common.{◌≡◌, ℕ, ◌+◌, ◌-◌, cond, eqb, List, [], ◌∷◌, ◌++◌, length, sym, ap, ◌∙◌, arith, rules, length-append, eq-eqb, ne_eqb}
use Rattle.std.proofs.Math.Seq.{take-append_seam, get_or-append_seam}
use Rattle.std.specs.Prelude.{Option, None}
use Rattle.replay.specs.Decimal.{number_of}
use Rattle.replay.specs.Line.{field_of}
use Rattle.replay.proofs.line.field.Goals as goal

-- of digits d and a byte x
parted : (stop x : ℕ) (d s : List ℕ) → s ≡ d ++ (x ∷ []) → field_of stop s ≡ cond (eqb x stop) (number_of d) None
unfolding field_of
parted stop x d s e =
    let l : length (d ++ (x ∷ [])) ≡ length d + 1 = length-append d (x ∷ []) in
    let n : length d + 1 ≡ 0 → ⊥ = λ z. omega arith in
    let m : length d + 1 - 1 ≡ length d = omega arith in
    rw (e, l, ne_eqb _ _ n, m, get_or-append_seam d x [] 0, take-append_seam d (x ∷ []))

pub returns-in_err-last : goal.returns-in_err-last
unfolding field_of
returns-in_err-last c =
    let h : length c.args.s.now ≡ 0 = search rules in
    simp (eq-eqb _ _ h) c.from_residual.ensures

pub returns-then-last-stop : goal.returns-then-last-stop
returns-then-last-stop c =
    rw (parted c.args.stop _ _ _ c.in_ok-last.ensures.cases.0, ne_eqb _ _ c.if-last-stop.true)

pub returns : goal.returns
returns c =
    rw (parted c.args.stop _ _ _ c.in_ok-last.ensures.cases.0, eq-eqb _ _ c.if-last-stop.false) c.read_decimal.ensures
