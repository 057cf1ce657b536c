-- `decimal::decimal` meets its contract. Assumes nothing.
use native.Mathlib.Omega.{arith}
use mathlib.Core.Path.{◌≡◌, refl}
use Rattle.std.proofs.Common.{rules}
use lib.ListN.{length}
use Rattle.unpatch_form.proofs.Decimals.{decimal-empty, decimal-one, decimal-zero, decimal-more}
use Rattle.unpatch_form.proofs.decimal.decimal.Goals as goal

pub returns-then-is_empty : goal.returns-then-is_empty
returns-then-is_empty c =
    let h : length c.args.s.now ≡ 0 = search rules in
    rw (decimal-empty _ h) refl

pub returns-then-s-eq1 : goal.returns-then-s-eq1
returns-then-s-eq1 c = rw (decimal-one _ c.if-s-eq1.true) c.digits.ensures

pub returns-then-s-eq48 : goal.returns-then-s-eq48
returns-then-s-eq48 c =
    let s = c.args.s.now in
    let z : length c.args.s.now ≡ 0 → ⊥ = search rules in
    rw (decimal-zero s (omega (arith, z)) c.if-s-eq48.true) refl

pub returns : goal.returns
returns c =
    let s = c.args.s.now in
    let z : length c.args.s.now ≡ 0 → ⊥ = search rules in
    rw (decimal-more s (omega (arith, z)) c.if-s-eq48.false) c.digits-2.ensures
