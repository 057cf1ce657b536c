-- `decimal::pushed` meets its contract: the tests on the way are those of `push`. Assumes nothing.
use Rattle.std.proofs.Common.{◌≡◌, ℕ, ◌+◌, ◌-◌, ◌*◌, ◌<◌, ◌≤◌, cond, nat_lt, Option, Some, None, sym, ap, ◌∙◌, arith, le-ltb, lt-ltb}
use Rattle.std.specs.Option.{SomeIff}
use Rattle.replay.specs.Decimal.{push}
use Rattle.replay.proofs.decimal.pushed.Goals as goal

-- a sum that is held to its range
held : (r : Option ℕ) (x y : ℕ) → SomeIff r (x < 18446744073709551616) x → x ≡ y → r ≡ cond (nat_lt y 18446744073709551616) (Some y) None
held None x y h e = let l : 18446744073709551616 ≤ y = omega (arith, h) in simp (le-ltb _ _ l)
held (Some z) x y h e = let l : y < 18446744073709551616 = omega (arith, h.0) in simp (lt-ltb _ _ l) (ap Some (h.1 ∙ e))

pub returns-in_err-d : goal.returns-in_err-d
unfolding push
returns-in_err-d c =
    let h : c.args.b < 48 = omega (arith, c.in_err-d.ensures) in
    simp (lt-ltb _ _ h) c.from_residual.ensures

pub returns-then-d-gt9 : goal.returns-then-d-gt9
unfolding push
returns-then-d-gt9 c =
    let e = c.in_ok-d.ensures in
    let h : 48 ≤ c.args.b = e.0 in
    let k : 57 < c.args.b = omega (arith, e.1, c.if-d-gt9.true) in
    simp (le-ltb _ _ h, lt-ltb _ _ k)

pub returns-in_err-checked_mul : goal.returns-in_err-checked_mul
unfolding push
returns-in_err-checked_mul c =
    let e = c.in_ok-d.ensures in
    let h : 48 ≤ c.args.b = e.0 in
    let k : c.args.b ≤ 57 = omega (arith, e.1, c.if-d-gt9.false) in
    let l : 18446744073709551616 ≤ c.args.n * 10 + (c.args.b - 48) = omega (arith, c.in_err-checked_mul.ensures) in
    simp (le-ltb _ _ h, le-ltb _ _ k, le-ltb _ _ l) c.from_residual-in_err-checked_mul.ensures

pub returns : goal.returns
unfolding push
returns c =
    let e = c.in_ok-d.ensures in
    let h : 48 ≤ c.args.b = e.0 in
    let k : c.args.b ≤ 57 = omega (arith, e.1, c.if-d-gt9.false) in
    simp (le-ltb _ _ h, le-ltb _ _ k) (held _ _ _ c.checked_add.ensures (omega (arith, e.1, c.in_ok-checked_mul.ensures, c.from.ensures)))
