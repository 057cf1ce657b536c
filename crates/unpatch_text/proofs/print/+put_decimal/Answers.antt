-- `print::put_decimal` meets its contract: the last digit stands behind those of the number without it. Assumes nothing.
use Prim.Native.Nat.{ℕ, ◌+◌, ◌/◌, ◌%◌, ◌≤◌, ◌<◌}
use native.Mathlib.Omega.{arith}
use mathlib.Core.Path.{◌≡◌, sym, ap, ◌∙◌}
use mathlib.Core.List.{[], ◌∷◌}
use lib.ListN.{length, length-append}
use Rattle.unpatch_text.specs.Print.{decimal_text}
use Rattle.unpatch_text.proofs.Writes.{wrote_then, wrote_as, wrote_one, digits-one, digits_more}
use Rattle.unpatch_text.proofs.print.+put_decimal.Goals as goal

length-one : (n : ℕ) → n < 10 → length (decimal_text n) ≡ 1
length-one n h = ap length (digits-one n h)

length-more : (n : ℕ) → 10 ≤ n → length (decimal_text n) ≡ length (decimal_text (n / 10)) + 1
length-more n h = ap length (digits_more n h) ∙ length-append (decimal_text (n / 10)) ((48 + n % 10) ∷ [])

-- src/print.rt:28:9
pub bounds-out-at : goal.bounds-out-at
bounds-out-at t c = omega (arith, length-one c.args.n c.if-n-lt10.true, c.requires)

-- src/print.rt:23:1
pub returns-then-n-lt10 : goal.returns-then-n-lt10
returns-then-n-lt10 t c = wrote_as (sym (digits-one c.args.n c.if-n-lt10.true)) (wrote_one _ _ _)

-- src/print.rt:31:13
pub put_decimal-e-requires : goal.put_decimal-e-requires
put_decimal-e-requires t c =
    (omega (arith, c.decreases, c.if-n-lt10.false), omega (arith, length-more c.args.n c.if-n-lt10.false, c.requires))

-- src/print.rt:32:5
pub bounds-out-e : goal.bounds-out-e
bounds-out-e t c = omega (arith, length-more c.args.n c.if-n-lt10.false, c.requires, c.put_decimal-e.ensures.next-is, c.put_decimal-e.auto.out)

-- src/print.rt:33:5
pub overflow_add-result-2 : goal.overflow_add-result-2
overflow_add-result-2 t c = omega (arith, length-more c.args.n c.if-n-lt10.false, c.requires, c.put_decimal-e.ensures.next-is, c.put_decimal-e.auto.out)

-- src/print.rt:23:1
pub returns : goal.returns
returns t c = wrote_as (sym (digits_more c.args.n c.if-n-lt10.false)) (wrote_then c.put_decimal-e.ensures (wrote_one _ _ _))
