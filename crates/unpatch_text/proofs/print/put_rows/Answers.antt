-- `print::put_rows` meets its contract: the first y rows are written. Assumes nothing.
use Prim.Native.Nat.{ℕ, ◌+◌, ◌*◌, ◌-◌}
use native.Mathlib.Nat.{add-sub_cancel_left, zero-mul, suc-mul}
use native.Mathlib.Numerals.{add-one}
use native.Mathlib.Omega.{arith}
use mathlib.Core.Path.{◌≡◌, refl, sym, ap, ◌∙◌}
use lib.ListN.{take, drop}
use Rattle.buffers.specs.Region.{region}
use Rattle.buffers.proofs.Lists.{fit}
use Rattle.unpatch_text.specs.Print.{row_line}
use Rattle.unpatch_text.proofs.Writes.{row_room, wrote-row, wrote_none}
use Rattle.unpatch_text.proofs.print.put_rows.Goals as goal

-- src/print.rt:107:5
pub loop-y-init : goal.loop-y-init
loop-y-init c =
    (omega arith, sym (zero-mul c.args.n), refl, wrote_none (λ y. row_line y (region c.args.s.now (y * c.args.n) c.args.n)) c.args.out.now c.args.at)

-- src/print.rt:108:18
pub overflow_add-to : goal.overflow_add-to
overflow_add-to c =
    omega (arith, c.loop-y.invariant.1, fit c.args.n c.loop-y-test.true)

-- src/print.rt:109:24
pub slice_bounds-put_row-count : goal.slice_bounds-put_row-count
slice_bounds-put_row-count c =
    omega (arith, c.loop-y.invariant.1, fit c.args.n c.loop-y-test.true)

-- src/print.rt:109:9
pub put_row-o-requires : goal.put_row-o-requires
put_row-o-requires c =
    let s = c.args.s.now in
    let e : take (c.loop-y.from + c.args.n - c.loop-y.from) (drop c.loop-y.from s) ≡ region s (c.loop-y.y * c.args.n) c.args.n = ap (λ (k : ℕ). take k (drop c.loop-y.from s)) (add-sub_cancel_left c.loop-y.from c.args.n) ∙ ap (λ (k : ℕ). region s k c.args.n) c.loop-y.invariant.1 in
    rw e (omega (arith, c.loop-y.invariant.2, c.loop-y.invariant.3.next-is, row_room (λ y. row_line y (region s (y * c.args.n) c.args.n)) c.args.h c.loop-y.y c.loop-y-test.true))

-- src/print.rt:107:5
pub loop-y-preserved : goal.loop-y-preserved
loop-y-preserved c =
    let s = c.args.s.now in
    let e : take (c.loop-y.from + c.args.n - c.loop-y.from) (drop c.loop-y.from s) ≡ region s (c.loop-y.y * c.args.n) c.args.n = ap (λ (k : ℕ). take k (drop c.loop-y.from s)) (add-sub_cancel_left c.loop-y.from c.args.n) ∙ ap (λ (k : ℕ). region s k c.args.n) c.loop-y.invariant.1 in
    let w = rw e at c.put_row-o.ensures in
    let m : (c.loop-y.y + 1) * c.args.n ≡ c.loop-y.y * c.args.n + c.args.n = ap (λ (k : ℕ). k * c.args.n) (add-one c.loop-y.y) ∙ suc-mul c.loop-y.y c.args.n in
    (omega arith, ap (λ (k : ℕ). k + c.args.n) c.loop-y.invariant.1 ∙ sym m, c.put_row-o.auto.out ∙ c.loop-y.invariant.2, wrote-row (λ y. row_line y (region s (y * c.args.n) c.args.n)) c.loop-y.y c.loop-y.invariant.3 w)

-- src/print.rt:100:1
pub shape_of-out : goal.shape_of-out
shape_of-out c = omega arith

-- src/print.rt:100:1
pub returns : goal.returns
returns c =
    let e : c.loop-y.y ≡ c.args.h = omega arith in
    rw e at c.loop-y.invariant.3
