-- `print::put_bytes` meets its contract: the first i bytes are written. Assumes nothing.
use Prim.Native.Nat.{ℕ, ◌+◌, ◌<◌}
use native.Mathlib.Numerals.{add-one}
use native.Mathlib.Omega.{arith}
use mathlib.Core.Path.{◌≡◌, refl, sym, ap, ◌∙◌}
use mathlib.Core.List.{[], ◌∷◌}
use lib.ListN.{length, get_or, take, length-set}
use lib.Seq.{take-suc, take_all, length-take-le}
use Rattle.buffers.proofs.Regions.{put-nil, put_one, put-append}
use Rattle.unpatch_text.proofs.print.put_bytes.Goals as goal

-- src/print.rt:15:5
pub loop-i-init : goal.loop-i-init
loop-i-init c = (omega arith, refl, sym (put-nil _ _))

-- src/print.rt:16:13
pub overflow_add-out : goal.overflow_add-out
overflow_add-out c = omega arith

-- src/print.rt:16:9
pub bounds-out-at : goal.bounds-out-at
bounds-out-at c = omega arith

-- src/print.rt:15:5
pub loop-i-preserved : goal.loop-i-preserved
loop-i-preserved c =
    let s = c.args.s.now in
    let h : c.loop-i.i < length s = omega arith in
    let n : c.args.at + c.loop-i.i ≡ c.args.at + length (take c.loop-i.i s) = ap (λ (k : ℕ). c.args.at + k) (sym (length-take-le c.loop-i.i s (omega arith))) in
    (omega arith, simp length-set c.loop-i.invariant.1, rw (c.loop-i.invariant.2, add-one c.loop-i.i, take-suc s c.loop-i.i 0 h) (sym (put_one _ _ _) ∙ put-append c.args.out.now c.args.at (take c.loop-i.i s) (get_or s c.loop-i.i 0 ∷ []) (c.args.at + c.loop-i.i) n))

-- src/print.rt:19:5
pub overflow_add-result : goal.overflow_add-result
overflow_add-result c = omega arith

-- src/print.rt:10:1
pub shape_of-out : goal.shape_of-out
shape_of-out c = omega arith

-- src/print.rt:10:1
pub returns : goal.returns
returns c =
    let s = c.args.s.now in
    record { text-is = rw (take_all c.loop-i.i s (omega arith)) at c.loop-i.invariant.2; next-is = refl }
