-- `print::put_hex` meets its contract: the digits of the first i bytes are written. Assumes nothing.
use Prim.Native.Nat.{ℕ, ◌+◌, ◌<◌}
use native.Mathlib.Omega.{arith}
use mathlib.Core.Path.{◌≡◌, refl, sym, ap, ◌∙◌}
use mathlib.Core.List.{List, [], ◌∷◌, ◌++◌}
use lib.ListN.{length, take, set, length-set}
use lib.Seq.{take_all, length-take-le}
use Rattle.buffers.specs.Region.{put}
use Rattle.buffers.proofs.Regions.{put-nil, put-append}
use Rattle.unpatch_text.specs.Print.{hex_text}
use Rattle.unpatch_text.proofs.Writes.{length-hex, hex-more, put_two}
use Rattle.unpatch_text.proofs.print.put_hex.Goals as goal

-- src/print.rt:49:5
pub loop-i-init : goal.loop-i-init
unfolding hex_text
loop-i-init c = (omega arith, omega arith, refl, sym (put-nil _ _))

-- src/print.rt:51:18
pub glyph-requires : goal.glyph-requires
glyph-requires c = omega (arith, c.shared_slice_known-in-loop-i-1.given c.loop-i.i)

-- src/print.rt:51:9
pub bounds-out-o : goal.bounds-out-o
bounds-out-o c = omega arith

-- src/print.rt:52:22
pub glyph-requires-in-loop-i : goal.glyph-requires-in-loop-i
glyph-requires-in-loop-i c = omega arith

-- src/print.rt:52:13
pub overflow_add-out : goal.overflow_add-out
overflow_add-out c = omega arith

-- src/print.rt:52:9
pub bounds-out-o-in-loop-i : goal.bounds-out-o-in-loop-i
bounds-out-o-in-loop-i c = simp length-set (omega arith)

-- src/print.rt:53:9
pub overflow_add-o : goal.overflow_add-o
overflow_add-o c = omega arith

-- src/print.rt:49:5
pub loop-i-preserved : goal.loop-i-preserved
loop-i-preserved c =
    let s = c.args.s.now in
    let h : c.loop-i.i < length s = omega arith in
    let x = c.glyph.result in
    let y = c.glyph-in-loop-i.result in
    let n : c.loop-i.o ≡ c.args.at + length (hex_text (take c.loop-i.i s)) = omega (arith, c.loop-i.invariant.1, length-hex (take c.loop-i.i s), length-take-le c.loop-i.i s (omega arith)) in
    let t : set (set c.loop-i.out c.loop-i.o x) (c.loop-i.o + 1) y ≡ put c.args.out.now c.args.at (hex_text (take c.loop-i.i s) ++ (x ∷ (y ∷ []))) = sym (put_two c.loop-i.out c.loop-i.o x y) ∙ ap (λ (z : List ℕ). put z c.loop-i.o (x ∷ (y ∷ []))) c.loop-i.invariant.3 ∙ put-append c.args.out.now c.args.at (hex_text (take c.loop-i.i s)) (x ∷ (y ∷ [])) c.loop-i.o n in
    (omega arith, omega arith, simp length-set c.loop-i.invariant.2, rw (hex-more s c.loop-i.i h, ← c.glyph.ensures, ← c.glyph-in-loop-i.ensures) t)

-- src/print.rt:43:1
pub shape_of-out : goal.shape_of-out
shape_of-out c = omega arith

-- src/print.rt:43:1
pub returns : goal.returns
returns c =
    let s = c.args.s.now in
    record { text-is = rw (take_all c.loop-i.i s (omega arith)) at c.loop-i.invariant.3; next-is = omega (arith, c.loop-i.invariant.1, length-hex s) }
