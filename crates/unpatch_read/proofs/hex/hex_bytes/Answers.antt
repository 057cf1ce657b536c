-- `hex::hex_bytes` meets its contract: the bytes written so far, and those of the digits that are left, are the whole. Assumes nothing.
use Prim.Native.Nat.{ℕ, ◌+◌, ◌*◌, ◌/◌, ◌<◌}
use native.Mathlib.Omega.{arith}
use mathlib.Core.Path.{◌≡◌, refl, sym, ap, ◌∙◌}
use mathlib.Core.List.{List, [], append-nil}
use Rattle.std.specs.Prelude.{Some}
use lib.ListN.{length, drop, length-set, drop_of_length-le}
use lib.Seq.{take-set-le}
use Rattle.std.proofs.Common.{rules}
use Rattle.unpatch_form.specs.Words.{joined}
use Rattle.unpatch_form.specs.Hex.{pair, hex_pairs}
use Rattle.unpatch_form.proofs.Pieces.{joined-nil, joined-joined}
use Rattle.unpatch_read.proofs.Answers.{nothing_of}
use Rattle.unpatch_form.proofs.Hexes.{pair-next, hex-odd, hex-empty, hex-some, region-more}
use Rattle.unpatch_read.proofs.hex.hex_bytes.Goals as goal

pub returns-then-is_empty : goal.returns-then-is_empty
returns-then-is_empty c =
    let z : length c.args.s.now ≡ 0 = search rules in
    record { answer = sym (hex-empty c.args.s.now z); front = refl; few = omega arith }

pub returns-then-half-s : goal.returns-then-half-s
returns-then-half-s c =
    let z : length c.args.s.now ≡ 0 → ⊥ = search rules in
    let s = c.args.s.now in
    record { answer = sym (hex-some s z ∙ hex-odd (length s / 2) s (omega arith)); front = refl; few = omega arith }

pub loop-i-init : goal.loop-i-init
loop-i-init c = (omega arith, refl, refl, sym (joined-nil _))

pub bounds-s-i : goal.bounds-s-i
bounds-s-i c = omega arith

pub bounds-s-i-in-loop-i : goal.bounds-s-i-in-loop-i
bounds-s-i-in-loop-i c = omega arith

pub returns-in_err-rgb : goal.returns-in_err-rgb
returns-in_err-rgb c =
    let s = c.args.s.now in
    let z : length c.args.s.now ≡ 0 → ⊥ = search rules in
    let e = sym c.pair.ensures ∙ c.in_err-rgb.was in
    let h : c.loop-i.i * 2 + 1 < length s = omega arith in
    nothing_of _ c.from_residual.ensures (hex-some s z ∙ c.loop-i.invariant.3 ∙ rw (pair-next s (c.loop-i.i * 2) h, e) refl) c.loop-i.invariant.2

pub overflow_add-rgb : goal.overflow_add-rgb
overflow_add-rgb c = omega arith

pub bounds-rgb-at : goal.bounds-rgb-at
bounds-rgb-at c = omega arith

pub loop-i-preserved : goal.loop-i-preserved
loop-i-preserved c =
    let s = c.args.s.now in
    let at = c.args.at in
    let b = c.in_ok-rgb.field-0 in
    let e : pair _ _ ≡ Some c.in_ok-rgb.field-0 = sym c.pair.ensures ∙ c.in_ok-rgb.was in
    let h : c.loop-i.i * 2 + 1 < length s = omega arith in
    let k : at + c.loop-i.i < length c.loop-i.rgb = omega arith in
    let n : c.loop-i.i * 2 + 2 ≡ (c.loop-i.i + 1) * 2 = omega arith in
    (omega arith, simp length-set c.loop-i.invariant.1, take-set-le at c.loop-i.rgb (at + c.loop-i.i) b (omega arith) ∙ c.loop-i.invariant.2, c.loop-i.invariant.3 ∙ rw (pair-next s (c.loop-i.i * 2) h, e, n, joined-joined) (ap (λ (z : List ℕ). joined z (hex_pairs (drop ((c.loop-i.i + 1) * 2) s))) (sym (region-more c.loop-i.rgb at c.loop-i.i b k))))

pub shape_of-rgb : goal.shape_of-rgb
shape_of-rgb c = omega arith

pub returns : goal.returns
unfolding hex_pairs
returns c =
    let z : length c.args.s.now ≡ 0 → ⊥ = search rules in
    let s = c.args.s.now in
    let d : drop (c.loop-i.i * 2) s ≡ [] = drop_of_length-le s {i = c.loop-i.i * 2} (omega arith) in
    let n : c.loop-i.i ≡ length s / 2 = omega arith in
    record { answer = sym (hex-some s z ∙ c.loop-i.invariant.3 ∙ rw (d, append-nil, n) refl); front = c.loop-i.invariant.2; few = omega arith }
