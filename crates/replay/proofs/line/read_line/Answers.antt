-- `line::read_line` meets its contract: the first k numbers and the fields that are left give what is read of the line, and behind
-- them the buffer is as it was. Assumes nothing.
use Rattle.std.proofs.Common.{◌≡◌, ℕ, suc, ◌+◌, ◌-◌, ◌<◌, ◌≤◌, Bool, true, false, cond, eqb, leb, List, [], ◌∷◌, length, take, drop, set, sym, refl, ap, ◌∙◌, append_assoc, append-nil, add-one, arith, length-drop, length-set, take-append-drop, drop_of_length-le, length-take-le, drop-drop, take-suc-set, drop-set-lt, leb-false, leb-true}
use native.Mathlib.Nat.{add-sub_cancel_left, sub-zero}
use Rattle.buffers.specs.Region.{over}
use Rattle.std.specs.Prelude.{Some}
use Rattle.replay.specs.Pieces.{pieces, onto}
use Rattle.replay.specs.Line.{Read, none, stop_of, field_of, join, fields, read_of}
use Rattle.replay.proofs.Cuts.{next-piece}
use Rattle.replay.proofs.line.read_line.Invariants.{behind}
use Rattle.replay.proofs.line.read_line.Goals as goal

-- nothing read, with or without more to come
abbrev nothing : Bool → Read
nothing b = record { whole = b; list = [] }

-- one number more, and what is behind it
grow : (to : List ℕ) (k n : ℕ) (r : Read) → k < length to → behind (take k to) (join (Some n) r) ≡ behind (take (k + 1) (set to k n)) r
unfolding join
grow to k n r h =
    rw (add-one k, take-suc-set to k n h) (ap (λ (l : List ℕ). record { whole = r.whole; list = l }) (sym (append_assoc (take k to) (n ∷ []) r.list)))

left : (to old : List ℕ) (k n : ℕ) → drop k to ≡ drop k old → drop (k + 1) (set to k n) ≡ drop (k + 1) old
left to old k n e =
    let h : k < k + 1 = omega arith in
    drop-set-lt (k + 1) to k n h ∙ sym (drop-drop 1 k to) ∙ ap (drop 1) e ∙ drop-drop 1 k old

-- the reading ends where nothing follows the first k numbers
ended : (t : Bool) (to old : List ℕ) (k : ℕ) (r : Read)
    → r ≡ behind (take k to) (nothing t) → k ≤ length to → drop k to ≡ drop k old → (t ≡ r.whole) × (to ≡ over r.list old)
ended t to old k r e h d =
    rw e (refl, rw (append-nil (take k to), length-take-le k to h, ← d) (sym (take-append-drop k to)))

no_field : (s : List ℕ) (at m : ℕ) → length s ≤ at → fields (suc m) (pieces 9 (drop at s)) ≡ none
unfolding fields pieces
no_field s at m h = rw (drop_of_length-le s {i = at} h)

-- a byte more gives a piece more
piece : (b : ℕ) (t : Bool) (ps : List (List ℕ)) → fields 0 (cond t ((b ∷ []) ∷ ps) (onto b ps)) ≡ none
unfolding fields onto
piece b true ps = refl
piece b false [] = refl
piece b false (p ∷ ps) = refl

more : (r : List ℕ) → 0 < length r → fields 0 (pieces 9 r) ≡ none
unfolding pieces
more [] h = absurd (omega arith)
more (b ∷ bs) h = piece b (eqb b 9) (pieces 9 bs)

-- every number is read: by whether anything is left
last : (s : List ℕ) (at : ℕ) (t : Bool) → leb (length s) at ≡ t → fields 0 (pieces 9 (drop at s)) ≡ nothing t
unfolding fields pieces
last s at true e = rw (drop_of_length-le s {i = at} (leb-true _ _ e))
last s at false e = let l : at < length s = leb-false _ _ e in more (drop at s) (simp length-drop (omega arith))

pub loop-k-init : goal.loop-k-init
loop-k-init c = (omega arith, refl, omega arith, refl, rw sub-zero)

pub returns-then-line-at : goal.returns-then-line-at
returns-then-line-at c =
    let m = length c.loop-k.to - 1 - c.loop-k.k in
    let e : length c.args.to.now - c.loop-k.k ≡ suc m = omega arith in
    let h : c.loop-k.k ≤ length c.loop-k.to = omega arith in record {
      whole = (ended false c.loop-k.to c.args.to.now c.loop-k.k _ (c.loop-k.invariant.4 ∙ rw (e, no_field c.args.line.now c.loop-k.at m c.if-line-at.true)) h c.loop-k.invariant.3).0;
      output = (ended false c.loop-k.to c.args.to.now c.loop-k.k _ (c.loop-k.invariant.4 ∙ rw (e, no_field c.args.line.now c.loop-k.at m c.if-line-at.true)) h c.loop-k.invariant.3).1;
    }

pub returns-in_default : goal.returns-in_default
unfolding join fields
returns-in_default c =
    let turned : let p = c.before.before.before.before in let l = c.loop-k in let a = c.args in
    read_of (length c.args.to.now) c.args.line.now
    ≡ behind (take c.loop-k.k c.loop-k.to) (join c.field.result (fields (length c.loop-k.to - 1 - c.loop-k.k) (pieces 9 (drop (c.loop-k.at + c.piece_len.result) c.args.line.now)))) = let p = c.before.before.before.before in
    let l = c.loop-k in
    let a = c.args in
    let s = c.args.line.now in
    let r = c.piece_len.result in
    let m = length c.loop-k.to - 1 - c.loop-k.k in
    let e : length c.args.to.now - c.loop-k.k ≡ suc m = omega arith in
    let h : c.loop-k.at < length s = omega arith in
    let first = next-piece 9 s c.loop-k.at r h c.piece_len.ensures.first in
    let found : c.field.result ≡ field_of (stop_of m) (take r (drop c.loop-k.at s)) = rw (add-sub_cancel_left c.loop-k.at r, c.stop_of.ensures) at c.field.ensures in
    c.loop-k.invariant.4 ∙ rw (e, first, found) in
    let l = c.loop-k in
    let a = c.args in
    let h : c.loop-k.k ≤ length c.loop-k.to = omega arith in record {
      whole = (ended false c.loop-k.to c.args.to.now c.loop-k.k _ (turned ∙ rw c.in_default.is) h c.loop-k.invariant.3).0;
      output = (ended false c.loop-k.to c.args.to.now c.loop-k.k _ (turned ∙ rw c.in_default.is) h c.loop-k.invariant.3).1;
    }

pub loop-k-preserved : goal.loop-k-preserved
unfolding fields
loop-k-preserved c =
    let turned : let p = c.before.before.before.before in let l = c.loop-k in let a = c.args in
    read_of (length c.args.to.now) c.args.line.now
    ≡ behind (take c.loop-k.k c.loop-k.to) (join c.field.result (fields (length c.loop-k.to - 1 - c.loop-k.k) (pieces 9 (drop (c.loop-k.at + c.piece_len.result) c.args.line.now)))) = let p = c.before.before.before.before in
    let l = c.loop-k in
    let a = c.args in
    let s = c.args.line.now in
    let r = c.piece_len.result in
    let m = length c.loop-k.to - 1 - c.loop-k.k in
    let e : length c.args.to.now - c.loop-k.k ≡ suc m = omega arith in
    let h : c.loop-k.at < length s = omega arith in
    let first = next-piece 9 s c.loop-k.at r h c.piece_len.ensures.first in
    let found : c.field.result ≡ field_of (stop_of m) (take r (drop c.loop-k.at s)) = rw (add-sub_cancel_left c.loop-k.at r, c.stop_of.ensures) at c.field.ensures in
    c.loop-k.invariant.4 ∙ rw (e, first, found) in
    let l = c.loop-k in
    let a = c.args in
    let h : c.loop-k.k < length c.loop-k.to = omega arith in
    let e : length c.loop-k.to - 1 - c.loop-k.k ≡ length c.args.to.now - (c.loop-k.k + 1) = omega arith in
    (omega arith, simp length-set c.loop-k.invariant.1, omega arith, left c.loop-k.to c.args.to.now c.loop-k.k _ c.loop-k.invariant.3, turned ∙ rw c.in-Some.is (grow c.loop-k.to c.loop-k.k _ _ h ∙ rw e refl))

pub returns : goal.returns
returns c =
    let e : length c.args.to.now - c.loop-k.k ≡ 0 = omega arith in
    let h : c.loop-k.k ≤ length c.loop-k.to = omega arith in
    let r = read_of (length c.args.to.now) c.args.line.now in
    let both : (_ ≡ r.whole) × (c.loop-k.to ≡ over r.list c.args.to.now) = ended _ c.loop-k.to c.args.to.now c.loop-k.k r (c.loop-k.invariant.4 ∙ rw (e, last c.args.line.now c.loop-k.at _ refl)) h c.loop-k.invariant.3 in record {
      whole = both.0;
      output = both.1;
    }
