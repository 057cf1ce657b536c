-- `value::read_list`, `read_object` and `read_value` call each other and meet their contracts. Assumes nothing.
use Rattle.std.proofs.Common.{Ok, refl, ap, ◌∙◌, [], ◌∷◌, arith}
use Rattle.std.proofs.lemmas.Result.{err_from_is_err_and}
use Rattle.json_grammar.specs.inner.Machine as M
use Rattle.json_grammar.proofs.Steps.{ends, closes, takes, at-limit, behind-solid}
use Rattle.json_read.proofs.Values.{spaced-reads, reads-limit, reads-moved, deepens, opens, reads_whole, reads-past, reads-err, parts-told, parts-closed, parts-wrong, parts_more, list-starts, object-starts}
use Rattle.json_read.proofs.value.+read_list_read_object_read_value.Goals as goal
use Rattle.json_read.proofs.value.+read_list_read_object_read_value.Goals.{read_list-then-i-s+else-s-i-eq93, read_list-else-i-s, read_object-then-i-s+else-s-i-eq125, read_object-else-i-s}

-- ---- a list

pub read_list-returns-then-s-i-eq93 : goal.read_list-returns-then-s-i-eq93
unfolding M.settle M.alts M.pick M.within M.values M.spaced
read_list-returns-then-s-i-eq93 t c = spaced-reads _ M.first _ refl c.blank-i.ensures (at-limit (closes c.if-i-s.true (ap (M.settle (M.first ∷ [])) c.if-s-i-eq93.true)))

pub read_list-loop-n-init : goal.read_list-loop-n-init
read_list-loop-n-init t c = let k = c.blank-i.ensures in (k.low, k.high, list-starts _ k (elim c.if-i-s.branch [ read_list-then-i-s+else-s-i-eq93 w ↦ (λ h. w.if-s-i-eq93.false) | read_list-else-i-s w ↦ (λ h e. absurd (omega arith)) ]))

pub read_list-loop-n-preserved : goal.read_list-loop-n-preserved
unfolding M.alts M.nullable M.height M.weight
read_list-loop-n-preserved t c =
    let m = parts-told (ap Ok c.in-Ok-More.field-0-is) c.in-Ok-More.ensures in
    let f = m.falls _ refl in
    let v = c.in_ok-n.ensures in
    (omega (arith, v.low), omega (arith, v.low), c.loop-n.invariant.2 ∙ reads_whole (M.rest ∷ []) v ∙ parts_more _ M.rest (M.value ∷ (M.rest ∷ [])) refl refl m)

pub read_list-loop-n-smaller : goal.read_list-loop-n-smaller
read_list-loop-n-smaller t c =
    let m = parts-told (ap Ok c.in-Ok-More.field-0-is) c.in-Ok-More.ensures in
    let f = m.falls _ refl in
    let v = c.in_ok-n.ensures in
    omega (arith, v.low)

pub read_list-returns-in-Ok-Closed : goal.read_list-returns-in-Ok-Closed
unfolding M.alts M.nullable M.height M.weight
read_list-returns-in-Ok-Closed t c = let l = c.loop-n in reads-moved l.i (M.value ∷ (M.rest ∷ [])) l.invariant.0 l.invariant.1 l.invariant.2 (reads-past (M.rest ∷ []) c.in_ok-n.ensures (parts-closed M.rest (M.value ∷ (M.rest ∷ [])) refl refl (parts-told (ap Ok c.in-Ok-Closed.field-0-is) c.in-Ok-Closed.ensures)))

pub read_list-returns-in-Err : goal.read_list-returns-in-Err
unfolding M.alts M.nullable M.height M.weight
read_list-returns-in-Err t c = let l = c.loop-n in reads-moved l.i (M.value ∷ (M.rest ∷ [])) l.invariant.0 l.invariant.1 l.invariant.2 (reads-past (M.rest ∷ []) c.in_ok-n.ensures (parts-wrong M.rest (M.value ∷ (M.rest ∷ [])) refl refl c.in-Err.ensures))

pub read_list-returns-in_err-n : goal.read_list-returns-in_err-n
unfolding M.alts M.nullable M.height M.weight
read_list-returns-in_err-n t c = let l = c.loop-n in let p = err_from_is_err_and c.from_residual.result c.from_residual.ensures.1 in rw (p.1, p.2) (reads-moved l.i (M.value ∷ (M.rest ∷ [])) l.invariant.0 l.invariant.1 l.invariant.2 (reads-err (M.rest ∷ []) _ c.in_err-n.ensures))

-- ---- an object

pub read_object-returns-then-s-i-eq125 : goal.read_object-returns-then-s-i-eq125
unfolding M.settle M.alts M.pick M.within M.values M.spaced
read_object-returns-then-s-i-eq125 t c = spaced-reads _ M.first_member _ refl c.blank-i.ensures (at-limit (closes c.if-i-s.true (ap (M.settle (M.first_member ∷ [])) c.if-s-i-eq125.true)))

pub read_object-loop-k-init : goal.read_object-loop-k-init
read_object-loop-k-init t c = let k = c.blank-i.ensures in (k.low, k.high, object-starts _ k (elim c.if-i-s.branch [ read_object-then-i-s+else-s-i-eq125 w ↦ (λ h. w.if-s-i-eq125.false) | read_object-else-i-s w ↦ (λ h e. absurd (omega arith)) ]))

pub read_object-loop-k-preserved : goal.read_object-loop-k-preserved
unfolding M.alts M.nullable M.height M.weight
read_object-loop-k-preserved t c =
    let m = parts-told (ap Ok c.in-Ok-More.field-0-is) c.in-Ok-More.ensures in
    let f = m.falls _ refl in
    let v = c.in_ok-n.ensures in
    let k = c.in_ok-k.ensures in
    (omega (arith, v.low, k.low), omega (arith, v.low, k.low), c.loop-k.invariant.2 ∙ reads_whole (M.value ∷ (M.rest-member ∷ [])) (at-limit k) ∙ reads_whole (M.rest-member ∷ []) v ∙ parts_more _ M.rest-member (M.key ∷ (M.colon ∷ (M.value ∷ (M.rest-member ∷ [])))) refl refl m)

pub read_object-loop-k-smaller : goal.read_object-loop-k-smaller
read_object-loop-k-smaller t c =
    let m = parts-told (ap Ok c.in-Ok-More.field-0-is) c.in-Ok-More.ensures in
    let f = m.falls _ refl in
    let v = c.in_ok-n.ensures in
    let k = c.in_ok-k.ensures in
    omega (arith, v.low, k.low)

pub read_object-returns-in-Ok-Closed : goal.read_object-returns-in-Ok-Closed
unfolding M.alts M.nullable M.height M.weight
read_object-returns-in-Ok-Closed t c = let l = c.loop-k in reads-moved l.i (M.key ∷ (M.colon ∷ (M.value ∷ (M.rest-member ∷ [])))) l.invariant.0 l.invariant.1 l.invariant.2 (reads-past (M.value ∷ (M.rest-member ∷ [])) (at-limit c.in_ok-k.ensures) (reads-past (M.rest-member ∷ []) c.in_ok-n.ensures (parts-closed M.rest-member (M.key ∷ (M.colon ∷ (M.value ∷ (M.rest-member ∷ [])))) refl refl (parts-told (ap Ok c.in-Ok-Closed.field-0-is) c.in-Ok-Closed.ensures))))

pub read_object-returns-in-Err : goal.read_object-returns-in-Err
unfolding M.alts M.nullable M.height M.weight
read_object-returns-in-Err t c = let l = c.loop-k in reads-moved l.i (M.key ∷ (M.colon ∷ (M.value ∷ (M.rest-member ∷ [])))) l.invariant.0 l.invariant.1 l.invariant.2 (reads-past (M.value ∷ (M.rest-member ∷ [])) (at-limit c.in_ok-k.ensures) (reads-past (M.rest-member ∷ []) c.in_ok-n.ensures (parts-wrong M.rest-member (M.key ∷ (M.colon ∷ (M.value ∷ (M.rest-member ∷ [])))) refl refl c.in-Err.ensures)))

pub read_object-returns-in_err-n : goal.read_object-returns-in_err-n
unfolding M.alts M.nullable M.height M.weight
read_object-returns-in_err-n t c = let l = c.loop-k in let p = err_from_is_err_and c.from_residual-in_err-n.result c.from_residual-in_err-n.ensures.1 in rw (p.1, p.2) (reads-moved l.i (M.key ∷ (M.colon ∷ (M.value ∷ (M.rest-member ∷ [])))) l.invariant.0 l.invariant.1 l.invariant.2 (reads-past (M.value ∷ (M.rest-member ∷ [])) (at-limit c.in_ok-k.ensures) (reads-err (M.rest-member ∷ []) _ c.in_err-n.ensures)))

pub read_object-returns-in_err-k : goal.read_object-returns-in_err-k
unfolding M.alts M.nullable M.height M.weight
read_object-returns-in_err-k t c = let l = c.loop-k in let p = err_from_is_err_and c.from_residual.result c.from_residual.ensures.1 in rw (p.1, p.2) (reads-moved l.i (M.key ∷ (M.colon ∷ (M.value ∷ (M.rest-member ∷ [])))) l.invariant.0 l.invariant.1 l.invariant.2 (reads-err (M.value ∷ (M.rest-member ∷ [])) _ (at-limit c.in_err-k.ensures)))

-- ---- a value

pub read_value-returns-then-s-i : goal.read_value-returns-then-s-i
unfolding M.alts M.ready M.nullable
read_value-returns-then-s-i t c = spaced-reads _ M.value M.values refl c.blank-i.ensures (at-limit (ends refl c.if-s-i.true))

pub read_value-returns-then-d-eq0 : goal.read_value-returns-then-d-eq0
unfolding M.settle M.alts M.pick M.within M.values M.spaced M.height M.weight
read_value-returns-then-d-eq0 t c = spaced-reads _ M.value M.values refl c.blank-i.ensures (deepens (M.first ∷ []) c.if-s-i.false (ap (M.settle (M.value ∷ [])) c.if-b-eq91.true) (omega arith))

pub read_value-returns-then-b-eq91 : goal.read_value-returns-then-b-eq91
unfolding M.settle M.alts M.pick M.within M.values M.spaced M.height M.weight
read_value-returns-then-b-eq91 t c = spaced-reads _ M.value M.values refl c.blank-i.ensures (opens (M.first ∷ []) c.if-s-i.false (ap (M.settle (M.value ∷ [])) c.if-b-eq91.true) (omega arith) (reads-limit (omega arith) c.read_list.ensures))

pub read_value-returns-then-d-eq0-2 : goal.read_value-returns-then-d-eq0-2
unfolding M.settle M.alts M.pick M.within M.values M.spaced M.height M.weight
read_value-returns-then-d-eq0-2 t c = spaced-reads _ M.value M.values refl c.blank-i.ensures (deepens (M.first_member ∷ []) c.if-s-i.false (ap (M.settle (M.value ∷ [])) c.if-b-eq123.true) (omega arith))

pub read_value-returns-then-b-eq123 : goal.read_value-returns-then-b-eq123
unfolding M.settle M.alts M.pick M.within M.values M.spaced M.height M.weight
read_value-returns-then-b-eq123 t c = spaced-reads _ M.value M.values refl c.blank-i.ensures (opens (M.first_member ∷ []) c.if-s-i.false (ap (M.settle (M.value ∷ [])) c.if-b-eq123.true) (omega arith) (reads-limit (omega arith) c.read_object.ensures))

pub read_value-returns-then-b-eq34 : goal.read_value-returns-then-b-eq34
unfolding M.settle M.alts M.pick M.within M.values M.spaced
read_value-returns-then-b-eq34 t c = spaced-reads _ M.value M.values refl c.blank-i.ensures (at-limit (takes (M.chars ∷ []) c.if-s-i.false (ap (M.settle (M.value ∷ [])) c.if-b-eq34.true) c.in_ok-n.ensures))

pub read_value-returns-in_err-n : goal.read_value-returns-in_err-n
unfolding M.settle M.alts M.pick M.within M.values M.spaced
read_value-returns-in_err-n t c = let p = err_from_is_err_and c.from_residual.result c.from_residual.ensures.1 in rw (p.1, p.2) (spaced-reads _ M.value M.values refl c.blank-i.ensures (at-limit (takes (M.chars ∷ []) c.if-s-i.false (ap (M.settle (M.value ∷ [])) c.if-b-eq34.true) c.in_err-n.ensures)))

pub read_value-scalar-requires : goal.read_value-scalar-requires
read_value-scalar-requires t c = (c.if-s-i.false, c.if-b-eq91.false, c.if-b-eq123.false, c.if-b-eq34.false, behind-solid c.blank-i.ensures c.if-s-i.false)

pub read_value-returns : goal.read_value-returns
unfolding M.alts
read_value-returns t c = spaced-reads _ M.value M.values refl c.blank-i.ensures (at-limit c.scalar.ensures)
