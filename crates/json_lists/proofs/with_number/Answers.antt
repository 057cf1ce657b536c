-- `with_number` meets its contract. Assumes nothing.
use Rattle.json_lists.proofs.Counted.{grown}
use Rattle.json_lists.proofs.with_number.Goals as goal
use Rattle.json_lists.proofs.with_number.Goals.{then-t-eq0, else-t-eq0, then-t-eq1, else-t-eq1}

pub returns : goal.returns
returns c = λ ns e. grown c.args.t c.args.n c.times.result c.if-t-eq0.result c.if-t-eq1.result ns e
    (λ z. elim c.if-t-eq0.branch [ then-t-eq0 w ↦ w.result-is | else-t-eq0 w ↦ absurd (w.if-t-eq0.false z) ])
    (λ z. elim c.if-t-eq0.branch [ then-t-eq0 w ↦ absurd (z w.if-t-eq0.true) | else-t-eq0 w ↦ w.result-is ])
    (λ z. elim c.if-t-eq1.branch [ then-t-eq1 w ↦ w.result-is | else-t-eq1 w ↦ absurd (w.if-t-eq1.false z) ])
    (λ z. elim c.if-t-eq1.branch [ then-t-eq1 w ↦ absurd (z w.if-t-eq1.true) | else-t-eq1 w ↦ w.result-is ])
    c.times.ensures
