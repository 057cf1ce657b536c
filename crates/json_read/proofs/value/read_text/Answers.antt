-- `value::read_text` meets its contract. Assumes nothing.
use Rattle.std.proofs.lemmas.Result.{err_from_is_err_and}
use Rattle.json_grammar.proofs.Verdict.{verdict}
use Rattle.json_read.proofs.Values.{text-err, text-more, text-all}
use Rattle.json_read.proofs.value.read_text.Goals as goal

pub returns-in_err-n : goal.returns-in_err-n
returns-in_err-n c = let p = err_from_is_err_and c.from_residual.result c.from_residual.ensures.1 in rw (p.1, p.2) (verdict _ _ (text-err _ _ _ c.in_err-n.ensures))

pub returns-then-e-s : goal.returns-then-e-s
returns-then-e-s c = verdict _ _ (text-more _ _ _ _ c.in_ok-n.ensures c.blank-e.ensures c.if-e-s.true)

pub returns : goal.returns
returns c = verdict _ _ (text-all _ _ _ _ c.in_ok-n.ensures c.blank-e.ensures c.if-e-s.false)
