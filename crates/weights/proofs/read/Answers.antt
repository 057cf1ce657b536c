-- `read` meets its contract. Assumes nothing.
use Rattle.std.proofs.Common.{sym, ap, ◌∙◌, length}
use Rattle.std.proofs.lemmas.Result.{err_from_is_err_and}
use Rattle.weights.specs.File.{weights_in, left_by}
use Rattle.weights.proofs.Answers.{all-good}
use Rattle.weights.proofs.Filling.{weights-over}
use Rattle.weights.proofs.read.Goals as goal

pub returns : goal.returns
returns c = record { is = λ es o. let e = c.in_ok-n.ensures.is es o in let g = all-good c.args.s c.args.h.now c.args.places.now es o (length c.args.bytes.now) (length c.args.out.now) _ (sym e) in (e, c.fill.ensures.is es o g.0 g.1 ∙ weights-over c.args.s es c.args.bytes.now g.0 c.requires.s_value c.args.out.now g.1 ∙ ap (λ r. left_by r (weights_in c.args.s es c.args.bytes.now) c.args.out.now) e) }

pub returns-in_err-n : goal.returns-in_err-n
returns-in_err-n c = let p = err_from_is_err_and c.from_residual.result c.from_residual.ensures.1 in rw (p.1, p.2) (record { is = λ es o. let e = c.in_err-n.ensures.is es o in (e, ap (λ r. left_by r (weights_in c.args.s es c.args.bytes.now) c.args.out.now) e) })
