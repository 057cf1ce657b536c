-- `string::two_of` meets its contract. Assumes nothing.
use Rattle.std.proofs.Common.{refl, [], ◌∷◌}
use Rattle.std.proofs.lemmas.Result.{err_from_is_err_and}
use Rattle.json_grammar.specs.inner.Machine as M
use Rattle.json_grammar.proofs.Steps.{then-past, then-err}
use Rattle.json_read.proofs.string.two_of.Goals as goal

pub returns-in_err-n : goal.returns-in_err-n
unfolding M.height M.weight
returns-in_err-n c = let p = err_from_is_err_and c.from_residual.result c.from_residual.ensures.1 in rw (p.1, p.2) (record { of = λ k p q. then-err (M.range M.tail ∷ []) refl _ (c.in_err-n.ensures.of k p q) })

pub returns : goal.returns
unfolding M.height M.weight
returns c = record { of = λ k p q. then-past (M.range M.tail ∷ []) refl (c.in_ok-n.ensures.of k p q) (c.one_of-2.ensures.of M.tail refl refl) }
