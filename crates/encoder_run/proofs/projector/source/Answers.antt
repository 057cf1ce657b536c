-- `encoder_run::projector::source` meets its contract. Assumes nothing.
use mathlib.Core.Path.{refl}
use native.Mathlib.Omega.{arith}
use Rattle.encoder_run.specs.inner.Source.{source_of}
use Rattle.encoder_run.proofs.Merges.{row_lt, col-lt, token-lt, source-lt}
use Rattle.encoder_run.proofs.projector.source.Goals as goal

pub overflow_mul-th : goal.overflow_mul-th
overflow_mul-th c = omega (arith, row_lt c.args.p c.args.merge c.args.gh c.args.gw c.args.dim c.requires)

pub overflow_add-th : goal.overflow_add-th
overflow_add-th c = omega (arith, row_lt c.args.p c.args.merge c.args.gh c.args.gw c.args.dim c.requires)

pub overflow_mul-tw : goal.overflow_mul-tw
overflow_mul-tw c = omega (arith, col-lt c.args.p c.args.merge c.args.gh c.args.gw c.args.dim c.requires)

pub overflow_add-tw : goal.overflow_add-tw
overflow_add-tw c = omega (arith, col-lt c.args.p c.args.merge c.args.gh c.args.gw c.args.dim c.requires)

pub overflow_mul-result : goal.overflow_mul-result
overflow_mul-result c = omega (arith, token-lt c.args.p c.args.merge c.args.gh c.args.gw c.args.dim c.requires)

pub overflow_add-result : goal.overflow_add-result
overflow_add-result c = omega (arith, token-lt c.args.p c.args.merge c.args.gh c.args.gw c.args.dim c.requires)

pub overflow_mul-result-2 : goal.overflow_mul-result-2
unfolding source_of
overflow_mul-result-2 c = omega (arith, source-lt c.args.p c.args.merge c.args.gh c.args.gw c.args.dim c.requires)

pub overflow_add-result-2 : goal.overflow_add-result-2
unfolding source_of
overflow_add-result-2 c = omega (arith, source-lt c.args.p c.args.merge c.args.gh c.args.gw c.args.dim c.requires)

pub returns : goal.returns
unfolding source_of
returns c = refl
