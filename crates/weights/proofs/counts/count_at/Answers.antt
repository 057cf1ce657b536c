-- `counts::count_at` meets its contract. Assumes nothing.
use mathlib.Core.Path.{sym, ◌∙◌}
use Prim.Native.Nat.{◌-◌}
use native.Mathlib.Omega.{arith}
use Rattle.weights.proofs.Sums.{bounds, in-embedding, in-layers, in-projector}
use Rattle.weights.proofs.counts.count_at.Goals as goal

pub embedding_count-requires : goal.embedding_count-requires
embedding_count-requires c = bounds c.args.s c.requires

pub returns-then-i-lt2 : goal.returns-then-i-lt2
returns-then-i-lt2 c = c.embedding_count.ensures ∙ sym (in-embedding c.args.s c.args.i c.if-i-lt2.true)

pub part_count-requires : goal.part_count-requires
part_count-requires c = bounds c.args.s c.requires

pub returns-then-k-s : goal.returns-then-k-s
returns-then-k-s c = c.part_count.ensures ∙ sym (in-layers c.args.s c.args.i (c.args.i - 2) (omega arith) c.if-k-s.true)

pub projector_count-requires : goal.projector_count-requires
projector_count-requires c = bounds c.args.s c.requires

pub returns : goal.returns
returns c = c.projector_count.ensures ∙ sym (in-projector c.args.s c.args.i (c.args.i - 2) (omega arith) c.if-k-s.false)
