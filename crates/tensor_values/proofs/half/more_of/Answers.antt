-- `tensor_values::half::more_of` meets its contract. Assumes nothing.
use borrow.Author.Tests.{lt-ltb, le-ltb}
use Rattle.tensor_values.proofs.half.more_of.Goals as goal

pub returns-then-size-lt260046848 : goal.returns-then-size-lt260046848
returns-then-size-lt260046848 c = simp (lt-ltb c.args.size 0xF80_0000 c.if-size-lt260046848.true)

pub returns-else-size-lt260046848 : goal.returns-else-size-lt260046848
returns-else-size-lt260046848 c = simp (le-ltb c.args.size 0xF80_0000 c.if-size-lt260046848.false)
