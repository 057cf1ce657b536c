-- `encoder_softmax::softmax::inverse` meets its contract. Assumes nothing.
use Rattle.encoder_softmax.proofs.softmax.inverse.Goals as goal

pub returns-then-x : goal.returns-then-x
returns-then-x c = rw c.if-x.true

pub returns-else-x : goal.returns-else-x
returns-else-x c = rw c.if-x.false
