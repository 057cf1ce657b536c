-- `encoder_attention::pair::softmax_pair` meets its contract. Assumes nothing.
use mathlib.Core.Path.{◌∙◌}
use Prim.Native.Nat.{◌+◌}
use native.Mathlib.Omega.{arith}
use Rattle.buffers.proofs.Rooms.{written}
use Rattle.encoder_softmax.specs.Softmax.{softmax_of}
use Rattle.encoder_softmax.proofs.Lengths.{length-softmax}
use Rattle.encoder_attention.proofs.Pairs.{rows-each}
use Rattle.encoder_attention.proofs.pair.softmax_pair.Goals as goal

pub shape_of-s : goal.shape_of-s
shape_of-s c = c.softmax-2.auto.s ∙ c.softmax.auto.s

pub returns : goal.returns
returns c =
    rows-each c.args.t (softmax_of c.args.t) (length-softmax c.args.t) c.args.s.now c.softmax.new.s c.softmax-2.new.s c.args.row (written c.args.s.now c.softmax.new.s _ c.args.row c.args.t (omega (arith, c.requires)) c.softmax.ensures) (written c.softmax.new.s c.softmax-2.new.s _ (c.args.row + c.args.t) c.args.t (omega (arith, c.softmax.auto.s, c.requires)) c.softmax-2.ensures)
