-- `encoder_softmax::soften::exp_wide` meets its contract. Assumes nothing.
use mathlib.Core.Path.{◌≡◌}
use Prim.Native.Nat.{◌*◌}
use lib.ListN.{length}
use Rattle.buffers.specs.Region.{region, put}
use Rattle.encoder_softmax.specs.Softmax.{exp_less}
use Rattle.encoder_softmax.proofs.soften.exp_wide.Given as goal

abbrev pub invariant-loop-k : goal.invariant-loop-k
invariant-loop-k l = (length l.s ≡ length l.initial.s) × (l.s ≡ put l.initial.s l.y (exp_less (l.k * 16) l.m (region l.initial.s l.y l.n)))
