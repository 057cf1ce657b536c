-- `names::tensor_is` meets its contract. Assumes nothing.
use mathlib.Core.Path.{sym, ◌∙◌}
use Prim.Native.Nat.{◌-◌}
use native.Mathlib.Omega.{arith}
use Rattle.tensor_header.proofs.Listed.{in-embedding, in-projector, layer-by, no-layer-by}
use Rattle.tensor_header.proofs.names.tensor_is.Goals as goal

pub returns-then-i-lt2 : goal.returns-then-i-lt2
returns-then-i-lt2 c = c.embedding_is.ensures ∙ sym (in-embedding c.args.s c.args.i _ c.if-i-lt2.true)

pub returns-in-Some : goal.returns-in-Some
returns-in-Some c = c.layer_is.ensures ∙ sym (layer-by c.args.s c.args.h.now c.args.at c.args.i (c.args.i - 2) c.in-Some.n (omega arith) c.if-l-s.true (sym c.in-Some.is ∙ c.requires.rest_value))

pub returns-in-None : goal.returns-in-None
returns-in-None c = sym (no-layer-by c.args.s c.args.h.now c.args.at c.args.i (c.args.i - 2) (omega arith) c.if-l-s.true (sym c.in-None.is ∙ c.requires.rest_value))

pub returns : goal.returns
returns c = c.projector_is.ensures ∙ sym (in-projector c.args.s c.args.i (c.args.i - 2) _ (omega arith) c.if-l-s.false)
