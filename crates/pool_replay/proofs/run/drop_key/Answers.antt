-- `run::drop_key` meets its contract. Assumes nothing.
use mathlib.Core.Path.{sym, ap, ◌∙◌}
use Prim.Native.Nat.{ℕ}
use lib.ListN.{length, take}
use lib.Seq.{length-take-le}
use Rattle.pool.specs.Pool as P
use Rattle.pool_replay.specs.Run.{at, pooled}
use Rattle.pool_replay.proofs.run.drop_key.Goals as goal

pub slice_bounds-drop_key-end : goal.slice_bounds-drop_key-end
slice_bounds-drop_key-end c = sym (length-take-le _ _ c.lent-n.ensures.1)

pub returns : goal.returns
returns c =
    let e = ap (λ (n : ℕ). P.drop_answer c.args.p (length (take n c.args.s.now)) (at c.args.v.now 2)) c.lent-n.ensures.0 in
    ap (λ (n : ℕ). record { pool = c.drop_key-answer.new.p; number = n; start = 0; len = 0 }) c.number.ensures ∙ ap pooled (c.drop_key-answer.ensures ∙ e)
