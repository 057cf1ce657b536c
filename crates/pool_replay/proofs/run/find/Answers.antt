-- `run::find` meets its contract. Assumes nothing.
use mathlib.Core.Path.{sym, ap, ◌∙◌}
use Prim.Native.Nat.{ℕ}
use lib.ListN.{length, take}
use lib.Seq.{length-take-le}
use Rattle.pool.specs.Pool as P
use Rattle.pool_replay.specs.Run.{at, placed}
use Rattle.pool_replay.proofs.run.find.Goals as goal

pub slice_bounds-find-end : goal.slice_bounds-find-end
slice_bounds-find-end c = sym (length-take-le _ _ c.lent-n.ensures.1)

pub returns-in-Ok : goal.returns-in-Ok
returns-in-Ok c =
    let e = ap (λ (n : ℕ). P.find_answer c.args.p (length (take n c.args.s.now)) (at c.args.v.now 2)) c.lent-n.ensures.0 in
    sym (ap (placed c.args.p) (sym (c.find.ensures ∙ e) ∙ c.in-Ok.is))

pub returns-in-Err : goal.returns-in-Err
returns-in-Err c =
    let e = ap (λ (n : ℕ). P.find_answer c.args.p (length (take n c.args.s.now)) (at c.args.v.now 2)) c.lent-n.ensures.0 in
    ap (λ (n : ℕ). record { pool = c.args.p; number = n; start = 0; len = 0 }) c.from.ensures ∙ sym (ap (placed c.args.p) (sym (c.find.ensures ∙ e) ∙ c.in-Err.is))
