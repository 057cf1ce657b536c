-- `Lines::next` meets its contract: the first piece, and what is left behind it. Assumes nothing.
use Rattle.std.proofs.Common.{◌≡◌, ◌<◌, ◌≤◌, length, arith, rules}
use Rattle.replay.proofs.Cuts.{first_split, some, none_left}
use Rattle.replay.proofs.line.LinesIterator.next.Goals as goal

pub returns-then-is_empty-clause-steps : goal.returns-then-is_empty-clause-steps
returns-then-is_empty-clause-steps c =
    let h : length c.args.self.now.rest.now ≤ 0 = search rules in
    none_left 10 c.args.self.now.rest.now h

pub returns-clause-steps : goal.returns-clause-steps
returns-clause-steps c =
    let s = c.args.self.now.rest.now in
    let h : 0 < length s = search rules in
    let n : 0 < c.piece_len.result = rw c.piece_len.ensures.first (some 10 s h) in
    (first_split 10 s _ _ _ h c.piece_len.ensures.first c.split_at.ensures.front c.split_at.ensures.back, omega (arith, n, c.split_at.ensures.back_len))

pub returns-clause-goes : goal.returns-clause-goes
returns-clause-goes c =
    let s = c.args.self.now.rest.now in
    let h : 0 < length s = search rules in
    let n : 0 < c.piece_len.result = rw c.piece_len.ensures.first (some 10 s h) in
    record { on = λ f. (tt, tt, omega (arith, n, c.split_at.ensures.back_len)); keeps = tt; rests = λ f. tt }
