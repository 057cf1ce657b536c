-- `line::read_line` meets its contract: the first k numbers and the fields that are left give what is read of the line, and behind
-- them the buffer is as it was. Assumes nothing.
use Rattle.std.proofs.Common.{◌≡◌, ℕ, ◌-◌, ◌≤◌, List, ◌++◌, length, take, drop}
use Rattle.replay.specs.Pieces.{pieces}
use Rattle.replay.specs.Line.{Read, fields, read_of}
use Rattle.replay.proofs.line.read_line.Given as goal

-- numbers in front of others
abbrev pub behind : List ℕ → Read → Read
behind l r = record { whole = r.whole; list = l ++ r.list }

abbrev pub invariant-loop-k : goal.invariant-loop-k
invariant-loop-k l =
    (l.k ≤ length l.initial.to) × (length l.to ≡ length l.initial.to) × (l.at ≤ length l.line) × (drop l.k l.to ≡ drop l.k l.initial.to)
    × (read_of (length l.initial.to) l.line ≡ behind (take l.k l.to) (fields (length l.initial.to - l.k) (pieces 9 (drop l.at l.line))))
