-- `text::replay` meets its contract: the counts so far and the lines that are left give the tally of the whole. Assumes nothing.
use Rattle.std.proofs.Common.{◌≡◌, ℕ, ◌+◌, ◌≤◌, length, get_or, replicate}
use Rattle.salvage_replay.specs.Record.{tally}
use Rattle.replay.specs.Pieces.{pieces}
use Rattle.replay.specs.Lines.{bytes_left, lines_left}
use Rattle.salvage_replay.proofs.text.replay.Given as goal

abbrev pub invariant-loop-line : goal.invariant-loop-line
invariant-loop-line l =
    (tally l.counts (lines_left l.line-iterator) ≡ tally (replicate 12 0) (pieces 10 l.fn.text)) × ((k : ℕ) → get_or l.counts k 0 + length (bytes_left l.line-iterator) ≤ length l.fn.text)
