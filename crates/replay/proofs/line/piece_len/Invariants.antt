-- `line::piece_len` meets its contract: the bytes passed and the piece that the rest starts with are the first piece. Assumes nothing.
use Rattle.std.proofs.Common.{◌≡◌, ◌+◌, drop}
use Rattle.replay.specs.Pieces.{piece_len}
use Rattle.replay.proofs.line.piece_len.Given as goal

abbrev pub invariant-loop-i : goal.invariant-loop-i
invariant-loop-i l = piece_len l.stop l.text ≡ l.i + piece_len l.stop (drop l.i l.text)
