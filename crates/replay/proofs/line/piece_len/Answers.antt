-- `line::piece_len` meets its contract: the bytes passed and the piece that the rest starts with are the first piece. Assumes nothing.
use Rattle.std.proofs.Common.{◌≡◌, ℕ, suc, ◌+◌, ◌<◌, ◌≤◌, List, length, get_or, drop, add-one, arith, drop_of_length-le, drop-cons, eq-eqb, ne_eqb}
use Rattle.replay.specs.Pieces.{piece_len}
use Rattle.replay.proofs.line.piece_len.Goals as goal

module _ (stop : ℕ) (s : List ℕ) (i : ℕ) where
  -- a byte that ends the piece, one that does not, and the end of the text
  ends : i < length s → get_or s i 0 ≡ stop → piece_len stop (drop i s) ≡ 1
  unfolding piece_len
  ends h e = rw (drop-cons s i 0 h) (simp (eq-eqb _ _ e))

  goes : i < length s → (get_or s i 0 ≡ stop → ⊥) → piece_len stop (drop i s) ≡ suc (piece_len stop (drop (i + 1) s))
  unfolding piece_len
  goes h e = rw (add-one i, drop-cons s i 0 h) (simp (ne_eqb _ _ e))

  over : length s ≤ i → piece_len stop (drop i s) ≡ 0
  unfolding piece_len
  over h = rw (drop_of_length-le s {i = i} h)

pub returns-then-b-stop : goal.returns-then-b-stop
returns-then-b-stop c =
    let h : c.loop-i.i < length c.args.text.now = omega arith in
    let e = ends c.args.stop c.args.text.now c.loop-i.i h c.if-b-stop.true in record {
      first = omega arith;
      within = omega arith;
    }

pub loop-i-preserved : goal.loop-i-preserved
loop-i-preserved c =
    let h : c.loop-i.i < length c.args.text.now = omega arith in
    let e = goes c.args.stop c.args.text.now c.loop-i.i h c.if-b-stop.false in
    omega arith

pub returns : goal.returns
returns c =
    let h : length c.args.text.now ≤ c.loop-i.i = omega arith in
    let e = over c.args.stop c.args.text.now c.loop-i.i h in record {
      first = omega arith;
      within = omega arith;
    }
