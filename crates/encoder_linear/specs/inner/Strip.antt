-- What a strip of sums becomes, and what the inner functions ask of it. Assumes nothing.
use Rattle.std.specs.Prelude.{List, ℕ, Float}
use Rattle.encoder_linear.specs.declared.strip.Strip.{Strip}
use Rattle.encoder_linear.specs.inner.Lanes.{gone_sum}
use Rattle.encoder_linear.specs.inner.Fits as Fits

-- the sum at row l and column c, by its lane of xt and its row of w
abbrev pub gone : Strip → List Float → List Float → List Float → ℕ → ℕ → Float
gone p s w xt l c = gone_sum s w xt p.y p.nin p.nout p.k p.n l c

abbrev pub Columns : ℕ → ℕ → ℕ → Strip → Type 0
Columns lens lenw lent p = Fits.ColumnsFits lens lenw lent p.y p.r p.nin p.nout p.k p.n

-- column c of it, columns c to c + 3, and these of up to four rows
abbrev pub Column : ℕ → ℕ → ℕ → Strip → ℕ → Type 0
Column lens lenw lent p c = Fits.ColumnAt lens lenw lent p.y p.r p.nin p.nout p.k p.n c

abbrev pub Wide : ℕ → ℕ → ℕ → Strip → ℕ → Type 0
Wide lens lenw lent p c = Fits.WideAt lens lenw lent p.y p.r p.nin p.nout p.k p.n c

abbrev pub Four : ℕ → ℕ → ℕ → Strip → ℕ → Type 0
Four lens lenw lent p c = Fits.FourAt lens lenw lent p.y p.r p.nin p.nout p.k p.n c

-- with the rows at xa of another slice
abbrev pub Piece : ℕ → ℕ → ℕ → Strip → ℕ → Type 0
Piece lenx lens lenw p xa = Fits.PieceFits lenx lens lenw xa p.y p.r p.nin p.nout p.k p.n
