-- What the inner functions ask of values and weights, and the sums of these. Assumes nothing.
use Rattle.std.specs.Prelude.{List, ℕ, ◌*◌, Float}
use Rattle.buffers.specs.Region.{region}
use Rattle.encoder_linear.specs.Linear.{weighed_row}
use Rattle.encoder_linear.specs.inner.Weighed.{weighed_pair}
use Rattle.encoder_linear.specs.inner.Fits as Fits
use Rattle.encoder_linear.specs.declared.values.Values.{Values}

-- the first n sums by the weights at row
abbrev pub sums : Values → List Float → ℕ → ℕ → List Float
sums p s row n = weighed_row p.t p.dim n p.o (region s row p.t) (region s p.v (p.t * p.dim))

-- and by those at a and at b, written at x and at y
abbrev pub pair : Values → List Float → ℕ → ℕ → ℕ → ℕ → ℕ → List Float
pair p s a b x y n = weighed_pair s a b p.v x y p.t p.dim n p.o

abbrev pub WeighFits : ℕ → Values → ℕ → ℕ → Type 0
WeighFits len p row out = Fits.WeighFits len row p.v out p.t p.dim p.hd p.o

-- n places of each
abbrev pub PairFits : ℕ → Values → ℕ → ℕ → ℕ → ℕ → ℕ → Type 0
PairFits len p a b x y n = Fits.WeighPairFits len a b p.v x y p.t p.dim n p.o
