-- What stands at the places of a call, and what the inner functions ask of them. Assumes nothing.
use Rattle.std.specs.Prelude.{List, ℕ, ◌+◌, ◌*◌, Float}
use Rattle.buffers.specs.Region.{region}
use Rattle.encoder_linear.specs.Linear.{weighed_row}
use Rattle.encoder_softmax.specs.Softmax.{scaled, softmax_of}
use Rattle.encoder_attention.specs.declared.places.Places.{Places}
use Rattle.encoder_attention.specs.Attention as Attention
use Rattle.encoder_attention.specs.inner.Fits as Fits
use Rattle.encoder_attention.specs.inner.Keys.{keys_of}

-- the floats of a token, and of all
abbrev pub dim : Places → ℕ
dim p = p.heads * p.hd

abbrev pub floats : Places → ℕ
floats p = p.t * (p.heads * p.hd)

-- the queries, the keys, which stand turned, and the values
abbrev pub queries : Places → List Float → List Float
queries p s = region s p.q (p.t * (p.heads * p.hd))

abbrev pub keys : Places → List Float → List Float
keys p s = keys_of p.t (p.heads * p.hd) (region s p.k (p.t * (p.heads * p.hd)))

abbrev pub values : Places → List Float → List Float
values p s = region s p.v (p.t * (p.heads * p.hd))

-- the scores of a query against keys that stand turned
abbrev pub row_scores : Places → List Float → List Float → List Float
row_scores p q k = scaled p.t p.scaling (weighed_row p.hd p.t p.t 0 q k)

-- the scores of query i in head h, and its sums by values that stand at e of each of t rows of w
abbrev pub head_scores : Places → List Float → ℕ → ℕ → List Float
head_scores p s i h = Attention.head_scores p.t (p.heads * p.hd) p.hd p.scaling (queries p s) (keys p s) i (h * p.hd)

abbrev pub head_sums : Places → List Float → ℕ → ℕ → ℕ → ℕ → List Float
head_sums p s i h w e = weighed_row p.t w p.hd e (softmax_of p.t (head_scores p s i h)) (region s p.v (p.t * w))

-- where these sums stand
abbrev pub sums_place : Places → ℕ → ℕ → ℕ
sums_place p i h = p.out + (i * (p.heads * p.hd) + h * p.hd)

-- every score, and the attention's sums
abbrev pub scores : Places → List Float → List Float
scores p s = Attention.scores_of p.t p.heads p.hd p.scaling (queries p s) (keys p s)

abbrev pub sums : Places → List Float → List Float
sums p s = Attention.attention_of p.t p.heads p.hd p.scaling (queries p s) (keys p s) (values p s)

abbrev pub AttendFits : ℕ → Places → Type 0
AttendFits len p = Fits.AttendFits len p.q p.k p.v (p.t * (p.heads * p.hd)) p.row p.out p.t p.heads p.hd

abbrev pub HeadAt : ℕ → Places → ℕ → ℕ → ℕ → ℕ → Type 0
HeadAt len p i h w e = Fits.HeadAt len p.q p.k p.v p.row p.out p.t p.heads p.hd i h w e

abbrev pub TokenAt : ℕ → Places → ℕ → Type 0
TokenAt len p i = Fits.TokenAt len p.q p.k p.v p.row p.out p.t p.heads p.hd i

abbrev pub QueriesAt : ℕ → Places → ℕ → Type 0
QueriesAt len p h = Fits.QueriesAt len p.q p.k p.v p.row p.out p.t p.heads p.hd h

abbrev pub PairAt : ℕ → Places → ℕ → ℕ → Type 0
PairAt len p i h = Fits.PairAt len p.q p.k p.v p.row p.out p.t p.heads p.hd i h

abbrev pub HeadsFit : ℕ → Places → ℕ → Type 0
HeadsFit len p g = Fits.HeadsFit len p.q p.k p.v g p.out p.t p.heads p.hd

-- the keys stood at k before they were turned
abbrev pub KeysFit : ℕ → Places → ℕ → Type 0
KeysFit len p k = Fits.KeysFit len p.q k p.v p.k p.row p.out p.t p.heads p.hd
