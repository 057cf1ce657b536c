-- What the inner functions ask of the places and lengths that they are handed. Assumes nothing.
use Rattle.std.specs.Prelude.{◌≡◌, List, ℕ, ◌+◌, ◌*◌, ◌≤◌, ◌<◌, length, Float}
use Rattle.buffers.specs.inner.Apart.{Apart}

-- lanes of a and of b, by two rows of as many weights
pub record TwoFit (a b : List Float) (lent lenw lenv : ℕ) : Type 0 where
  pub first : length a ≡ 16
  pub second : length b ≡ 16
  pub tin : lenw * 16 ≤ lent
  pub same : lenv ≡ lenw

-- lanes of a, b, c and d, by four rows
pub record FourFit (a b c d : List Float) (lent lenw lenv lenu lenp : ℕ) : Type 0 where
  pub first : length a ≡ 16
  pub second : length b ≡ 16
  pub third : length c ≡ 16
  pub fourth : length d ≡ 16
  pub tin : lenw * 16 ≤ lent
  pub same : lenv ≡ lenw
  pub same₃ : lenu ≡ lenw
  pub same₄ : lenp ≡ lenw

-- n floats of v, from o on with step q, to at with step m
pub record StrideFits (lend at m lenv o q n : ℕ) : Type 0 where
  pub to : (i : ℕ) → i < n → at + i * m < lend
  pub from : (i : ℕ) → i < n → o + i * q < lenv

-- r of four times sixteen lanes, to four columns of rows of m
pub record SpreadFits (lens at m r lena lenb lenc lend : ℕ) : Type 0 where
  pub some : 0 < r
  pub rows : r ≤ 16
  pub first : lena ≡ 16
  pub second : lenb ≡ 16
  pub third : lenc ≡ 16
  pub fourth : lend ≡ 16
  pub to : (l : ℕ) → l < r → at + 3 + l * m < lens

-- n floats of each of r rows, to m lanes
pub record PackFits (lent m lenx at r nin n : ℕ) : Type 0 where
  pub rows : r ≤ m
  pub tin : n * m ≤ lent
  pub xin : (l : ℕ) → l < r → at + l * nin + n ≤ lenx

-- r rows of sums at y, by n of the floats of each row of the weights
pub record ColumnsFits (lens lenw lent y r nin nout k n : ℕ) : Type 0 where
  pub some : 0 < r
  pub rows : r ≤ 16
  pub yin : y + r * nout ≤ lens
  pub win : nout * nin ≤ lenw
  pub tin : n * 16 ≤ lent
  pub kin : k + n ≤ nin

-- and column c of them
pub record ColumnAt (lens lenw lent y r nin nout k n c : ℕ) : Type 0 where
  pub fits : ColumnsFits lens lenw lent y r nin nout k n
  pub column : c < nout

-- and columns c to c + 3
pub record WideAt (lens lenw lent y r nin nout k n c : ℕ) : Type 0 where
  pub fits : ColumnsFits lens lenw lent y r nin nout k n
  pub columns : c + 4 ≤ nout

-- up to sixteen floats, m apart, can be read from each of four places on
pub record LanesAt (len a b c d m r : ℕ) : Type 0 where
  pub rows : r ≤ 16
  pub first : (i : ℕ) → i < r → a + i * m < len
  pub second : (i : ℕ) → i < r → b + i * m < len
  pub third : (i : ℕ) → i < r → c + i * m < len
  pub fourth : (i : ℕ) → i < r → d + i * m < len

-- sixteen cells, by four lanes at j and a weight of each of four rows of nin
pub record CellFits (lena lent lenw j at nin : ℕ) : Type 0 where
  pub cells : lena ≡ 16
  pub tin : j + 4 ≤ lent
  pub win : at + 3 * nin < lenw

-- by n of each
pub record CellsFit (lena lent lenw at nin n : ℕ) : Type 0 where
  pub cells : lena ≡ 16
  pub tin : n * 16 ≤ lent
  pub win : at + 3 * nin + n ≤ lenw

-- sixteen cells to four columns of r rows
pub record UnpackFits (lens lenb at nout r : ℕ) : Type 0 where
  pub rows : r ≤ 4
  pub wide : 4 ≤ nout
  pub cells : 16 ≤ lenb
  pub to : (l : ℕ) → l < r → at + l * nout + 4 ≤ lens

-- up to four rows of sums, and columns c to c + 3 of them
pub record FourAt (lens lenw lent y r nin nout k n c : ℕ) : Type 0 where
  pub few : r ≤ 4
  pub fits : ColumnsFits lens lenw lent y r nin nout k n
  pub columns : c + 4 ≤ nout

-- r is at most a and at most b, and not 0 where neither is
pub record UpTo (a b r : ℕ) : Type 0 where
  pub first : r ≤ a
  pub second : r ≤ b
  pub some : 0 < a → 0 < b → 0 < r

-- n rows at x, by the nout rows of the weights, to y
pub record LinearFits (lens lenw x y n nin nout : ℕ) : Type 0 where
  pub xin : x + n * nin ≤ lens
  pub yin : y + n * nout ≤ lens
  pub win : nout * nin ≤ lenw
  pub apart : Apart x (n * nin) y (n * nout)

-- n rows of d at y, and a row to add to each
pub record RowsFit (lens lenb y n d : ℕ) : Type 0 where
  pub yin : y + n * d ≤ lens
  pub long : lenb ≡ d

-- the same with rows of another slice
pub record FromFits (lenx lens lenw y n nin nout : ℕ) : Type 0 where
  pub xin : n * nin ≤ lenx
  pub yin : y + n * nout ≤ lens
  pub win : nout * nin ≤ lenw

-- up to sixteen of them, and n of the products of each sum
pub record BlockFits (lenx lens lenw x y r nin nout : ℕ) : Type 0 where
  pub some : 0 < r
  pub lanes : r ≤ 16
  pub xin : x + r * nin ≤ lenx
  pub yin : y + r * nout ≤ lens
  pub win : nout * nin ≤ lenw

pub record PieceFits (lenx lens lenw x y r nin nout k n : ℕ) : Type 0 where
  pub block : BlockFits lenx lens lenw x y r nin nout
  pub kin : k + n ≤ nin
  pub short : n ≤ 1024

-- where the weights, the rows and the sums stand
pub record WeighFits (len : ℕ) (row v out t dim hd o : ℕ) : Type 0 where
  pub v_in : v + t * dim ≤ len
  pub row_in : row + t ≤ len
  pub out_in : out + hd ≤ len
  pub o_in : o + hd ≤ dim
  pub rowout : Apart row t out hd
  pub vout : Apart v (t * dim) out hd

-- two rows of weights by as many rows of dim, m places from o on
pub record WideFits (m lenp lenr lenv o dim : ℕ) : Type 0 where
  pub same : lenr ≡ lenp
  pub v_is : lenv ≡ lenp * dim
  pub places : o + m ≤ dim

-- two rows of weights, at a and at b, with sums at x and at y
pub record WeighPairFits (len : ℕ) (a b v x y t dim hd o : ℕ) : Type 0 where
  pub first : WeighFits len a v x t dim hd o
  pub second : WeighFits len b v y t dim hd o
  pub ay : Apart a t y hd
  pub bx : Apart b t x hd
  pub xy : Apart x hd y hd
