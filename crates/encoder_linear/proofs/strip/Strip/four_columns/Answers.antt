-- `encoder_linear::strip::Strip::four_columns` meets its contract: all four are gathered before any is spread. Assumes nothing.
use mathlib.Core.Path.{◌≡◌, ap, ◌∙◌}
use Prim.Native.Nat.{ℕ, ◌+◌, ◌*◌, ◌≤◌, ◌<◌}
use native.Mathlib.Omega.{arith}
use lib.ListN.{length, get_or, replicate, length-replicate}
use lib.Ieee.{nan}
use Rattle.number_floats.specs.Constants.{zero32}
use Rattle.buffers.proofs.Lists.{fit, length-tab}
use Rattle.encoder_linear.specs.inner.Lanes.{gone_sum}
use Rattle.encoder_linear.specs.inner.Fits.{FourAt}
use Rattle.encoder_linear.proofs.Fills.{filled-ext}
use Rattle.encoder_linear.proofs.Pieces.{fit-more, four-cells}
use Rattle.encoder_linear.proofs.strip.Strip.four_columns.Goals as goal

-- the four columns of row l are inside s, and the next floats of their weights are inside w
module _ {lens lenw lent y r nin nout k n c : ℕ} (f : FourAt lens lenw lent y r nin nout k n c) where
  row : (l : ℕ) → l < r → y + c + l * nout + 4 ≤ lens
  row l h = omega (arith, fit nout h, f.columns, f.fits.yin)

  room : c * nin + k + 3 * nin + n ≤ lenw
  room = omega (arith, fit-more c 4 nin f.columns, f.fits.win, f.fits.kin)

pub pack-requires : goal.pack-requires
pack-requires c = let p = c.requires in record { rows = c.requires.few; tin = simp length-replicate (omega arith); xin = row p }

pub cells-b-requires : goal.cells-b-requires
cells-b-requires c = let p = c.requires in record { cells = c.pack.auto.xt ∙ simp length-replicate; tin = c.requires.fits.tin; win = room p }

pub unpack-requires : goal.unpack-requires
unpack-requires c =
    let p = c.requires in
    let l : length c.cells-b.result ≡ 16 = ap length c.cells-b.ensures ∙ length-tab 16 _ in
    record { rows = c.requires.few; wide = omega (arith, c.requires.columns); cells = omega (arith, l); to = row p }

pub returns : goal.returns
returns c =
    c.unpack.ensures
    ∙ filled-ext c.args.s.now (c.args.self.y + c.args.c) c.args.self.nout c.args.self.r 4 (λ l o. get_or c.cells-b.result (l + o * 4) nan) (λ l o. gone_sum c.args.s.now c.args.w.now c.args.xt.now c.args.self.y c.args.self.nin c.args.self.nout c.args.self.k c.args.self.n l (c.args.c + o))
    (four-cells c.args.w.now c.args.xt.now c.args.self.y c.args.self.r c.args.self.nin c.args.self.nout c.args.self.k c.args.self.n c.args.s.now (replicate 16 zero32) c.pack.new.xt c.cells-b.result c.args.c c.requires.few (simp length-replicate) c.pack.ensures c.cells-b.ensures)
