-- Laws of what fits: a test that passes gives what the inner functions ask, and what they ask passes the test.
-- Assumes nothing.
use mathlib.Core.Bool.{true, ◌&&◌}
use mathlib.Core.Path.{◌≡◌}
use Prim.Native.Nat.{ℕ, ◌+◌}
use borrow.Author.Tests.{leb-true, le-leb}
use Rattle.buffers.specs.inner.Room.{inside, aside}
use Rattle.buffers.proofs.Rooms.{and_parts, two, aside-says, aside-is}
use Rattle.encoder_elements.specs.inner.Room.{pair_fits}
use Rattle.encoder_elements.specs.inner.Fits.{PairFits}

module _ {lens y z n : ℕ} where
  pub pair-says : pair_fits lens y z n ≡ true → PairFits lens y z n
  unfolding pair_fits
  pair-says h =
      let p = and_parts (inside lens y n && inside lens z n) (aside z n y n) h in
      let a = and_parts (inside lens y n) (inside lens z n) p.0 in
      record { yin = leb-true (y + n) lens a.0; zin = leb-true (z + n) lens a.1; apart = aside-says z n y n p.1 }

  pub pair_fits_lem : PairFits lens y z n → pair_fits lens y z n ≡ true
  unfolding pair_fits
  pair_fits_lem f = two (two (le-leb (y + n) lens f.yin) (le-leb (z + n) lens f.zin)) (aside-is f.apart)
