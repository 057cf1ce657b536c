-- Laws of what fits: a test that passes gives what the inner functions ask, and what they ask passes the test.
-- Assumes nothing.
use mathlib.Core.Bool.{true, ◌&&◌}
use mathlib.Core.Path.{◌≡◌}
use Prim.Native.Nat.{ℕ, ◌+◌, ◌*◌}
use borrow.Author.Tests.{leb-true, eqb-true, le-leb, eq-eqb}
use lib.Dec.{leb, eqb}
use Rattle.buffers.specs.inner.Room.{inside, aside}
use Rattle.buffers.proofs.Rooms.{and_parts, two, aside-says, aside-is}
use Rattle.encoder_kernels.specs.inner.Room.{norm_fits}
use Rattle.encoder_kernels.specs.inner.Fits.{NormFits}

module _ {lens lenw x y n dim : ℕ} where
  pub norm-says : norm_fits lens lenw x y n dim ≡ true → NormFits lens lenw x y n dim
  unfolding norm_fits
  norm-says h =
      let p = and_parts (inside lens x (n * dim) && inside lens y (n * dim)) ((leb dim 2048 && eqb lenw dim) && aside x (n * dim) y (n * dim)) h in
      let a = and_parts (inside lens x (n * dim)) (inside lens y (n * dim)) p.0 in
      let b = and_parts (leb dim 2048 && eqb lenw dim) (aside x (n * dim) y (n * dim)) p.1 in
      let d = and_parts (leb dim 2048) (eqb lenw dim) b.0 in
      record {
        small = leb-true dim 2048 d.0;
        xin = leb-true (x + n * dim) lens a.0;
        yin = leb-true (y + n * dim) lens a.1;
        win = eqb-true lenw dim d.1;
        apart = aside-says x (n * dim) y (n * dim) b.1;
      }

  pub norm-fits : NormFits lens lenw x y n dim → norm_fits lens lenw x y n dim ≡ true
  unfolding norm_fits
  norm-fits f =
      two (two (le-leb (x + n * dim) lens f.xin) (le-leb (y + n * dim) lens f.yin))
      (two (two (le-leb dim 2048 f.small) (eq-eqb lenw dim f.win)) (aside-is f.apart))
