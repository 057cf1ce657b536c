-- Laws of what fits: a test that passes gives what the inner functions ask, and what they ask passes the test.
-- Assumes nothing.
use mathlib.Core.Bool.{Bool, true, ◌&&◌}
use mathlib.Core.Path.{◌≡◌, refl, ap, ◌∙◌}
use Prim.Native.Nat.{ℕ, ◌+◌, ◌*◌, ◌-◌, ◌≤◌}
use native.Mathlib.Omega.{arith}
use borrow.Author.Tests.{leb-true, le-leb, eqb-true, eq-eqb}
use lib.Dec.{eqb}
use Rattle.buffers.specs.inner.Room.{inside, aside}
use Rattle.buffers.proofs.Lists.{and-true}
use Rattle.buffers.proofs.Regions.{apart-sub}
use Rattle.buffers.proofs.Rooms.{and_parts, two, aside-says, aside-is}
use Rattle.encoder_linear.specs.inner.Room.{linear_fits, bias_fits, from_fits, weigh_fits, weigh_pair_fits}
use Rattle.encoder_linear.specs.inner.Fits.{LinearFits, FromFits, WeighFits, WeighPairFits}

module _ {lens lenw x y n nin nout : ℕ} where
  pub linear-says : linear_fits lens lenw x y n nin nout ≡ true → LinearFits lens lenw x y n nin nout
  unfolding linear_fits
  linear-says h =
      let p = and_parts (inside lens x (n * nin) && inside lens y (n * nout)) (inside lenw 0 (nout * nin) && aside x (n * nin) y (n * nout)) h in
      let a = and_parts (inside lens x (n * nin)) (inside lens y (n * nout)) p.0 in
      let b = and_parts (inside lenw 0 (nout * nin)) (aside x (n * nin) y (n * nout)) p.1 in
      let w = leb-true (0 + nout * nin) lenw b.0 in
      record {
        xin = leb-true (x + n * nin) lens a.0;
        yin = leb-true (y + n * nout) lens a.1;
        win = omega arith;
        apart = aside-says x (n * nin) y (n * nout) b.1;
      }

  pub linear-fits : LinearFits lens lenw x y n nin nout → linear_fits lens lenw x y n nin nout ≡ true
  unfolding linear_fits
  linear-fits f =
      let w : 0 + nout * nin ≤ lenw = omega (arith, f.win) in
      two (two (le-leb (x + n * nin) lens f.xin) (le-leb (y + n * nout) lens f.yin)) (two (le-leb (0 + nout * nin) lenw w) (aside-is f.apart))

module _ {lens lenw lenb x y n nin nout : ℕ} where
  pub bias-says : bias_fits lens lenw lenb x y n nin nout ≡ true → LinearFits lens lenw x y n nin nout × (lenb ≡ nout)
  unfolding bias_fits
  bias-says h = let p = and_parts (linear_fits lens lenw x y n nin nout) (eqb lenb nout) h in (linear-says p.0, eqb-true lenb nout p.1)

-- a bias as long as a row asks nothing more
pub bias-same : (lens lenw x y n nin nout : ℕ) → bias_fits lens lenw nout x y n nin nout ≡ linear_fits lens lenw x y n nin nout
unfolding bias_fits
bias-same lens lenw x y n nin nout = ap (λ (b : Bool). linear_fits lens lenw x y n nin nout && b) (eq-eqb nout nout refl) ∙ and-true (linear_fits lens lenw x y n nin nout)

module _ {lenx lens lenw y n nin nout : ℕ} where
  pub from-says : from_fits lenx lens lenw y n nin nout ≡ true → FromFits lenx lens lenw y n nin nout
  unfolding from_fits
  from-says h =
      let p = and_parts (inside lenx 0 (n * nin) && inside lens y (n * nout)) (inside lenw 0 (nout * nin)) h in
      let a = and_parts (inside lenx 0 (n * nin)) (inside lens y (n * nout)) p.0 in
      let x = leb-true (0 + n * nin) lenx a.0 in
      let w = leb-true (0 + nout * nin) lenw p.1 in
      record { xin = omega arith; yin = leb-true (y + n * nout) lens a.1; win = omega arith }

  pub from-fits : FromFits lenx lens lenw y n nin nout → from_fits lenx lens lenw y n nin nout ≡ true
  unfolding from_fits
  from-fits f =
      let x : 0 + n * nin ≤ lenx = omega (arith, f.xin) in
      let w : 0 + nout * nin ≤ lenw = omega (arith, f.win) in
      two (two (le-leb (0 + n * nin) lenx x) (le-leb (y + n * nout) lens f.yin)) (le-leb (0 + nout * nin) lenw w)

module _ {len row v out t dim hd o : ℕ} where
  pub weigh-says : weigh_fits len row v out t dim hd o ≡ true → WeighFits len row v out t dim hd o
  unfolding weigh_fits
  weigh-says h =
      let m = t * dim in
      let a = and_parts (inside dim o hd && inside len v m) ((inside len row t && inside len out hd) && (aside row t out hd && aside v m out hd)) h in
      let b = and_parts (inside dim o hd) (inside len v m) a.0 in
      let c = and_parts (inside len row t && inside len out hd) (aside row t out hd && aside v m out hd) a.1 in
      let d = and_parts (inside len row t) (inside len out hd) c.0 in
      let e = and_parts (aside row t out hd) (aside v m out hd) c.1 in
      record {
        v_in = leb-true (v + m) len b.1;
        row_in = leb-true (row + t) len d.0;
        out_in = leb-true (out + hd) len d.1;
        o_in = leb-true (o + hd) dim b.0;
        rowout = aside-says row t out hd e.0;
        vout = aside-says v m out hd e.1;
      }

  pub weigh-fits : WeighFits len row v out t dim hd o → weigh_fits len row v out t dim hd o ≡ true
  unfolding weigh_fits
  weigh-fits f =
      two (two (le-leb (o + hd) dim f.o_in) (le-leb (v + t * dim) len f.v_in))
      (two (two (le-leb (row + t) len f.row_in) (le-leb (out + hd) len f.out_in)) (two (aside-is f.rowout) (aside-is f.vout)))

-- what is asked of m of the sums, from d on
pub part_of : {lens row v out t dim hd o : ℕ} (d m : ℕ) → WeighFits lens row v out t dim hd o → d + m ≤ hd → WeighFits lens row v (out + d) t dim m (o + d)
part_of d m g h = record {
  v_in = g.v_in;
  row_in = g.row_in;
  out_in = omega (arith, g.out_in);
  o_in = omega (arith, g.o_in);
  rowout = apart-sub g.rowout (omega arith) (omega arith) (omega arith) (omega arith);
  vout = apart-sub g.vout (omega arith) (omega arith) (omega arith) (omega arith);
}

-- and of all from d on
pub rest-fits : {lens row v out t dim hd o : ℕ} (d : ℕ) → WeighFits lens row v out t dim hd o → d ≤ hd → WeighFits lens row v (out + d) t dim (hd - d) (o + d)
rest-fits {hd = hd} d g h = part_of d (hd - d) g (omega arith)

module _ {len a b v x y t dim hd o : ℕ} where
  pub weigh-pair-says : weigh_pair_fits len a b v x y t dim hd o ≡ true → WeighPairFits len a b v x y t dim hd o
  unfolding weigh_pair_fits
  weigh-pair-says h =
      let p = and_parts (weigh_fits len a v x t dim hd o && weigh_fits len b v y t dim hd o) ((aside a t y hd && aside b t x hd) && aside x hd y hd) h in
      let q = and_parts (weigh_fits len a v x t dim hd o) (weigh_fits len b v y t dim hd o) p.0 in
      let r = and_parts (aside a t y hd && aside b t x hd) (aside x hd y hd) p.1 in
      let e = and_parts (aside a t y hd) (aside b t x hd) r.0 in
      record {
        first = weigh-says q.0;
        second = weigh-says q.1;
        ay = aside-says a t y hd e.0;
        bx = aside-says b t x hd e.1;
        xy = aside-says x hd y hd r.1;
      }

  pub weigh-pair-fits : WeighPairFits len a b v x y t dim hd o → weigh_pair_fits len a b v x y t dim hd o ≡ true
  unfolding weigh_pair_fits
  weigh-pair-fits f =
      two (two (weigh-fits f.first) (weigh-fits f.second)) (two (two (aside-is f.ay) (aside-is f.bx)) (aside-is f.xy))
