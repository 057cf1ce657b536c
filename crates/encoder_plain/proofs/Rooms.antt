-- Laws of what fits: a test that passes gives what the inner functions ask, and what they ask passes the test.
-- Assumes nothing.
use mathlib.Core.Bool.{true, ◌&&◌}
use mathlib.Core.Path.{◌≡◌}
use Prim.Native.Nat.{ℕ, ◌+◌, ◌*◌, ◌≤◌}
use native.Mathlib.Omega.{arith}
use borrow.Author.Tests.{leb-true, le-leb}
use Rattle.buffers.specs.inner.Room.{inside, aside}
use Rattle.buffers.proofs.Rooms.{and_parts, two, aside-says, aside-is}
use Rattle.encoder_plain.specs.inner.Room.{plain_fits}
use Rattle.encoder_plain.specs.inner.Fits.{PlainFits}

module _ {len q k v m out t heads hd : ℕ} where
  pub plain-says : plain_fits len q k v m out t heads hd ≡ true → PlainFits len q k v m out t heads hd
  unfolding plain_fits
  plain-says h =
      let n = t * (heads * hd) in
      let held = inside len k n && (inside len v n && inside len out n) in
      let keys = aside q n m (t * t) && aside k n m (t * t) in
      let values = aside v n m (t * t) && aside m (t * t) out n in
      let sums = (aside q n out n && aside k n out n) && aside v n out n in
      let a = and_parts (inside len 0 (heads * hd)) (inside len q n && (inside len m (t * t) && (held && ((keys && values) && sums)))) h in
      let b = and_parts (inside len q n) (inside len m (t * t) && (held && ((keys && values) && sums))) a.1 in
      let c = and_parts (inside len m (t * t)) (held && ((keys && values) && sums)) b.1 in
      let d = and_parts held ((keys && values) && sums) c.1 in
      let e = and_parts (inside len k n) (inside len v n && inside len out n) d.0 in
      let e' = and_parts (inside len v n) (inside len out n) e.1 in
      let f = and_parts (keys && values) sums d.1 in
      let g = and_parts keys values f.0 in
      let i = and_parts (aside q n m (t * t)) (aside k n m (t * t)) g.0 in
      let j = and_parts (aside v n m (t * t)) (aside m (t * t) out n) g.1 in
      let o = and_parts (aside q n out n && aside k n out n) (aside v n out n) f.1 in
      let p = and_parts (aside q n out n) (aside k n out n) o.0 in
      let dim_in = leb-true (0 + heads * hd) len a.0 in
      let m_in = leb-true (m + t * t) len c.0 in
      record {
        keys = record {
          q_in = leb-true (q + n) len b.0;
          k_in = leb-true (k + n) len e.0;
          scores_in = m_in;
          dim_in = omega arith;
          qscores = aside-says q n m (t * t) i.0;
          kscores = aside-says k n m (t * t) i.1;
        };
        values = record {
          v_in = leb-true (v + n) len e'.0;
          out_in = leb-true (out + n) len e'.1;
          scores_in = m_in;
          dim_in = omega arith;
          vout = aside-says v n out n o.1;
          scoresout = aside-says m (t * t) out n j.1;
        };
        vscores = aside-says v n m (t * t) j.0;
        qout = aside-says q n out n p.0;
        kout = aside-says k n out n p.1;
      }

  pub plain_fits_lem : PlainFits len q k v m out t heads hd → plain_fits len q k v m out t heads hd ≡ true
  unfolding plain_fits
  plain_fits_lem f =
      let n = t * (heads * hd) in
      let a = f.keys in
      let b = f.values in
      let dim_in : 0 + heads * hd ≤ len = omega (arith, a.dim_in) in
      two (le-leb (0 + heads * hd) len dim_in) (two (le-leb (q + n) len a.q_in) (two (le-leb (m + t * t) len a.scores_in)
      (two (two (le-leb (k + n) len a.k_in) (two (le-leb (v + n) len b.v_in) (le-leb (out + n) len b.out_in)))
      (two (two (two (aside-is a.qscores) (aside-is a.kscores)) (two (aside-is f.vscores) (aside-is b.scoresout)))
      (two (two (aside-is f.qout) (aside-is f.kout)) (aside-is b.vout))))))
