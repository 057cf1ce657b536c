-- Laws of what fits: a test that passes gives what the inner functions ask, and what they ask passes the test.
-- Assumes nothing.
use mathlib.Core.Bool.{true, ◌&&◌}
use mathlib.Core.Path.{◌≡◌}
use Prim.Native.Nat.{ℕ, ◌+◌, ◌*◌, ◌≤◌}
use native.Mathlib.Nat.{add-mul, mul_comm, mul-le-mul_right}
use native.Mathlib.Omega.{arith}
use lib.Dec.{leb}
use Rattle.buffers.proofs.Regions.{apart-sym}
use borrow.Author.Tests.{leb-true, le-leb}
use Rattle.buffers.specs.inner.Room.{inside, aside}
use Rattle.buffers.proofs.Rooms.{and_parts, two, aside-says, aside-is}
use Rattle.encoder_attention.specs.inner.Room.{three_aside, places_fit, attend_fits, spare_fits}
use Rattle.encoder_attention.specs.inner.Fits.{KeysFit, HeadsFit}

module _ {len q k v kt row out t heads hd : ℕ} where
  pub attend-says : attend_fits len q k v kt row out t heads hd ≡ true → KeysFit len q k v kt row out t heads hd
  unfolding attend_fits
  attend-says h =
      let n = t * (heads * hd) in
      let held = (inside len kt n && inside len v n) && (inside len out n && inside len row t) in
      let rows = three_aside q kt v n row t in
      let outs = three_aside q kt v n out n in
      let keys = inside len k n && three_aside q k v n kt n in
      let a = and_parts (inside len 0 (heads * hd)) (inside len q n && (places_fit len q kt v row out t n && keys)) h in
      let b = and_parts (inside len q n) (places_fit len q kt v row out t n && keys) a.1 in
      let p = and_parts (places_fit len q kt v row out t n) keys b.1 in
      let c = and_parts held ((rows && outs) && aside out n row t) p.0 in
      let d = and_parts (inside len kt n && inside len v n) (inside len out n && inside len row t) c.0 in
      let kv = and_parts (inside len kt n) (inside len v n) d.0 in
      let or = and_parts (inside len out n) (inside len row t) d.1 in
      let e = and_parts (rows && outs) (aside out n row t) c.1 in
      let f = and_parts rows outs e.0 in
      let r = and_parts (aside q n row t && aside kt n row t) (aside v n row t) f.0 in
      let r' = and_parts (aside q n row t) (aside kt n row t) r.0 in
      let o = and_parts (aside q n out n && aside kt n out n) (aside v n out n) f.1 in
      let o' = and_parts (aside q n out n) (aside kt n out n) o.0 in
      let g = and_parts (inside len k n) (three_aside q k v n kt n) p.1 in
      let z = and_parts (aside q n kt n && aside k n kt n) (aside v n kt n) g.1 in
      let z' = and_parts (aside q n kt n) (aside k n kt n) z.0 in
      let dim = leb-true (0 + heads * hd) len a.0 in
      let kt_in = leb-true (kt + n) len kv.0 in
      record {
        turned = record {
          q_in = leb-true (q + n) len b.0;
          k_in = kt_in;
          v_in = leb-true (v + n) len kv.1;
          row_in = leb-true (row + t) len or.1;
          out_in = leb-true (out + n) len or.0;
          dim_in = omega arith;
          qrow = aside-says q n row t r'.0;
          krow = aside-says kt n row t r'.1;
          vrow = aside-says v n row t r.1;
          outrow = aside-says out n row t e.1;
          qout = aside-says q n out n o'.0;
          kout = aside-says kt n out n o'.1;
          vout = aside-says v n out n o.1;
        };
        turn = record { k_in = leb-true (k + n) len g.0; kt_in = kt_in; apart = aside-says k n kt n z'.1 };
        qkt = aside-says q n kt n z'.0;
        vkt = aside-says v n kt n z.1;
      }

  pub attend-fits : KeysFit len q k v kt row out t heads hd → attend_fits len q k v kt row out t heads hd ≡ true
  unfolding attend_fits
  attend-fits g =
      let n = t * (heads * hd) in
      let f = g.turned in
      let dim : 0 + heads * hd ≤ len = omega (arith, f.dim_in) in
      two (le-leb (0 + heads * hd) len dim) (two (le-leb (q + n) len f.q_in)
      (two
      (two (two (two (le-leb (kt + n) len f.k_in) (le-leb (v + n) len f.v_in)) (two (le-leb (out + n) len f.out_in) (le-leb (row + t) len f.row_in)))
      (two (two (two (two (aside-is f.qrow) (aside-is f.krow)) (aside-is f.vrow)) (two (two (aside-is f.qout) (aside-is f.kout)) (aside-is f.vout)))
      (aside-is f.outrow)))
      (two (le-leb (k + n) len g.turn.k_in) (two (two (aside-is g.qkt) (aside-is g.turn.apart)) (aside-is g.vkt)))))

  -- where the keys' place is free it has room for a head's values and two rows
  pub heads-fit : KeysFit len q k v kt row out t heads hd → spare_fits q k v out (t * (heads * hd)) heads hd ≡ true → HeadsFit len q kt v k out t heads hd
  unfolding spare_fits
  heads-fit g h =
      let n = t * (heads * hd) in
      let f = g.turned in
      let a = and_parts (leb 2 heads && leb 2 hd) (three_aside q v out n k n) h in
      let b = and_parts (leb 2 heads) (leb 2 hd) a.0 in
      let c = and_parts (aside q n k n && aside v n k n) (aside out n k n) a.1 in
      let d = and_parts (aside q n k n) (aside v n k n) c.0 in
      let two-heads = mul-le-mul_right hd (leb-true 2 heads b.0) in
      let two-wide = leb-true 2 hd b.1 in
      let wide : hd + 2 ≤ heads * hd = omega arith in
      let all = mul-le-mul_right t wide in
      let e = add-mul hd 2 t in
      let m = mul_comm hd t in
      let m' = mul_comm (heads * hd) t in
      record {
        q_in = f.q_in;
        k_in = f.k_in;
        v_in = f.v_in;
        g_in = g.turn.k_in;
        out_in = f.out_in;
        dim_in = f.dim_in;
        spare = omega arith;
        qg = aside-says q n k n d.0;
        kg = apart-sym g.turn.apart;
        vg = aside-says v n k n d.1;
        outg = aside-says out n k n c.1;
        qout = f.qout;
        kout = f.kout;
        vout = f.vout;
      }
