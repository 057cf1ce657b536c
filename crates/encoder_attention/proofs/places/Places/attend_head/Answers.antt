-- `encoder_attention::places::Places::attend_head` meets its contract. Assumes nothing.
use mathlib.Core.Path.{◌≡◌, ap, ◌∙◌}
use Prim.Native.Nat.{ℕ, ◌+◌, ◌*◌}
use native.Mathlib.Omega.{arith}
use lib.ListN.{length}
use Rattle.buffers.proofs.Lists.{fit}
use Rattle.buffers.proofs.Regions.{apart-sub, apart-sym}
use Rattle.encoder_kernels.specs.Kernels.{all_finite}
use Rattle.buffers.proofs.Rooms.{written}
use Rattle.encoder_attention.proofs.Attends.{head-run, head_rows}
use Rattle.encoder_linear.specs.inner.Fits.{WeighFits}
use Rattle.encoder_linear.proofs.Rooms.{weigh-fits}
use Rattle.encoder_attention.specs.inner.Fits.{HeadAt}
use Rattle.encoder_attention.proofs.places.Places.attend_head.Goals as goal

pub scores-requires : goal.scores-requires
scores-requires c =
    let f = fit c.args.self.hd c.requires.head in
    let f' = fit (c.args.self.heads * c.args.self.hd) c.requires.token in
    let r = head_rows c.args.self.t c.args.self.heads c.args.self.hd c.args.h c.requires.head in
    record {
      v_in = omega arith;
      row_in = omega arith;
      out_in = c.requires.fits.row_in;
      o_in = omega arith;
      rowout = apart-sub c.requires.fits.qrow (omega arith) (omega arith) (omega arith) (omega arith);
      vout = apart-sub c.requires.fits.krow (omega arith) (omega arith) (omega arith) (omega arith);
    }

-- the values and the place of the sums, as `weigh` asks
weighed : {len q k v row out t heads hd i h w e : ℕ} → HeadAt len q k v row out t heads hd i h w e
    → WeighFits len row v (out + (i * (heads * hd) + h * hd)) t w hd e
weighed {len} {q} {k} {v} {row} {out} {t} {heads} {hd} {i} {h} {w} {e} g =
    let x = g.fits in
    let f = fit hd g.head in
    let f' = fit (heads * hd) g.token in
    record {
      v_in = x.v_in;
      row_in = x.row_in;
      out_in = omega (arith, x.out_in);
      o_in = g.place;
      rowout = apart-sym (apart-sub x.outrow (omega arith) (omega arith) (omega arith) (omega arith));
      vout = apart-sub x.vout (omega arith) (omega arith) (omega arith) (omega arith);
    }

pub shape_of-s : goal.shape_of-s
shape_of-s c = c.weigh.auto.s ∙ c.softmax.auto.s ∙ c.scores.auto.s

pub returns : goal.returns
returns c =
    let l : length c.softmax.new.s ≡ length c.args.s.now = c.softmax.auto.s ∙ c.scores.auto.s in
    let f = weigh-fits (weighed c.requires) in
    let r = head-run c.args.s.now c.args.self.q c.args.self.k c.args.self.v c.args.self.row c.args.self.out c.args.self.t c.args.self.heads c.args.self.hd c.args.self.scaling c.args.w c.args.e c.args.i c.args.h c.requires
    c.scores.new.s c.softmax.new.s c.weigh.new.s c.scores.ensures (written c.scores.new.s c.softmax.new.s _ c.args.self.row c.args.self.t (omega (arith, c.scores.auto.s, c.requires.fits.row_in)) c.softmax.ensures) (rw (l, f) at c.weigh.ensures) in record {
      value = c.finite-ok.ensures ∙ ap all_finite (c.part.ensures ∙ r.0);
      s_after = r.1;
    }
