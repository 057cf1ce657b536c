-- `encoder_attention::attention::attend` meets its contract. Assumes nothing.
use mathlib.Core.Path.{sym, ap, ◌∙◌}
use native.Mathlib.Omega.{arith}
use Rattle.buffers.proofs.Rooms.{written}
use Rattle.encoder_kernels.specs.Kernels.{all_finite}
use Rattle.encoder_attention.proofs.Keys.{stands, same-scores, same_left}
use Rattle.encoder_attention.proofs.Rooms.{attend-says}
use Rattle.encoder_attention.proofs.attention.attend.Goals as goal

pub overflow_mul-heads : goal.overflow_mul-heads
overflow_mul-heads c = omega (arith, (attend-says (sym c.fits.ensures ∙ c.if-fits.true)).turned.dim_in)

pub turn_keys-requires : goal.turn_keys-requires
turn_keys-requires c = (attend-says (sym c.fits.ensures ∙ c.if-fits.true)).turn

pub attend_turned-ok-requires : goal.attend_turned-ok-requires
attend_turned-ok-requires c =
    let f = attend-says (sym c.fits.ensures ∙ c.if-fits.true) in
    (rw c.turn_keys.auto.s f, stands c.args.s.now c.turn_keys.new.s c.args.q c.args.k c.args.v c.args.kt c.args.row c.args.out c.args.t c.args.heads c.args.hd f c.turn_keys.ensures)

pub returns-then-fits : goal.returns-then-fits
returns-then-fits c =
    let t = sym c.fits.ensures ∙ c.if-fits.true in
    let f = attend-says t in
    let S = same-scores c.args.s.now c.turn_keys.new.s c.args.q c.args.k c.args.v c.args.kt c.args.row c.args.out c.args.t c.args.heads c.args.hd f c.turn_keys.ensures c.args.scaling in
    let x = written c.attend_turned-ok.new.s c.clear_at.new.s _ c.args.row c.args.t (rw (c.attend_turned-ok.auto.s ∙ c.turn_keys.auto.s) f.turned.row_in) c.clear_at.ensures in
    let A = same_left c.args.s.now c.turn_keys.new.s c.args.q c.args.k c.args.v c.args.kt c.args.row c.args.out c.args.t c.args.heads c.args.hd f c.turn_keys.ensures c.args.scaling c.attend_turned-ok.new.s c.clear_at.new.s x c.attend_turned-ok.ensures.s_after in record {
      value = rw t (c.attend_turned-ok.ensures.value ∙ ap all_finite S);
      s_after = rw t A;
    }

pub returns : goal.returns
returns c = record {
  value = rw (← c.fits.ensures, c.if-fits.false);
  s_after = rw (← c.fits.ensures, c.if-fits.false);
}
