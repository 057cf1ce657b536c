-- `encoder_plain::plain::attend_plain` meets its contract. Assumes nothing.
use mathlib.Core.Path.{sym, ◌∙◌}
use Prim.Native.Nat.{◌*◌}
use native.Mathlib.Omega.{arith}
use Rattle.buffers.proofs.Rooms.{written}
use Rattle.encoder_plain.proofs.Rooms.{plain-says}
use Rattle.encoder_plain.proofs.plain.attend_plain.Goals as goal

pub every_head-ok-requires : goal.every_head-ok-requires
every_head-ok-requires c = plain-says (sym c.plain_fits.ensures ∙ c.if-plain_fits.true)

pub overflow_mul-t : goal.overflow_mul-t
overflow_mul-t c = omega (arith, (plain-says (sym c.plain_fits.ensures ∙ c.if-plain_fits.true)).keys.scores_in)

pub shape_of-s-then-plain_fits : goal.shape_of-s-then-plain_fits
shape_of-s-then-plain_fits c = c.clear_at.auto.s ∙ c.every_head-ok.auto.s

pub returns-then-plain_fits : goal.returns-then-plain_fits
returns-then-plain_fits c =
    let e = sym c.plain_fits.ensures ∙ c.if-plain_fits.true in
    let f = plain-says e in record {
      value = rw e c.every_head-ok.ensures.value;
      s_after = rw e (written c.every_head-ok.new.s c.clear_at.new.s _ c.args.m (c.args.t * c.args.t) (omega (arith, c.every_head-ok.auto.s, f.keys.scores_in)) c.clear_at.ensures ∙ c.every_head-ok.ensures.s_after);
    }

pub returns : goal.returns
returns c = record {
  value = rw (← c.plain_fits.ensures, c.if-plain_fits.false);
  s_after = rw (← c.plain_fits.ensures, c.if-plain_fits.false);
}
