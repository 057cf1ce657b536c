-- `encoder_linear::bias::linear_forward` meets its contract. Assumes nothing.
use mathlib.Core.Path.{sym, ◌∙◌}
use Prim.Native.Nat.{◌*◌}
use native.Mathlib.Omega.{arith}
use Rattle.buffers.specs.Region.{region}
use Rattle.encoder_linear.specs.Linear.{linear_of, linear_by}
use Rattle.encoder_linear.proofs.Sums.{length-linear}
use Rattle.encoder_linear.proofs.Biases.{biased-wrote}
use Rattle.encoder_linear.proofs.Rooms.{bias-says}
use Rattle.encoder_linear.proofs.bias.linear_forward.Goals as goal

pub linear_rows-requires : goal.linear_rows-requires
linear_rows-requires c = (bias-says (sym c.bias_fits.ensures ∙ c.if-bias_fits.true)).0

pub add_rows-requires : goal.add_rows-requires
add_rows-requires c =
    let f = bias-says (sym c.bias_fits.ensures ∙ c.if-bias_fits.true) in
    record { yin = omega (arith, f.0.yin, c.linear_rows.auto.s); long = f.1 }

pub returns-then-bias_fits : goal.returns-then-bias_fits
unfolding linear_by
returns-then-bias_fits c =
    let t = sym c.bias_fits.ensures ∙ c.if-bias_fits.true in
    let f = bias-says t in
    let x = region c.args.s.now c.args.x (c.args.n * c.args.nin) in
    rw t (biased-wrote c.args.s.now c.linear_rows.new.s c.add_rows.new.s c.args.b.now (linear_of c.args.n c.args.nin c.args.nout c.args.w.now x) c.args.y c.args.n c.args.nout
    (length-linear c.args.n c.args.nin c.args.nout c.args.w.now x) f.0.yin c.linear_rows.ensures c.add_rows.ensures)

pub returns-else-bias_fits : goal.returns-else-bias_fits
returns-else-bias_fits c = rw (← c.bias_fits.ensures, c.if-bias_fits.false)
