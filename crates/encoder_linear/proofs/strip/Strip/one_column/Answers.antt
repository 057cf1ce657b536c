-- `encoder_linear::strip::Strip::one_column` meets its contract. Assumes nothing.
use mathlib.Core.Path.{◌≡◌, ap, ◌∙◌}
use Prim.Native.Nat.{◌+◌, ◌*◌}
use native.Mathlib.Omega.{arith}
use lib.ListN.{length, get_or, replicate, length-replicate}
use lib.Ieee.{nan}
use Rattle.number_floats.specs.Constants.{zero32}
use Rattle.buffers.specs.Rows.{tab}
use Rattle.buffers.proofs.Lists.{length-tab}
use Rattle.buffers.proofs.Regions.{length-region}
use Rattle.encoder_linear.specs.inner.Lanes.{lane_of, gone_sum}
use Rattle.encoder_linear.proofs.Fills.{spread-ext}
use Rattle.encoder_linear.proofs.Pieces.{cell, room, column-lane}
use Rattle.encoder_linear.proofs.strip.Strip.one_column.Goals as goal

pub copy_spread-requires : goal.copy_spread-requires
copy_spread-requires c =
    record { to = λ i h. simp length-replicate (omega (arith, c.requires.fits.rows)); from = cell c.requires }

pub lanes-b-requires : goal.lanes-b-requires
lanes-b-requires c =
    let l = length-region c.args.w.now (c.args.c * c.args.self.nin + c.args.self.k) c.args.self.n (room c.requires) in
    (c.copy_spread.auto.d ∙ simp length-replicate, omega (arith, c.requires.fits.tin, l, ap length c.part.ensures))

pub copy_spread-requires-2 : goal.copy_spread-requires-2
copy_spread-requires-2 c =
    let l : length c.lanes-b.result ≡ 16 = ap length c.lanes-b.ensures ∙ length-tab 16 _ in
    record { to = cell c.requires; from = λ i h. omega (arith, c.requires.fits.rows, l) }

pub returns : goal.returns
returns c =
    let p = c.requires in
    let len : length c.part.result.now ≡ c.args.self.n = ap length c.part.ensures ∙ length-region c.args.w.now (c.args.c * c.args.self.nin + c.args.self.k) c.args.self.n (room p) in
    let e = c.lanes-b.ensures ∙ ap (λ m. tab 16 (lane_of m c.copy_spread.new.d c.args.xt.now c.part.result.now)) len in
    c.copy_spread-2.ensures
    ∙ spread-ext c.args.s.now (c.args.self.y + c.args.c) c.args.self.nout c.args.self.r (λ i. get_or c.lanes-b.result (0 + i * 1) nan) (λ l. gone_sum c.args.s.now c.args.w.now c.args.xt.now c.args.self.y c.args.self.nin c.args.self.nout c.args.self.k c.args.self.n l c.args.c)
    (column-lane c.args.w.now c.args.xt.now c.args.self.y c.args.self.r c.args.self.nin c.args.self.nout c.args.self.k c.args.self.n c.args.s.now (replicate 16 zero32) c.copy_spread.new.d c.part.result.now c.lanes-b.result c.args.c c.requires.fits.rows (simp length-replicate) (room p) c.copy_spread.ensures c.part.ensures e)
