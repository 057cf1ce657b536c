-- `encoder_linear::strip::Strip::wide_columns` meets its contract: all four are gathered before one is spread. Assumes nothing.
use mathlib.Core.Path.{◌≡◌, ap, ◌∙◌}
use mathlib.Core.List.{List}
use Prim.Native.Nat.{ℕ, ◌+◌, ◌*◌}
use native.Mathlib.Omega.{arith}
use lib.ListN.{length, replicate, length-replicate}
use lib.Ieee.{Float}
use Rattle.number_floats.specs.Constants.{zero32}
use Rattle.buffers.specs.Rows.{tab}
use Rattle.buffers.proofs.Lists.{length-tab}
use Rattle.buffers.proofs.Regions.{length-region}
use Rattle.encoder_linear.specs.inner.Lanes.{lane_of, gone_sum}
use Rattle.encoder_linear.proofs.Fills.{length-spread}
use Rattle.encoder_linear.proofs.Pieces.{cell, room, first_of, column-of, column-lane, four-spread}
use Rattle.encoder_linear.proofs.strip.Strip.wide_columns.Goals as goal

pub lanes_at-from-requires : goal.lanes_at-from-requires
lanes_at-from-requires c =
    let p = c.requires in
    record {
      rows = c.requires.fits.rows;
      first = cell (first_of p);
      second = cell (column-of p 1 (omega arith));
      third = cell (column-of p 2 (omega arith));
      fourth = cell (column-of p 3 (omega arith));
    }

pub four_lanes-all-requires : goal.four_lanes-all-requires
four_lanes-all-requires c =
    let p = c.requires in
    let l0 : length c.part-w0.result.now ≡ c.args.self.n = ap length c.part-w0.ensures ∙ length-region c.args.w.now (c.args.c * c.args.self.nin + c.args.self.k) c.args.self.n (room (first_of p)) in
    let l1 : length c.part-w1.result.now ≡ c.args.self.n = ap length c.part-w1.ensures ∙ length-region c.args.w.now ((c.args.c + 1) * c.args.self.nin + c.args.self.k) c.args.self.n (room (column-of p 1 (omega arith))) in
    let l2 : length c.part-w2.result.now ≡ c.args.self.n = ap length c.part-w2.ensures ∙ length-region c.args.w.now ((c.args.c + 2) * c.args.self.nin + c.args.self.k) c.args.self.n (room (column-of p 2 (omega arith))) in
    let l3 : length c.part-w3.result.now ≡ c.args.self.n = ap length c.part-w3.ensures ∙ length-region c.args.w.now ((c.args.c + 3) * c.args.self.nin + c.args.self.k) c.args.self.n (room (column-of p 3 (omega arith))) in
    record {
      first = ap length c.lanes_at-from.ensures.0 ∙ length-spread (replicate 16 zero32) 0 1 c.args.self.r _ ∙ simp length-replicate;
      second = ap length c.lanes_at-from.ensures.1 ∙ length-spread (replicate 16 zero32) 0 1 c.args.self.r _ ∙ simp length-replicate;
      third = ap length c.lanes_at-from.ensures.2 ∙ length-spread (replicate 16 zero32) 0 1 c.args.self.r _ ∙ simp length-replicate;
      fourth = ap length c.lanes_at-from.ensures.3 ∙ length-spread (replicate 16 zero32) 0 1 c.args.self.r _ ∙ simp length-replicate;
      tin = omega (arith, c.requires.fits.tin);
      same = omega arith;
      same₃ = omega arith;
      same₄ = omega arith;
    }

pub spread_four-requires : goal.spread_four-requires
spread_four-requires c =
    let p = c.requires in
    record {
      some = c.requires.fits.some;
      rows = c.requires.fits.rows;
      first = ap length c.four_lanes-all.ensures.0 ∙ length-tab 16 _;
      second = ap length c.four_lanes-all.ensures.1 ∙ length-tab 16 _;
      third = ap length c.four_lanes-all.ensures.2 ∙ length-tab 16 _;
      fourth = ap length c.four_lanes-all.ensures.3 ∙ length-tab 16 _;
      to = λ l h. omega (arith, cell (column-of p 3 (omega arith)) l h);
    }

pub returns : goal.returns
returns c =
    let p = c.requires in
    let lv : length c.part-w0.result.now ≡ c.args.self.n = ap length c.part-w0.ensures ∙ length-region c.args.w.now (c.args.c * c.args.self.nin + c.args.self.k) c.args.self.n (room (first_of p)) in
    let go : List Float → List Float → ℕ → List Float = λ from part n. tab 16 (lane_of n from c.args.xt.now part) in
    c.spread_four.ensures
    ∙ four-spread c.args.w.now c.args.xt.now c.args.self.y c.args.self.r c.args.self.nin c.args.self.nout c.args.self.k c.args.self.n c.args.s.now
    c.four_lanes-all.result.first c.four_lanes-all.result.second c.four_lanes-all.result.third c.four_lanes-all.result.fourth c.args.c (λ l o. gone_sum c.args.s.now c.args.w.now c.args.xt.now c.args.self.y c.args.self.nin c.args.self.nout c.args.self.k c.args.self.n l (c.args.c + o))
    (λ l h. column-lane c.args.w.now c.args.xt.now c.args.self.y c.args.self.r c.args.self.nin c.args.self.nout c.args.self.k c.args.self.n c.args.s.now (replicate 16 zero32) c.lanes_at-from.result.first c.part-w0.result.now c.four_lanes-all.result.first c.args.c
    c.requires.fits.rows (simp length-replicate) (room (first_of p)) c.lanes_at-from.ensures.0 c.part-w0.ensures (c.four_lanes-all.ensures.0 ∙ ap (go c.lanes_at-from.result.first c.part-w0.result.now) lv) l h ∙ ap (gone_sum c.args.s.now c.args.w.now c.args.xt.now c.args.self.y c.args.self.nin c.args.self.nout c.args.self.k c.args.self.n l) (omega arith))
    (column-lane c.args.w.now c.args.xt.now c.args.self.y c.args.self.r c.args.self.nin c.args.self.nout c.args.self.k c.args.self.n c.args.s.now (replicate 16 zero32) c.lanes_at-from.result.second c.part-w1.result.now c.four_lanes-all.result.second (c.args.c + 1)
    c.requires.fits.rows (simp length-replicate) (room (column-of p 1 (omega arith))) c.lanes_at-from.ensures.1 c.part-w1.ensures (c.four_lanes-all.ensures.1 ∙ ap (go c.lanes_at-from.result.second c.part-w1.result.now) lv))
    (column-lane c.args.w.now c.args.xt.now c.args.self.y c.args.self.r c.args.self.nin c.args.self.nout c.args.self.k c.args.self.n c.args.s.now (replicate 16 zero32) c.lanes_at-from.result.third c.part-w2.result.now c.four_lanes-all.result.third (c.args.c + 2)
    c.requires.fits.rows (simp length-replicate) (room (column-of p 2 (omega arith))) c.lanes_at-from.ensures.2 c.part-w2.ensures (c.four_lanes-all.ensures.2 ∙ ap (go c.lanes_at-from.result.third c.part-w2.result.now) lv))
    (column-lane c.args.w.now c.args.xt.now c.args.self.y c.args.self.r c.args.self.nin c.args.self.nout c.args.self.k c.args.self.n c.args.s.now (replicate 16 zero32) c.lanes_at-from.result.fourth c.part-w3.result.now c.four_lanes-all.result.fourth (c.args.c + 3)
    c.requires.fits.rows (simp length-replicate) (room (column-of p 3 (omega arith))) c.lanes_at-from.ensures.3 c.part-w3.ensures (c.four_lanes-all.ensures.3 ∙ ap (go c.lanes_at-from.result.fourth c.part-w3.result.now) lv))
