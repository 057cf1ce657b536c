-- `encoder_linear::values::Values::pair_sixteen` meets its contract: all is read before a sum is written. Assumes nothing.
use Prim.Native.Nat.{◌*◌}
use native.Mathlib.Omega.{arith}
use mathlib.Core.Path.{◌≡◌, sym, ap, ◌∙◌}
use lib.ListN.{length}
use Rattle.buffers.proofs.Lists.{length-tab}
use Rattle.buffers.proofs.Regions.{length-region}
use Rattle.encoder_linear.proofs.Pairs.{sixteen-is}
use Rattle.encoder_linear.proofs.values.Values.pair_sixteen.Goals as goal

pub wide_pair-both-requires : goal.wide_pair-both-requires
wide_pair-both-requires c =
    let e : length c.part.result.now ≡ c.args.self.t = ap length c.part.ensures ∙ length-region c.args.s.now c.args.a c.args.self.t c.requires.first.row_in in
    let f : length c.part-2.result.now ≡ c.args.self.t = ap length c.part-2.ensures ∙ length-region c.args.s.now c.args.b c.args.self.t c.requires.second.row_in in
    record {
      same = f ∙ sym e;
      v_is = ap length c.part-3.ensures ∙ length-region c.args.s.now c.args.self.v (c.args.self.t * c.args.self.dim) c.requires.first.v_in ∙ ap (λ m. m * c.args.self.dim) (sym e);
      places = c.requires.first.o_in;
    }

pub put_lanes-requires : goal.put_lanes-requires
put_lanes-requires c = (ap length c.wide_pair-both.ensures.0 ∙ length-tab 16 _, omega (arith, c.requires.first.out_in))

pub put_lanes-requires-2 : goal.put_lanes-requires-2
put_lanes-requires-2 c = (ap length c.wide_pair-both.ensures.1 ∙ length-tab 16 _, omega (arith, c.requires.second.out_in, c.put_lanes.auto.s))

pub returns : goal.returns
returns c =
    let e : length c.part.result.now ≡ c.args.self.t = ap length c.part.ensures ∙ length-region c.args.s.now c.args.a c.args.self.t c.requires.first.row_in in
    sixteen-is c.args.s.now c.part.result.now c.part-2.result.now c.part-3.result.now c.args.a c.args.b c.args.self.v c.args.x c.args.y c.args.self.t c.args.self.dim c.args.self.o c.part.ensures c.part-2.ensures c.part-3.ensures e
    c.put_lanes.new.s c.put_lanes-2.new.s c.wide_pair-both.result.first c.wide_pair-both.result.second c.wide_pair-both.ensures.0 c.wide_pair-both.ensures.1
    c.put_lanes.ensures c.put_lanes-2.ensures
