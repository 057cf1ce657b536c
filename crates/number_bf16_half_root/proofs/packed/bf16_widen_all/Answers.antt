-- `number_bf16_half_root::packed::bf16_widen_all` meets its contract. Assumes nothing.
use Rattle.std.proofs.Common.{◌≡◌, ◌<◌, min, length, arith, rules}
use Rattle.number_bf16_half_root.specs.Packed.{widened, widened_all}
use Rattle.number_bf16_half_root.proofs.packed.Fronts.{begin, go_on, ended}
use Rattle.number_bf16_half_root.proofs.packed.bf16_widen_all.Goals as goal

pub loop-i-init : goal.loop-i-init
loop-i-init c = begin widened c.args.b.now c.args.out.now

pub loop-i-preserved : goal.loop-i-preserved
loop-i-preserved c =
    let n : c.min-n.result ≡ min (length c.args.b.now) (length c.args.out.now) = search rules in
    go_on c.loop-i.invariant c.bf16_widen.result (omega (arith, n)) (omega (arith, n, c.loop-i.invariant.long)) c.bf16_widen.ensures

pub returns : goal.returns
unfolding widened_all
returns c =
    let n : c.min-n.result ≡ min (length c.args.b.now) (length c.args.out.now) = search rules in
    let e : c.loop-i.i ≡ min (length c.args.b.now) (length c.args.out.now) = omega (arith, n) in
    record { count = n; output = ended c.loop-i.invariant e }
