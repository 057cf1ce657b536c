-- `number_bf16_half_root::packed::bf16_pack_all` meets its contract. Assumes nothing.
use Rattle.std.proofs.Common.{◌≡◌, ◌<◌, min, length, arith, rules}
use Rattle.number_bf16_half_root.specs.Packed.{packed, packed_all}
use Rattle.number_bf16_half_root.proofs.packed.Fronts.{begin, go_on, ended}
use Rattle.number_bf16_half_root.proofs.packed.bf16_pack_all.Goals as goal

pub loop-i-init : goal.loop-i-init
loop-i-init c = begin packed c.args.x.now c.args.out.now

pub loop-i-preserved : goal.loop-i-preserved
loop-i-preserved c =
    let n : c.min-n.result ≡ min (length c.args.x.now) (length c.args.out.now) = search rules in
    go_on c.loop-i.invariant c.bf16_pack.result (omega (arith, n)) (omega (arith, n, c.loop-i.invariant.long)) c.bf16_pack.ensures

pub returns : goal.returns
unfolding packed_all
returns c =
    let n : c.min-n.result ≡ min (length c.args.x.now) (length c.args.out.now) = search rules in
    let e : c.loop-i.i ≡ min (length c.args.x.now) (length c.args.out.now) = omega (arith, n) in
    record { count = n; output = ended c.loop-i.invariant e }
