-- `root::near_root` meets its contract. Assumes nothing.
use Rattle.std.proofs.Common.{arith}
use Rattle.number_bf16_half_root.proofs.root.Meets.{stay, go-up}
use Rattle.number_bf16_half_root.proofs.root.near_root.Goals as goal

pub returns-then-n-v : goal.returns-then-n-v
returns-then-n-v c =
    (omega arith, omega arith, go-up c.args.v c.whole_root-n.result c.whole_root-n.ensures.2 c.whole_root-n.ensures.3 c.if-n-v.true)

pub returns-else-n-v : goal.returns-else-n-v
returns-else-n-v c =
    (omega arith, omega arith, stay c.args.v c.whole_root-n.result (omega arith) c.whole_root-n.ensures.2 c.if-n-v.false)
