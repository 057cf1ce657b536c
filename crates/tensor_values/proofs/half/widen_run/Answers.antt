-- `tensor_values::half::widen_run` meets its contract. Assumes nothing.
use Rattle.tensor_values.proofs.half.Runs.{as-halves}
use Rattle.tensor_values.proofs.half.widen_run.Goals as goal

pub returns : goal.returns
returns c =
    as-halves c.args.bytes.now c.args.out.now c.widen_bf16.new.out c.widen_halves.new.out c.requires c.widen_bf16.ensures c.widen_halves.ensures
