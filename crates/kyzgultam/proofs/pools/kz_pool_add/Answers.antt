-- `kyzgultam::pools::kz_pool_add` meets its contract. Assumes nothing.
use mathlib.Core.Path.{ap, ◌∙◌}
use Prim.Native.Nat.{ℕ}
use Rattle.kyzgultam.specs.Face.{pool_report}
use Rattle.kyzgultam.proofs.pools.kz_pool_add.Goals as goal

pub returns : goal.returns
returns c = record {
  answer = ap (λ (n : ℕ). record { number = n; pool = c.add-answer.new.p }) c.number.ensures ∙ ap pool_report c.add-answer.ensures.answer;
  output = c.add-answer.ensures.output;
}
