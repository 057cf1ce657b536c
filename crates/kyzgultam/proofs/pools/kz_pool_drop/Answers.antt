-- `kyzgultam::pools::kz_pool_drop` meets its contract. Assumes nothing.
use mathlib.Core.Path.{ap, ◌∙◌}
use Prim.Native.Nat.{ℕ}
use Rattle.kyzgultam.specs.Face.{pool_report}
use Rattle.kyzgultam.proofs.pools.kz_pool_drop.Goals as goal

pub returns : goal.returns
returns c =
    ap (λ (n : ℕ). record { number = n; pool = c.drop_key-answer.new.p }) c.number.ensures ∙ ap pool_report c.drop_key-answer.ensures
