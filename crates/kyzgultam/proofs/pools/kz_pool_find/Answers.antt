-- `kyzgultam::pools::kz_pool_find` meets its contract. Assumes nothing.
use mathlib.Core.Path.{sym, ap, ◌∙◌}
use Prim.Native.Nat.{ℕ}
use Rattle.kyzgultam.specs.Face.{pool_place}
use Rattle.kyzgultam.proofs.pools.kz_pool_find.Goals as goal

pub returns-in-Ok : goal.returns-in-Ok
returns-in-Ok c = sym (ap pool_place (sym c.find.ensures ∙ c.in-Ok.is))

pub returns-in-Err : goal.returns-in-Err
returns-in-Err c = ap (λ (n : ℕ). record { number = n; start = 0; len = 0 }) c.from.ensures ∙ sym (ap pool_place (sym c.find.ensures ∙ c.in-Err.is))
