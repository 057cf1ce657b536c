-- `fill::put_tensor` meets its contract. Assumes nothing.
use mathlib.Core.Path.{◌≡◌}
use Prim.Native.Nat.{ℕ}
use native.Mathlib.Omega.{arith}
use Rattle.weights.proofs.Filling.{few, known-part, not_known}
use Rattle.weights.proofs.fill.put_tensor.Goals as goal

pub overflow_mul-count : goal.overflow_mul-count
overflow_mul-count c = omega (arith, few c.args.count c.size_of.result c.in-Ok.d.kind c.size_of.ensures c.requires)

pub returns-in-Ok : goal.returns-in-Ok
returns-in-Ok c = record { is = λ f e g h. known-part c.args.bytes.now c.args.count f g c.args.d e _ c.in-Ok.is c.args.at c.args.out.now _ h c.size_of.result c.size_of.ensures _ c.part-own.ensures c.put_values.ensures }

pub returns-in_default : goal.returns-in_default
returns-in_default c = record { is = λ f e g h. absurd (not_known c.args.bytes.now c.args.count f g c.args.d e (λ v q. let z : ◌≡◌ {A = ℕ} 0 1 = cc (q, c.in_default.is) in omega arith)) }
