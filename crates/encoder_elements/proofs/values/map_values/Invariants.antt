-- `encoder_elements::values::map_values` meets its contract. Assumes nothing.
use mathlib.Core.Path.{◌≡◌}
use lib.ListN.{length}
use lib.Ieee.{nan}
use Rattle.buffers.specs.Region.{region, put}
use Rattle.buffers.specs.Each.{both}
use Rattle.encoder_elements.specs.inner.Gives.{Gives}
use Rattle.encoder_elements.proofs.values.map_values.Given as goal

abbrev pub invariant-loop-i : goal.invariant-loop-i
invariant-loop-i g l = (length l.s ≡ length l.initial.s) × ((h : _) → Gives (goal.F-post g l.f) h → l.s ≡ put l.initial.s l.y (both nan l.i (λ a b. h a) (region l.initial.s l.y l.n) (region l.initial.s l.y l.n)))
