-- `fill::fill` meets its contract. Assumes nothing.
use mathlib.Core.Path.{◌≡◌}
use mathlib.Core.List.{List}
use Prim.Native.Nat.{ℕ, ◌-◌, ◌≤◌}
use lib.ListN.{length}
use Rattle.buffers.specs.Rows.{rows}
use Rattle.buffers.specs.Region.{put}
use Rattle.json_members.specs.Names.{Entry}
use Rattle.encoder_settings.specs.declared.EncoderSettings.{EncoderSettings}
use Rattle.encoder_settings.specs.Settings.{weight_floats}
use Rattle.tensor_header.specs.Tensors.{tensors}
use Rattle.weights.specs.inner.Described.{Holds}
use Rattle.weights.specs.inner.Sums.{sum_to}
use Rattle.weights.specs.inner.Filled.{AllGood}
use Rattle.weights.proofs.Filling.{floats_at}
use Rattle.weights.proofs.fill.fill.Given as goal

-- the first i tensors are written
abbrev pub Written : EncoderSettings → List ℕ → List ℕ → List ℕ → List ℕ → List ℕ → ℕ → Type 0
Written s h bytes places before out i = (es : List Entry) → Holds s h places es → (g : AllGood s es (length bytes)) → weight_floats s ≤ length before → out ≡ put before 0 (rows i (floats_at s es bytes g))

abbrev pub invariant-loop-i : goal.invariant-loop-i
invariant-loop-i l = (l.i ≤ l.n) × (l.at ≡ sum_to (tensors l.s) l.i) × (length l.out ≡ length l.initial.out) × Written l.s l.h l.bytes l.places l.initial.out l.out l.i
