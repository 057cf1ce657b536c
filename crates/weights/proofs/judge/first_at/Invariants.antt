-- `judge::first_at` meets its contract. Assumes nothing.
use mathlib.Core.Path.{◌≡◌}
use mathlib.Core.Bool.{Bool, false}
use mathlib.Core.List.{List}
use Prim.Native.Nat.{ℕ, ◌^◌, ◌≤◌, ◌<◌}
use Rattle.json_members.specs.Names.{Entry}
use Rattle.encoder_settings.specs.declared.EncoderSettings.{EncoderSettings}
use Rattle.tensor_header.specs.Tensors.{tensors, entry_at, count_at}
use Rattle.weights.specs.File.{Found, found_in}
use Rattle.weights.specs.inner.Described.{Kept, summary, Holds}
use Rattle.weights.proofs.judge.first_at.Given as goal

-- no tensor before i passes
abbrev pub Passed : EncoderSettings → List ℕ → List ℕ → (Kept → ℕ → Bool → Type 0) → ℕ → Type 0
Passed s h places answers i = (f : ℕ → Found → Bool) → ((x : Found) (count : ℕ) (b : Bool) → 0 < count → count < 2 ^ 64 → answers (summary x) count b → b ≡ f count x) → (es : List Entry) → Holds s h places es → (j : ℕ) → j < i → f (count_at (tensors s) j) (found_in (entry_at (tensors s) es j)) ≡ false

abbrev pub invariant-loop-i : goal.invariant-loop-i
invariant-loop-i g l = (l.i ≤ l.n) × Passed l.s l.h l.places (goal.F-post g l.passes) l.i
