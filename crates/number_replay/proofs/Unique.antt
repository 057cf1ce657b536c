-- Any two results that satisfy the contract of a public function are equal. Assumes nothing.
use mathlib.Core.Path.{◌≡◌}
use mathlib.Core.List.{List}
use Prim.Native.Nat.{ℕ, ◌<◌}
use lib.ListN.{replicate}
use Rattle.number_replay.specs.Records.{place_of, verdict_of, tally}
use Rattle.number_replay.specs.Lines.{lines}
use Rattle.number_replay.specs.declared.record.Verdict.{Verdict}
use Rattle.number_floats.proofs.Unique.{one}

pub judge-unique : (line : List ℕ) (r r' : Verdict) → r ≡ verdict_of line → r' ≡ verdict_of line → r ≡ r'
judge-unique line r r' = one _

pub place-unique : (v : Verdict) (r r' : ℕ) → (r ≡ place_of v) × (r < 8) → (r' ≡ place_of v) × (r' < 8) → r ≡ r'
place-unique v r r' a b = one _ a.0 b.0

pub replay-unique : (text : List ℕ) (r r' : List ℕ) → r ≡ tally (replicate 8 0) (lines text) → r' ≡ tally (replicate 8 0) (lines text) → r ≡ r'
replay-unique text r r' = one _
