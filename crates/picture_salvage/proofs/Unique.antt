-- Any two results that satisfy the contract of a public function are equal. Assumes nothing.
use mathlib.Core.Path.{◌≡◌}
use mathlib.Core.List.{List}
use Prim.Native.Nat.{ℕ}
use lib.ListN.{length}
use Rattle.number_floats.proofs.Unique.{one}
use Rattle.picture_limits.specs.declared.PictureSettings.{PictureSettings}
use Rattle.std.specs.Prelude.{Result}
use Rattle.picture_limits.specs.declared.Refusal.{Refusal}
use Rattle.picture_salvage.specs.declared.Salvaged.{Salvaged}
use Rattle.picture_salvage.specs.Salvage.{salvaged, saved_out, list_out}

-- the contract, as a type of an answer and of output and list at exit
abbrev pub Salvages : PictureSettings → List ℕ → ℕ → ℕ → List ℕ → List ℕ → Result Salvaged Refusal → List ℕ → List ℕ → Type 0
Salvages s l gh gw out list r out' list' =
    (r ≡ salvaged s l gh gw (length out) (length list)) × (out' ≡ saved_out s l gh gw (length list) out) × (list' ≡ list_out s l gh gw (length out) list)

pub salvage-unique : (s : PictureSettings) (l : List ℕ) (gh gw : ℕ) (out list : List ℕ) (r q : Result Salvaged Refusal) (out' out'' list' list'' : List ℕ)
    → Salvages s l gh gw out list r out' list' → Salvages s l gh gw out list q out'' list'' → (r ≡ q) × (out' ≡ out'') × (list' ≡ list'')
salvage-unique s l gh gw out list r q out' out'' list' list'' a b = (one _ a.0 b.0, one _ a.1 b.1, one _ a.2 b.2)
