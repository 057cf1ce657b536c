-- Any two results that satisfy the contract of a step are equal: each step's is `Tried`. Assumes nothing.
use mathlib.Core.Path.{◌≡◌, sym, ap, ◌∙◌}
use mathlib.Core.Bool.{Bool, ◌&&◌}
use mathlib.Core.List.{List}
use Prim.Native.Nat.{ℕ}
use lib.Ieee.{Float}
use Rattle.number_floats.proofs.Unique.{one}
use Rattle.encoder_steps.specs.inner.Step.{finite_at, Tried}

pub tried-unique : (fits : Bool) (s : List Float) (y n : ℕ) (l : List Float) (ok : Bool) (t u : List Float) (r q : Bool)
    → Tried fits s t y n l ok r → Tried fits s u y n l ok q → (t ≡ u) × (r ≡ q)
tried-unique fits s y n l ok t u r q a b =
    let e : t ≡ u = one _ a.all b.all in (e, a.finite-is ∙ ap (λ (v : List Float). ok && finite_at v y n) e ∙ sym b.finite-is)
