-- Any two answers that satisfy the contract of `weights` are equal, and so are the slices left. Assumes nothing.
use mathlib.Core.Path.{◌≡◌, sym, ◌∙◌}
use mathlib.Core.List.{List}
use Prim.Native.Nat.{ℕ}
use Rattle.encoder_settings.specs.declared.EncoderSettings.{EncoderSettings}
use Rattle.tensor_header.proofs.Unique.{Case, case-of, not-allowed, not-framed, stops, deepens, is-text}
use Rattle.weights.specs.File.{Weighing}
use Rattle.weights.specs.File.{Weighed}

both : {A B : Type 0} {a b c : A} {x y z : B} → (a ≡ c) × (x ≡ z) → (b ≡ c) × (y ≡ z) → (a ≡ b) × (x ≡ y)
both p q = (p.0 ∙ sym q.0, p.1 ∙ sym q.1)

pub weights-unique : (s : EncoderSettings) (file out after also : List ℕ) (a b : Weighed) → Weighing s file out after a → Weighing s file out also b → (a ≡ b) × (after ≡ also)
weights-unique s file out after also a b x y = of (case-of s file)
  where
    of : Case s file → (a ≡ b) × (after ≡ also)
    of (not-allowed h) = both (x.setting h) (y.setting h)
    of (not-framed h f) = both (x.unframed h f) (y.unframed h f)
    of (stops h f n k) = both (x.stopped h f n k) (y.stopped h f n k)
    of (deepens h f n k) = both (x.deep h f n k) (y.deep h f n k)
    of (is-text h f t) = both (x.read h f t) (y.read h f t)
