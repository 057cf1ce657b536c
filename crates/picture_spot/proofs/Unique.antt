-- Any two results that satisfy the contract of a public function are equal. Assumes nothing.
use mathlib.Core.Path.{◌≡◌}
use mathlib.Core.List.{List}
use Prim.Native.Nat.{ℕ}
use lib.Ieee.{Float}
use Rattle.std.specs.Prelude.{Option}
use Rattle.number_floats.proofs.Unique.{one}
use Rattle.picture_samples.specs.Samples.{entry}
use Rattle.picture_spot.specs.declared.Way.{Way}
use Rattle.picture_spot.specs.inner.Spot.{guessed, guessed_with, spotted, tried, way_of}

pub guessed-unique : (slope shift v : Float) (a b : ℕ) → a ≡ guessed slope shift v → b ≡ guessed slope shift v → a ≡ b
guessed-unique slope shift v a b = one _

pub way-unique : (t : List ℕ) (mean deviation : List Float) (a b : Way) → a ≡ way_of t mean deviation → b ≡ way_of t mean deviation → a ≡ b
way-unique t mean deviation a b = one _

pub spot-unique : (t : List ℕ) (w : Way) (c : ℕ) (v : Float) (a b : ℕ) → a ≡ spotted w (entry t) c v → b ≡ spotted w (entry t) c v → a ≡ b
spot-unique t w c v a b = one _

pub byte-unique : (t : List ℕ) (w : Way) (c x : ℕ) (a b : Option ℕ) → a ≡ tried (entry t) (spotted w (entry t)) c x → b ≡ tried (entry t) (spotted w (entry t)) c x → a ≡ b
byte-unique t w c x a b = one _

pub guess-unique : (t : List ℕ) (slope shift : Float) (c x : ℕ) (a b : Option ℕ) → a ≡ tried (entry t) (guessed_with slope shift) c x → b ≡ tried (entry t) (guessed_with slope shift) c x → a ≡ b
guess-unique t slope shift c x a b = one _
