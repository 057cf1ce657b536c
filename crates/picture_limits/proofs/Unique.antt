-- Any two results that satisfy the contract of a public function are equal. Assumes nothing.
use mathlib.Core.Path.{◌≡◌}
use mathlib.Core.Bool.{Bool, ◌&&◌}
use Prim.Native.Nat.{ℕ}
use Rattle.std.specs.Prelude.{Result}
use Rattle.number_floats.proofs.Unique.{one}
use Rattle.picture_limits.specs.declared.PictureSettings.{PictureSettings}
use Rattle.picture_limits.specs.declared.Refusal.{Refusal}
use Rattle.picture_limits.specs.declared.View.{View}
use Rattle.picture_limits.specs.Refusal.{number}
use Rattle.picture_limits.specs.Settings.{allowed, sided}
use Rattle.picture_limits.specs.Shape.{grid_allowed, shaped}
use Rattle.picture_limits.specs.View.{inside}

pub shape-unique : (s : PictureSettings) (gh gw n : ℕ) (a b : Result ℕ Refusal) → a ≡ shaped s gh gw n → b ≡ shaped s gh gw n → a ≡ b
shape-unique s gh gw n a b = one _

pub allowed-unique : (s : PictureSettings) (a b : Bool) → a ≡ allowed s → b ≡ allowed s → a ≡ b
allowed-unique s a b = one _

pub number-unique : (r : Refusal) (a b : ℕ) → a ≡ number r → b ≡ number r → a ≡ b
number-unique r a b = one _

pub sided-unique : (h w : ℕ) (a b : Bool) → a ≡ sided h w → b ≡ sided h w → a ≡ b
sided-unique h w a b = one _

pub grid-allowed-unique : (s : PictureSettings) (gh gw : ℕ) (a b : Bool) → a ≡ (allowed s && (grid_allowed s gh && grid_allowed s gw)) → b ≡ (allowed s && (grid_allowed s gh && grid_allowed s gw)) → a ≡ b
grid-allowed-unique s gh gw a b = one _

pub inside-unique : (v : View) (h w : ℕ) (a b : Bool) → a ≡ inside v h w → b ≡ inside v h w → a ≡ b
inside-unique v h w a b = one _
