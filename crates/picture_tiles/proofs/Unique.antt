-- Any two results that satisfy the contract of a public function are equal. Assumes nothing.
use Rattle.std.specs.Prelude.{Result, Ok, Err}
use mathlib.Core.Path.{◌≡◌}
use mathlib.Core.Bool.{Bool}
use mathlib.Core.List.{List}
use Prim.Native.Nat.{ℕ}
use lib.ListN.{length}
use lib.Ieee.{Float}
use Rattle.number_floats.proofs.Unique.{one}
use Rattle.picture_limits.specs.declared.PictureSettings.{PictureSettings}
use Rattle.picture_limits.specs.declared.Refusal.{Refusal}
use Rattle.picture_limits.specs.declared.View.{View}
use Rattle.picture_patches.specs.Viewed.{view_over}
use Rattle.picture_view.specs.View.{view_back, view_out}
use Rattle.picture_tiles.specs.declared.Tiles.{Tiles}
use Rattle.picture_tiles.specs.declared.Tile.{Tile}
use Rattle.picture_tiles.specs.Answer.{cut_of, tiled, patches_out, untiled, bytes_out}

pub cut-unique : (s : PictureSettings) (h w : ℕ) (a b : Result Tiles Refusal) → a ≡ cut_of s h w → b ≡ cut_of s h w → a ≡ b
cut-unique s h w a b = one _

abbrev pub Preprocesses : PictureSettings → List ℕ → ℕ → ℕ → ℕ → List Float → Result Tile Refusal → List Float → Type 0
Preprocesses s rgb h w i old r out = (r ≡ tiled s (length rgb) h w i (length old)) × (out ≡ patches_out s rgb h w i old)

pub preprocess-unique : (s : PictureSettings) (rgb : List ℕ) (h w i : ℕ) (old : List Float) (r q : Result Tile Refusal) (x y : List Float)
    → Preprocesses s rgb h w i old r x → Preprocesses s rgb h w i old q y → (r ≡ q) × (x ≡ y)
preprocess-unique s rgb h w i old r q x y a b = (one _ a.0 b.0, one _ a.1 b.1)

abbrev pub Restores : PictureSettings → List Float → ℕ → ℕ → ℕ → List ℕ → Result Tile Refusal → List ℕ → Type 0
Restores s l h w i old r out = (r ≡ untiled s l h w i (length old)) × (out ≡ bytes_out s l h w i old)

pub restore-unique : (s : PictureSettings) (l : List Float) (h w i : ℕ) (old : List ℕ) (r q : Result Tile Refusal) (x y : List ℕ)
    → Restores s l h w i old r x → Restores s l h w i old q y → (r ≡ q) × (x ≡ y)
restore-unique s l h w i old r q x y a b = (one _ a.0 b.0, one _ a.1 b.1)

-- those on a view, of the crates below
pub view-patches-unique : (k : ℕ → ℕ → ℕ) (rgb : List ℕ) (h w : ℕ) (v : View) (th tw p : ℕ) (old x y : List Float) → x ≡ view_over k rgb h w v th tw p old → y ≡ view_over k rgb h w v th tw p old → x ≡ y
view-patches-unique k rgb h w v th tw p old x y = one _

abbrev pub RestoresView : (ℕ → ℕ → ℕ) → ℕ → ℕ → ℕ → List Float → View → ℕ → ℕ → List ℕ → Bool → List ℕ → Type 0
RestoresView k p gh gw l v h w old r out = (r ≡ view_back k p gh gw l v h w (length old)) × (out ≡ view_out k p gh gw l v h w old)

pub restore-view-unique : (k : ℕ → ℕ → ℕ) (p gh gw : ℕ) (l : List Float) (v : View) (h w : ℕ) (old : List ℕ) (r q : Bool) (x y : List ℕ)
    → RestoresView k p gh gw l v h w old r x → RestoresView k p gh gw l v h w old q y → (r ≡ q) × (x ≡ y)
restore-view-unique k p gh gw l v h w old r q x y a b = (one _ a.0 b.0, one _ a.1 b.1)
