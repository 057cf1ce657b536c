-- Any two results that satisfy the contract of the public function are equal. Assumes nothing.
use mathlib.Core.Path.{◌≡◌, sym, ◌∙◌}
use mathlib.Core.List.{List}
use Prim.Native.Nat.{ℕ}
use Rattle.std.specs.Prelude.{Option}
use Rattle.json_lists.specs.inner.Bytes.{list_at}
use Rattle.json_lists.specs.declared.Sizes.{Sizes}

-- of `read_sizes`
pub sizes-unique : (l : List ℕ) (r q : Option Sizes) → r ≡ list_at l → q ≡ list_at l → r ≡ q
sizes-unique l r q x y = x ∙ sym y
