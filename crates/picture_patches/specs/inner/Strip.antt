-- A strip of the resized picture: what its loops ask and leave. Assumes nothing.
use Rattle.std.specs.Prelude.{◌≡◌, List, ℕ, ◌+◌, ◌*◌, ◌%◌, ◌≤◌, ◌<◌, length, get_or, Float}
use Rattle.std.specs.Float.{nan, binary64}
use Rattle.std.specs.Float.Ieee.{sub, mul}
use Rattle.number_floats.specs.Constants.{one64}
use Rattle.buffers.specs.Rows.{tab, rows}
use Rattle.buffers.specs.Region.{region}
use Rattle.picture_resize.specs.declared.Near.{Near}
use Rattle.picture_resize.specs.Resize.{whole, near, pixel, to_byte, resized_at}
use Rattle.picture_resize.specs.inner.Weighed.{weighed}
use Rattle.picture_patches.specs.declared.rows.Frame.{Frame}

-- a strip has at most so many columns, and a row of it so many bytes
abbrev pub strip : ℕ
strip = 256

abbrev pub span : ℕ
span = 768

-- a byte of row y times the weight of a column's first neighbour, and of its second
abbrev pub left_of : List ℕ → ℕ → ℕ → Near → ℕ → Float
left_of rgb w y n c = mul binary64 (whole (pixel rgb w y n.low c)) (sub binary64 one64 n.part)

abbrev pub right_of : List ℕ → ℕ → ℕ → Near → ℕ → Float
right_of rgb w y n c = mul binary64 (whole (pixel rgb w y n.high c)) n.part

-- row y weighed for n columns of the target from column x on
abbrev pub left_row : List ℕ → ℕ → ℕ → ℕ → ℕ → ℕ → List Float
left_row rgb w tw y x n = rows n (λ j. tab 3 (λ c. left_of rgb w y (near w tw (x + j)) c))

abbrev pub right_row : List ℕ → ℕ → ℕ → ℕ → ℕ → ℕ → List Float
right_row rgb w tw y x n = rows n (λ j. tab 3 (λ c. right_of rgb w y (near w tw (x + j)) c))

-- two slots, of either parity of rows, have room for n columns
pub record Slots (n left right : ℕ) : Type 0 where
  pub columns : n ≤ strip
  pub left-long : left ≡ 2 * span
  pub right-long : right ≡ 2 * span

-- where a slot says that it holds row y, counted from 1, it does
pub record Held (rgb : List ℕ) (f : Frame) (x n : ℕ) (held : List ℕ) (left right : List Float) : Type 0 where
  pub two : length held ≡ 2
  pub lefts : (y : ℕ) → get_or held (y % 2) 0 ≡ y + 1 → region left (y % 2 * span) (n * 3) ≡ left_row rgb f.w f.tw y x n
  pub rights : (y : ℕ) → get_or held (y % 2) 0 ≡ y + 1 → region right (y % 2 * span) (n * 3) ≡ right_row rgb f.w f.tw y x n

-- the byte of an upper row's values at u, by its weight g, and a lower row's at v, by f
abbrev pub mixed_at : List Float → List Float → ℕ → ℕ → Float → Float → ℕ
mixed_at left right u v g f = to_byte (weighed (get_or left u nan) (get_or right u nan) (get_or left v nan) (get_or right v nan) g f)

abbrev pub mixed_row : List Float → List Float → ℕ → ℕ → Float → Float → ℕ → List ℕ
mixed_row left right u v g f k = tab k (λ e. mixed_at left right (u + e) (v + e) g f)

-- k values can be read from u and v on, and as many bytes written from `at` on
pub record Mixes (u v k at left right room : ℕ) : Type 0 where
  pub left-upper : u + k ≤ left
  pub left-lower : v + k ≤ left
  pub right-upper : u + k ≤ right
  pub right-lower : v + k ≤ right
  pub space : at + k ≤ room

-- row r of the resized picture, n columns from column x on, stands from `at` on
abbrev pub RowAt : List ℕ → Frame → ℕ → ℕ → ℕ → ℕ → List ℕ → Type 0
RowAt rgb f r x n at band = (j c : ℕ) → j < n → c < 3 → get_or band (at + (j * 3 + c)) 0 ≡ resized_at rgb f.h f.w f.th f.tw r (x + j) c

-- the first i rows of the strip whose first row and column are r and x
pub record Banded (rgb : List ℕ) (f : Frame) (r x n i : ℕ) (band : List ℕ) : Type 0 where
  pub row : (k : ℕ) → k < i → RowAt rgb f (r + k) x n (k * span) band
