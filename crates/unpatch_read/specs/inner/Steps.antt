-- What the functions inside answer, and what an answer stands for. Assumes nothing.
use Rattle.std.specs.Prelude.{◌≡◌, List, ℕ, ◌*◌, ◌≤◌, take}
use Rattle.std.specs.Prelude.{Option, None, Some}
use Rattle.buffers.specs.Region.{region}
use Rattle.unpatch_form.specs.Form.{Request}
use Rattle.unpatch_form.specs.inner.Steps.{value_of}
use Rattle.unpatch_read.specs.declared.read.Reading.{Reading}

-- so many bytes from `at` on
abbrev pub bytes_at : Option ℕ → ℕ → List ℕ → Option (List ℕ)
bytes_at (Some n) at l = Some (region l at n)
bytes_at None at l = None

-- bytes were wanted from a text of length len, and were written from `at` on
pub record Written (r : Option ℕ) (at : ℕ) (old new : List ℕ) (len : ℕ) (want : Option (List ℕ)) : Type 0 where
  pub answer : bytes_at r at new ≡ want
  pub front : take at new ≡ take at old
  pub few : 2 * value_of r ≤ len

abbrev pub asked : Option Reading → List ℕ → Option Request
asked (Some r) l = Some (record { patch = r.patch; merge = r.merge; image = r.image; height = r.height; width = r.width; rgb = take r.bytes l })
asked None l = None

abbrev pub bytes_read : Option Reading → ℕ
bytes_read (Some r) = r.bytes
bytes_read None = 0
