-- What reading a text answers, and what it leaves in the bytes that it is lent. Assumes nothing.
use Rattle.std.specs.Prelude.{List, [], ◌++◌, ℕ, ◌-◌, length}
use Rattle.std.specs.Prelude.{Option, None, Some}
use Rattle.buffers.specs.Rows.{tab}
use Rattle.unpatch_form.specs.Form.{Request}
use Rattle.unpatch_read.specs.declared.read.Reading.{Reading}

-- the numbers that the text says, and how many bytes its rows have
abbrev pub reading : Option Request → Option Reading
reading None = None
reading (Some q) = Some (record { patch = q.patch; merge = q.merge; image = q.image; height = q.height; width = q.width; bytes = length q.rgb })

-- the rows' bytes, joined; none of a text outside the form
abbrev pub rows_of : Option Request → List ℕ
rows_of None = []
rows_of (Some q) = q.rgb

-- the longest rows have half as many bytes as a text may have
abbrev pub longest : ℕ
longest = 24576

-- zeros behind them
unfoldable pub filled : List ℕ → List ℕ
filled bs = bs ++ tab (longest - length bs) (λ _. 0)
