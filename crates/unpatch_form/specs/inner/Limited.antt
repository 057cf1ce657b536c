-- A decimal held to its limit digit by digit. Assumes nothing.
use Rattle.std.specs.Prelude.{List, ℕ}
use Rattle.std.specs.Prelude.{Option}
use Rattle.unpatch_form.specs.Words.{◌>>=◌}
use Rattle.unpatch_form.specs.Decimal.{digits_from, up_to}

-- digits that follow ones for n, and the number is at most `most`
abbrev pub limited_from : ℕ → ℕ → List ℕ → Option ℕ
limited_from most n s = digits_from n s >>= up_to most
