-- Whether what a function is handed fits: what it reads and writes lies inside what it is lent, and what it writes lies
-- apart from what it reads; and what it leaves. Assumes nothing.
use Rattle.std.specs.Prelude.{Bool, ◌||◌, cond, List, ℕ, ◌+◌, leb, Float}
use Rattle.buffers.specs.Region.{put}

-- l written at y where all fits; else all is as it was
abbrev pub where_fits : Bool → List Float → ℕ → List Float → List Float
where_fits fits s y l = cond fits (put s y l) s

-- the n floats at at lie inside len
abbrev pub inside : ℕ → ℕ → ℕ → Bool
inside len at n = leb (at + n) len

-- the n floats at x and the m at y do not overlap
abbrev pub aside : ℕ → ℕ → ℕ → ℕ → Bool
aside x n y m = inside y x n || inside x y m
