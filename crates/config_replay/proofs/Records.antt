-- Laws of the first record of a text. Assumes nothing.
use mathlib.Core.Path.{◌≡◌, sym, subst}
use mathlib.Core.Bool.{Bool}
use mathlib.Core.List.{List}
use Prim.Native.Nat.{ℕ, ◌+◌, ◌-◌, ◌≤◌, ◌<◌}
use borrow.Author.Tests.{lt-ltb, le-ltb}
use lib.ListN.{length}
use Rattle.buffers.specs.Region.{region}
use Rattle.tally.specs.declared.Step.TheVariants.{NoRecord}
use Rattle.tally.specs.Record.{judged}
use Rattle.config_replay.specs.Record.{field_at, Judges, Steps, short, cut, whole}

-- ---- the first record

pub step-short : (t : List ℕ) → length t < 66 → Steps t NoRecord
step-short t h = short (lt-ltb (length t) 66 h)

module _ (t : List ℕ) (n : ℕ) (long : 66 ≤ length t) (n-is : n ≡ field_at t 0) where
  pub step_cut : length t - 66 < n + 1 → Steps t NoRecord
  step_cut h = cut (le-ltb (length t) 66 long) (rw (← n-is) (lt-ltb (length t - 66) (n + 1) h))

  pub step-whole : (b : Bool) → n + 1 ≤ length t - 66 → Judges (region t 66 n) t b → Steps t (judged b (66 + n + 1))
  step-whole b h k =
      subst (λ (m : ℕ). Steps t (judged b (66 + m + 1))) (sym n-is)
      (whole (le-ltb (length t) 66 long) (rw (← n-is) (le-ltb (length t - 66) (n + 1) h)) (subst (λ (m : ℕ). Judges (region t 66 m) t b) n-is k))
