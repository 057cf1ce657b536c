-- `encoder_plain::plain::exp_sum` meets its contract. Assumes nothing.
use mathlib.Core.Path.{◌≡◌}
use Prim.Native.Nat.{◌≤◌}
use lib.ListN.{length, get_or}
use lib.Ieee.{nan, binary32, sub}
use Rattle.number_exp_tanh.specs.Exp.{E}
use Rattle.buffers.specs.Region.{region, put}
use Rattle.buffers.specs.Each.{both}
use Rattle.encoder_linear.specs.Linear.{sum_of}
use Rattle.encoder_softmax.specs.Softmax.{exp_less}
use Rattle.encoder_plain.proofs.plain.exp_sum.Given as goal

abbrev pub invariant-loop-i : goal.invariant-loop-i
invariant-loop-i l =
    (l.i ≤ l.n) × (length l.s ≡ length l.initial.s) × (l.s ≡ put l.initial.s l.row (both nan l.i (λ a b. E (sub binary32 a l.max_val)) (region l.initial.s l.row l.n) (region l.initial.s l.row l.n)))
    × (l.sum ≡ sum_of l.i (λ j. get_or (exp_less l.n l.max_val (region l.initial.s l.row l.n)) j nan))
