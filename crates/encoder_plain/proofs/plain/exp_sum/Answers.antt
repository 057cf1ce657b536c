-- `encoder_plain::plain::exp_sum` meets its contract. Assumes nothing.
use mathlib.Core.Path.{◌≡◌, refl, sym, ap, ◌∙◌}
use mathlib.Core.List.{List}
use Prim.Native.Nat.{ℕ, ◌+◌, ◌<◌}
use native.Mathlib.Omega.{arith}
use native.Mathlib.Numerals.{add-one}
use lib.ListN.{length-set, get_or}
use lib.Ieee.{Float, nan, binary32, sub}
use Rattle.number_exp_tanh.specs.Exp.{E}
use Rattle.buffers.specs.Region.{region, put}
use Rattle.buffers.specs.Rows.{tab}
use Rattle.buffers.specs.Each.{both}
use Rattle.buffers.specs.inner.Apart.{after}
use Rattle.buffers.proofs.Lists.{length-tab, get_or-tab}
use Rattle.buffers.proofs.Regions.{get_or-put, get_or-region}
use Rattle.buffers.proofs.Steps.{elem-step}
use Rattle.encoder_linear.specs.Linear.{sum_of}
use Rattle.encoder_softmax.specs.Softmax.{exp_less}
use Rattle.encoder_plain.proofs.plain.exp_sum.Goals as goal

-- the value in hand is that of the whole row
here : (s u : List Float) (row n i : ℕ) (m v : Float) → i < n → u ≡ put s row (both nan i (λ a b. E (sub binary32 a m)) (region s row n) (region s row n))
    → v ≡ E (sub binary32 (get_or u (row + i) nan) m) → v ≡ get_or (exp_less n m (region s row n)) i nan
unfolding exp_less
here s u row n i m v l e g =
    let F : ℕ → Float = λ k. E (sub binary32 (get_or (region s row n) k nan) m) in
    g ∙ ap (λ (x : Float). E (sub binary32 x m)) (ap (λ (y : List Float). get_or y (row + i) nan) e ∙ get_or-put s row (tab i F) (row + i) nan (rw (length-tab i F) (after (omega arith))) ∙ sym (get_or-region s row n i nan l))
    ∙ sym (get_or-tab n i F nan l)

pub loop-i-init : goal.loop-i-init
unfolding put tab sum_of
loop-i-init c = (omega arith, refl, refl, refl)

pub loop-i-preserved : goal.loop-i-preserved
unfolding sum_of
loop-i-preserved c = (
  omega arith,
  simp length-set c.loop-i.invariant.1,
  cc (c.loop-i.invariant.2, c.exp_f32-sv.ensures, elem-step c.args.s.now c.args.row c.args.row c.args.n c.loop-i.i nan (λ _ u v. E (sub binary32 u c.args.max_val)) (omega arith) (after (omega arith))),
  rw (add-one, ← c.loop-i.invariant.3, ← here c.args.s.now c.loop-i.s c.args.row c.args.n c.loop-i.i c.args.max_val c.exp_f32-sv.result c.loop-i-test.true c.loop-i.invariant.2 c.exp_f32-sv.ensures),
)

pub shape_of-s : goal.shape_of-s
shape_of-s c = c.loop-i.invariant.1

pub returns : goal.returns
unfolding exp_less
returns c =
    let e : c.loop-i.i ≡ c.args.n = omega arith in record {
      value = c.loop-i.invariant.3 ∙ ap (λ k. sum_of k (λ j. get_or (exp_less c.args.n c.args.max_val (region c.args.s.now c.args.row c.args.n)) j nan)) e;
      s_after = c.loop-i.invariant.2 ∙ ap (λ k. put c.args.s.now c.args.row (both nan k (λ u v. E (sub binary32 u c.args.max_val)) (region c.args.s.now c.args.row c.args.n) (region c.args.s.now c.args.row c.args.n))) e;
    }
