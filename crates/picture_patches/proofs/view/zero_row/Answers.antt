-- `picture_patches::view::zero_row` meets its contract. Assumes nothing.
use mathlib.Core.Path.{◌≡◌, refl, sym, ap, ◌∙◌}
use mathlib.Core.List.{List, [], ◌∷◌, ◌++◌}
use Prim.Native.Nat.{ℕ, zero, suc, ◌+◌, ◌-◌}
use native.Mathlib.Nat.{add-sub_cancel_left}
use native.Mathlib.Numerals.{add-one}
use native.Mathlib.Omega.{arith}
use lib.ListN.{length, replicate}
use lib.Ieee.{Float}
use Rattle.std.proofs.lemmas.List.{replicate_more}
use Rattle.buffers.specs.Rows.{tab}
use Rattle.buffers.specs.Region.{region}
use Rattle.picture_samples.specs.Samples.{value, entry}
use Rattle.buffers.proofs.Steps.{blank_part}
use Rattle.picture_patches.proofs.view.zero_row.Goals as goal

tab-one : (n : ℕ) (d : Float) → tab n (λ _. d) ≡ replicate n d
unfolding tab
tab-one zero d = refl
tab-one (suc n) d = ap (λ (l : List Float). l ++ (d ∷ [])) (tab-one n d) ∙ replicate_more n d ∙ ap (λ (k : ℕ). replicate k d) (add-one n)

pub returns : goal.returns
returns c =
    let b = value (entry c.args.t.now) c.args.c 0 in
    blank_part b c.args.at c.args.n (c.args.at + c.args.n - c.args.at) c.args.out.now c.fill.new.self (add-sub_cancel_left c.args.at c.args.n) c.requires.0
    (c.fill.ensures.after (λ y h. h) ∙ ap (replicate (length (region c.args.out.now c.args.at (c.args.at + c.args.n - c.args.at)))) c.sample_of.ensures ∙ sym (tab-one _ b))
