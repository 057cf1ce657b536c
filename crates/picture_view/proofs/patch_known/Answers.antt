-- `picture_view::patch_known` meets its contract. Assumes nothing.
use Rattle.std.proofs.Common.{◌≡◌, ℕ, ◌+◌, ◌*◌, ◌≤◌, length, refl, ◌∙◌, rules, tests, arith}
use Rattle.std.proofs.lemmas.Iterator.{YieldsList-from_range, serves_from_Range}
use Rattle.std.proofs.lemmas.Iterator.Search.{all_from_yields_List}
use Rattle.buffers.proofs.Lists.{fit}
use Rattle.picture_samples.specs.Samples.{entry}
use Rattle.picture_samples.proofs.Ranges.{all-below}
use Rattle.picture_view.specs.inner.Known.{known_run}
use Rattle.picture_limits.proofs.Places.{square}
use Rattle.picture_view.proofs.patch_known.Goals as goal

pub overflow_mul-n : goal.overflow_mul-n
overflow_mul-n c = omega (arith, square c.args.p c.requires.0)

pub all-requires-clause-callable : goal.all-requires-clause-callable
all-requires-clause-callable c =
    serves_from_Range (λ x q k. search rules) (λ x a b.
    let n = c.args.p * c.args.p in
    let inside : c.args.at + x * n + n ≤ length c.args.patches.now = omega (arith, fit n b, c.requires.1) in
    (λ _ _ _ _ _ h _ _ _. omega (arith, inside, h), λ _ _ _ _ _ h _ _ _. omega (arith, inside, h), λ _ _ _ _ _ _ _ _ _ _ _ _. (b, inside, c.requires.2, c.requires.3)))

pub returns : goal.returns
returns c =
    all_from_yields_List (λ k. known_run (entry c.args.t.now) (c.args.p * c.args.p) c.args.patches.now (c.args.at + k * (c.args.p * c.args.p)) k) _ _ _ c.all.ensures.ran (YieldsList-from_range 0 3 _ refl refl) (λ x b q k. search (rules, tests))
    ∙ all-below _ 3
