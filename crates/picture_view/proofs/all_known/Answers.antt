-- `picture_view::all_known` meets its contract. Assumes nothing.
use Rattle.std.proofs.Common.{◌≡◌, ℕ, ◌+◌, ◌*◌, ◌≤◌, length, refl, ◌∙◌, rules, tests, arith}
use Rattle.std.proofs.lemmas.Iterator.{YieldsList-from_range, serves_from_Range}
use Rattle.std.proofs.lemmas.Iterator.Search.{all_from_yields_List}
use Rattle.buffers.proofs.Lists.{fit}
use Rattle.picture_samples.specs.Samples.{entry}
use Rattle.picture_samples.proofs.Ranges.{all-below}
use Rattle.picture_view.specs.inner.Known.{known_patch, known_patches}
use Rattle.picture_limits.specs.Places.{patch_floats}
use Rattle.picture_limits.proofs.Places.{square}
use Rattle.picture_view.proofs.all_known.Goals as goal

pub overflow_mul-m : goal.overflow_mul-m
overflow_mul-m c = omega (arith, square c.args.p c.requires.0)

pub overflow_mul-m-2 : goal.overflow_mul-m-2
overflow_mul-m-2 c = omega (arith, square c.args.p c.requires.0)

pub all-requires-clause-callable : goal.all-requires-clause-callable
all-requires-clause-callable c =
    serves_from_Range (λ x q k. search rules) (λ x a b.
    let m = patch_floats c.args.p in
    let inside : x * m + m ≤ length c.args.patches.now = omega (arith, fit m b, c.requires.1) in
    (λ _ _ _ _ _ h _ _. omega (arith, inside, h), λ _ _ _ _ _ _ _ _ _ _ _ _. (c.requires.0, inside, c.requires.2, c.requires.3)))

pub returns : goal.returns
unfolding known_patches
returns c =
    all_from_yields_List (λ q. known_patch (entry c.args.t.now) c.args.p c.args.patches.now (q * patch_floats c.args.p)) _ _ _ c.all.ensures.ran (YieldsList-from_range 0 c.args.n _ refl refl) (λ x b q k. search (rules, tests))
    ∙ all-below _ c.args.n
