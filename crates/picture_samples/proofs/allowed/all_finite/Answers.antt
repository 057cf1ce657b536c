-- `picture_samples::allowed::all_finite` meets its contract. Assumes nothing.
use Rattle.std.proofs.Common.{rules, refl, ◌∙◌, tests}
use Rattle.std.specs.Float.Ieee.Scale.{finite}
use Rattle.std.proofs.lemmas.Iterator.{YieldsList-from_range}
use Rattle.std.proofs.lemmas.Iterator.Search.{all_from_yields_List}
use Rattle.picture_samples.specs.Samples.{value, entry}
use Rattle.picture_samples.proofs.Ranges.{all-below, finite-is}
use Rattle.picture_samples.proofs.allowed.all_finite.Goals as goal

pub returns : goal.returns
returns c =
    all_from_yields_List (λ b. finite (value (entry c.args.t.now) c.args.c b)) _ _ _ c.all.ensures.ran (YieldsList-from_range 0 256 _ refl refl) (λ x b q k. search (rules, tests, finite-is))
    ∙ all-below _ 256
