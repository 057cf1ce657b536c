-- `picture_samples::allowed::falls` meets its contract. Assumes nothing.
use Rattle.std.proofs.Common.{rules, suc, refl, ◌∙◌, tests}
use Rattle.std.specs.Float.Ieee.{lt}
use Rattle.std.proofs.lemmas.Iterator.{YieldsList-from_range}
use Rattle.std.proofs.lemmas.Iterator.Search.{all_from_yields_List}
use Rattle.picture_samples.specs.Samples.{value, entry, falling}
use Rattle.picture_samples.proofs.Ranges.{all-below}
use Rattle.picture_samples.proofs.allowed.falls.Goals as goal

pub returns : goal.returns
unfolding falling
returns c =
    all_from_yields_List (λ b. lt (value (entry c.args.t.now) c.args.c (suc b)) (value (entry c.args.t.now) c.args.c b)) _ _ _ c.all.ensures.ran (YieldsList-from_range 0 255 _ refl refl) (λ x b q k. search (rules, tests))
    ∙ all-below _ 255
