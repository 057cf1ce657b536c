-- `picture_samples::formula::sample_of` meets its contract: its operations are the definition's. Assumes nothing.
use lib.Ieee.{div}
use Rattle.picture_samples.specs.Samples.{sample}
use borrow.Author.Rules.{rules}
use Rattle.picture_samples.proofs.formula.sample_of.Goals as goal

pub returns : goal.returns
unfolding div sample
returns c = search rules
