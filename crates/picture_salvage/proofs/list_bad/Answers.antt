-- `picture_salvage::list_bad` meets its contract: of none, the entries are empty. Assumes nothing.
use mathlib.Core.Path.{sym, ap, ◌∙◌}
use native.Mathlib.Omega.{arith}
use Rattle.buffers.specs.Region.{put}
use Rattle.buffers.proofs.Regions.{put-nil}
use Rattle.picture_samples.specs.Samples.{entry}
use Rattle.picture_salvage.proofs.Salvages.{none-entries}
use Rattle.picture_salvage.proofs.list_bad.Goals as goal

pub returns-then-bad-eq0 : goal.returns-then-bad-eq0
returns-then-bad-eq0 c =
    sym (ap (put c.args.list.now 0) (none-entries (entry c.args.t.now) c.args.p c.args.bits.now c.args.m (sym c.requires.3 ∙ c.if-bad-eq0.true)) ∙ put-nil c.args.list.now 0)

pub list_runs-requires : goal.list_runs-requires
list_runs-requires c =
    (c.requires.0, c.requires.1, c.requires.2, omega (arith, c.requires.3, c.requires.4), c.requires.5)

pub returns : goal.returns
returns c = c.list_runs.ensures
