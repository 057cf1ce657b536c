-- How a string ends, in two words. Assumes nothing.
use Rattle.std.specs.Prelude.{Ok, Err}
use Rattle.json_grammar.specs.Judge.{Read}
use Rattle.json_grammar.specs.declared.scan.Fault.TheVariants as F
use Rattle.json_read.specs.declared.string.Ended.{Ended}
use Rattle.json_read.specs.declared.string.Ended.TheVariants as E

abbrev pub told : Ended → Read
told (E.Past n) = Ok n
told (E.Stop n) = Err (F.Stop n)
told (E.Deep n) = Err (F.Deep n)
