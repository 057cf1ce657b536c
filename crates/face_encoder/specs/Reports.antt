-- What the C face reports of the calls on patches: the paper's number, and its sizes, 0 for each of a refusal. Assumes nothing.
use Rattle.std.specs.Prelude.{Result}
use Rattle.picture_limits.specs.declared.Refusal.{Refusal}
use Rattle.encoder_settings.specs.declared.lengths.Lengths.{Lengths}
use Rattle.encoder_settings.specs.Lengths as Len
use Rattle.encoder_run.specs.Answer.{Encoded}
use Rattle.encoder.specs.Forward as Fwd
use Rattle.face_encoder.specs.declared.ForwardReport.{ForwardReport}
use Rattle.face_encoder.specs.declared.LengthsReport.{LengthsReport}

abbrev pub forward_report : Encoded → ForwardReport
forward_report a = record { number = Fwd.number a; tokens = Fwd.tokens a }

abbrev pub lengths_report : Result Lengths Refusal → LengthsReport
lengths_report a = record { number = Len.number a; patches = Len.patches a; weights = Len.weights a; tables = Len.tables a; axes = Len.axes a; scratch = Len.scratch a; out = Len.out a }
