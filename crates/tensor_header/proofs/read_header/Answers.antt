-- `read_header` meets its contract. Assumes nothing.
use Rattle.std.proofs.Common.{Err, ap, arith}
use Rattle.tensor_header.proofs.Heads.{judged-as, stop-inside, deep-inside, when-past, when-stop, when-deep}
use Rattle.tensor_header.proofs.read_header.Goals as goal

pub damaged-requires : goal.damaged-requires
damaged-requires c = omega (arith, stop-inside c.args.h.now _ (judged-as c.args.h.now _ _ (ap Err c.in-Err-Stop.field-0-is) c.in-Err-Stop.ensures))

pub damaged-requires-in-Err-Deep : goal.damaged-requires-in-Err-Deep
damaged-requires-in-Err-Deep c = omega (arith, deep-inside c.args.h.now _ (judged-as c.args.h.now _ _ (ap Err c.in-Err-Deep.field-0-is) c.in-Err-Deep.ensures))

pub returns-in-Ok : goal.returns-in-Ok
returns-in-Ok c = when-past c.args.s c.args.h.now c.args.places.now _ c.in-Ok.ensures c.find.ensures

pub returns-in-Err-Stop : goal.returns-in-Err-Stop
returns-in-Err-Stop c = rw (c.damaged.ensures, c.in-Err-Stop.n-is) (when-stop c.args.s c.args.h.now c.args.places.now _ (judged-as c.args.h.now _ _ (ap Err c.in-Err-Stop.field-0-is) c.in-Err-Stop.ensures))

pub returns-in-Err-Deep : goal.returns-in-Err-Deep
returns-in-Err-Deep c = rw (c.damaged-in-Err-Deep.ensures, c.in-Err-Deep.n-is) (when-deep c.args.s c.args.h.now c.args.places.now _ (judged-as c.args.h.now _ _ (ap Err c.in-Err-Deep.field-0-is) c.in-Err-Deep.ensures))
