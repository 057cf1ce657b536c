-- `record::judge` meets its contract: what was read, and what the call gave. Assumes nothing.
use borrow.Author.Tests.{not-true, not-false}
use mathlib.Core.Path.{ap, ◌∙◌}
use Prim.Native.Nat.{ℕ}
use native.Mathlib.Omega.{arith}
use Rattle.pool_replay.specs.Record.{judged}
use Rattle.pool_replay.proofs.Runs.{unread, read-so}
use Rattle.pool_replay.proofs.record.judge.Goals as goal

pub returns-then-not-read_line : goal.returns-then-not-read_line
returns-then-not-read_line c =
    let u = unread c.args.p c.args.s.now c.args.line.now c.read_line.new.to c.read_line.result c.read_line.ensures.whole (not-true _ c.if-not-read_line.true-raw) in record {
      answer = (ap (λ (k : ℕ). judged k c.args.p) c.bad.ensures ∙ u.0, omega (arith, c.bad.ensures));
      output = u.1;
    }

pub returns : goal.returns
returns c =
    let r = read-so c.args.p c.args.s.now c.args.line.now c.read_line.new.to c.read_line.result c.read_line.ensures.whole c.call-ran.result c.call-ran.new.s c.hash_floats.result c.place-at.result c.tell-m.result
    c.read_line.ensures.output (not-false _ c.if-not-read_line.false-raw) c.call-ran.ensures.answer c.call-ran.ensures.output c.hash_floats.ensures c.tell-m.ensures c.place-at.ensures.0 in record {
      answer = (r.0, c.place-at.ensures.1);
      output = r.1;
    }
