-- `run::call` meets its contract: each test is one of the definition's. Assumes nothing.
use mathlib.Core.Path.{sym, ap, ◌∙◌}
use Rattle.pool_replay.specs.Run.{plain}
use Rattle.pool_replay.proofs.Runs.{ran-new, ran-add, slice_kept, ran-find, ran-drop, ran-count, ran-entry}
use Rattle.pool_replay.proofs.run.call.Goals as goal

pub returns-then-what-eq0 : goal.returns-then-what-eq0
returns-then-what-eq0 c =
    let r = ran-new c.args.p c.args.s.now c.args.v.now c.if-what-eq0.true in record {
      answer = c.done.ensures ∙ ap plain c.new.ensures ∙ sym r.0;
      output = c.fill_floats.ensures ∙ sym r.1;
    }

pub returns-then-what-eq1 : goal.returns-then-what-eq1
returns-then-what-eq1 c =
    let r = ran-add c.args.p c.args.s.now c.args.v.now c.if-what-eq0.false c.if-what-eq1.true in record {
      answer = c.add.ensures.answer ∙ sym r.0;
      output = c.add.ensures.output ∙ sym r.1;
    }

pub returns-then-what-eq2 : goal.returns-then-what-eq2
returns-then-what-eq2 c = record {
  answer = c.find.ensures ∙ sym (ran-find c.args.p c.args.s.now c.args.v.now c.if-what-eq0.false c.if-what-eq1.false c.if-what-eq2.true);
  output = sym (slice_kept c.args.p c.args.s.now c.args.v.now c.if-what-eq0.false c.if-what-eq1.false);
}

pub returns-then-what-eq3 : goal.returns-then-what-eq3
returns-then-what-eq3 c = record {
  answer = c.drop_key.ensures ∙ sym (ran-drop c.args.p c.args.s.now c.args.v.now c.if-what-eq0.false c.if-what-eq1.false c.if-what-eq2.false c.if-what-eq3.true);
  output = sym (slice_kept c.args.p c.args.s.now c.args.v.now c.if-what-eq0.false c.if-what-eq1.false);
}

pub returns-then-what-eq4 : goal.returns-then-what-eq4
returns-then-what-eq4 c = record {
  answer = c.done-then-what-eq4.ensures ∙ sym (ran-count c.args.p c.args.s.now c.args.v.now c.if-what-eq0.false c.if-what-eq1.false c.if-what-eq2.false c.if-what-eq3.false c.if-what-eq4.true);
  output = sym (slice_kept c.args.p c.args.s.now c.args.v.now c.if-what-eq0.false c.if-what-eq1.false);
}

pub returns : goal.returns
returns c = record {
  answer = c.done-2.ensures ∙ ap plain c.entry.ensures ∙ sym (ran-entry c.args.p c.args.s.now c.args.v.now c.if-what-eq0.false c.if-what-eq1.false c.if-what-eq2.false c.if-what-eq3.false c.if-what-eq4.false);
  output = sym (slice_kept c.args.p c.args.s.now c.args.v.now c.if-what-eq0.false c.if-what-eq1.false);
}
