-- `unpatch` meets its contract. Assumes nothing.
use Prim.Native.Nat.{◌≤◌}
use mathlib.Core.Path.{◌≡◌, sym, ap, ◌∙◌}
use Rattle.std.specs.Prelude.{None, Some}
use lib.ListN.{length, take}
use lib.Seq.{length-take-le}
use Rattle.unpatch_form.specs.Form.{Request, form}
use Rattle.unpatch_text.specs.Answer.{answered, answer}
use Rattle.unpatch_read.specs.inner.Steps.{asked}
use Rattle.unpatch_text.proofs.Writes.{wrote_as}
use Rattle.unpatch_read.proofs.Answers.{asked-reading, bytes_inside}
use Rattle.unpatch_form.proofs.Limits.{form-limits}
use Rattle.unpatch_text.proofs.Left.{answer-short, wrote-left, nothing_left}
use Rattle.unpatch_text.proofs.unpatch.Goals as goal

pub returns-then-out-lt-ROOM : goal.returns-then-out-lt-ROOM
returns-then-out-lt-ROOM c = record {
  answer = (nothing_left c.args.out.now (answer c.args.input.now) c.if-out-lt-ROOM.true).0;
  output = (nothing_left c.args.out.now (answer c.args.input.now) c.if-out-lt-ROOM.true).1;
}

pub slice_bounds-rgb-end : goal.slice_bounds-rgb-end
slice_bounds-rgb-end c =
    let inside : c.in-Some.q.bytes ≤ length c.read.new.rgb = rw c.in-Some.is at (bytes_inside (form c.args.input.now) c.read.ensures.answer c.read.ensures.bytes) in
    inside

pub slice_bounds-run-end : goal.slice_bounds-run-end
slice_bounds-run-end c =
    let inside : c.in-Some.q.bytes ≤ length c.read.new.rgb = rw c.in-Some.is at (bytes_inside (form c.args.input.now) c.read.ensures.answer c.read.ensures.bytes) in
    sym (length-take-le _ _ (inside))

pub run-requires : goal.run-requires
run-requires c =
    let request : Request = record { patch = c.in-Some.q.patch; merge = c.in-Some.q.merge; image = c.in-Some.q.image; height = c.in-Some.q.height; width = c.in-Some.q.width; rgb = take c.in-Some.q.bytes c.read.new.rgb } in
    let formed : form c.args.input.now ≡ Some (request) = sym (asked-reading (form c.args.input.now) c.read.ensures.answer c.read.ensures.bytes) ∙ ap (λ x. asked x c.read.new.rgb) c.in-Some.is in
    ((form-limits c.args.input.now (request) (formed)).image, c.if-out-lt-ROOM.false)

pub returns-in_default : goal.returns-in_default
unfolding answer
returns-in_default c =
    let t = c.args.input.now in
    let e : form t ≡ None = sym (asked-reading (form t) c.read.ensures.answer c.read.ensures.bytes) ∙ ap (λ x. asked x c.read.new.rgb) c.in_default.is in record {
      answer = (wrote-left c.args.out.now _ (answer t) _ c.if-out-lt-ROOM.false (answer-short t) (wrote_as (sym (ap answered e)) c.put_bytes.ensures)).0;
      output = (wrote-left c.args.out.now _ (answer t) _ c.if-out-lt-ROOM.false (answer-short t) (wrote_as (sym (ap answered e)) c.put_bytes.ensures)).1;
    }

pub returns : goal.returns
unfolding answer
returns c =
    let request : Request = record { patch = c.in-Some.q.patch; merge = c.in-Some.q.merge; image = c.in-Some.q.image; height = c.in-Some.q.height; width = c.in-Some.q.width; rgb = take c.in-Some.q.bytes c.read.new.rgb } in
    let formed : form c.args.input.now ≡ Some (request) = sym (asked-reading (form c.args.input.now) c.read.ensures.answer c.read.ensures.bytes) ∙ ap (λ x. asked x c.read.new.rgb) c.in-Some.is in
    let t = c.args.input.now in record {
      answer = (wrote-left c.args.out.now _ (answer t) _ c.if-out-lt-ROOM.false (answer-short t) (wrote_as (sym (ap answered (formed))) c.run.ensures)).0;
      output = (wrote-left c.args.out.now _ (answer t) _ c.if-out-lt-ROOM.false (answer-short t) (wrote_as (sym (ap answered (formed))) c.run.ensures)).1;
    }
