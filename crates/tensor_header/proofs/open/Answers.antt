-- `open` meets its contract. Assumes nothing.
use mathlib.Core.Path.{sym, ap, ◌∙◌}
use Prim.Native.Nat.{ℕ}
use native.Mathlib.Omega.{arith}
use native.Mathlib.Nat.{add-sub_cancel_left}
use lib.ListN.{take, drop}
use borrow.Author.Tests.{not-true, not-false}
use Rattle.tensor_header.proofs.Heads.{not-allowed, not-framed, with-header, too_short, past_end, in_frame, few-layers}
use Rattle.tensor_header.proofs.open.Goals as goal

pub returns-then-not-settings_allowed : goal.returns-then-not-settings_allowed
returns-then-not-settings_allowed c = not-allowed c.args.s c.args.file.now c.args.places.now (sym c.settings_allowed.ensures ∙ not-true _ c.if-not-settings_allowed.true-raw)

pub returns-then-file-lt8 : goal.returns-then-file-lt8
returns-then-file-lt8 c = not-framed c.args.s c.args.file.now c.args.places.now (sym c.settings_allowed.ensures ∙ not-false _ c.if-not-settings_allowed.false-raw) (too_short c.args.s c.args.file.now c.args.places.now c.if-file-lt8.true)

pub header_length-n-requires : goal.header_length-n-requires
header_length-n-requires c = omega arith

pub returns-then-room-n : goal.returns-then-room-n
returns-then-room-n c = not-framed c.args.s c.args.file.now c.args.places.now (sym c.settings_allowed.ensures ∙ not-false _ c.if-not-settings_allowed.false-raw) (past_end c.args.s c.args.file.now c.args.places.now (rw (← c.header_length-n.ensures) c.if-room-n.true))

pub read_header-requires : goal.read_header-requires
read_header-requires c = few-layers c.args.s (sym c.settings_allowed.ensures ∙ not-false _ c.if-not-settings_allowed.false-raw)

pub returns : goal.returns
returns c = with-header c.args.s c.args.file.now c.args.places.now (sym c.settings_allowed.ensures ∙ not-false _ c.if-not-settings_allowed.false-raw) (in_frame c.args.s c.args.file.now c.args.places.now (omega arith) (rw (← c.header_length-n.ensures) (omega arith))) (ap (λ (n : ℕ). take n (drop 8 c.args.file.now)) (add-sub_cancel_left 8 _ ∙ c.header_length-n.ensures)) c.read_header.ensures
