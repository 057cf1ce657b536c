-- `number_bf16_half_root::root::root` meets its contract: of a number, what it returns meets the statement over integers, which one f32 alone does. Assumes nothing.
use Rattle.std.proofs.Common.{sym, ◌∙◌, arith}
use Rattle.number_bf16_half_root.proofs.root.Meets.{number-rooted, at_zero, at-number, at-infinity, at-minus-zero, at_rest}
use Rattle.number_bf16_half_root.proofs.root.Unique.{rooted-unique}
use Rattle.number_bf16_half_root.proofs.root.root.Goals as goal

pub returns-then-x-eq0 : goal.returns-then-x-eq0
returns-then-x-eq0 c = sym (at_zero c.args.x c.if-x-eq0.true)

pub returns-then-x-lt2139095040 : goal.returns-then-x-lt2139095040
returns-then-x-lt2139095040 c =
    let x = c.args.x in
    rooted-unique x _ _ c.root_number.ensures (number-rooted x (omega arith)) ∙ sym (at-number x (omega arith) c.if-x-lt2139095040.true)

pub returns-then-x-eq2139095040 : goal.returns-then-x-eq2139095040
returns-then-x-eq2139095040 c = sym (at-infinity c.args.x c.if-x-eq2139095040.true)

pub returns-then-x-eq2147483648 : goal.returns-then-x-eq2147483648
returns-then-x-eq2147483648 c = sym (at-minus-zero c.args.x c.if-x-eq2147483648.true)

pub returns : goal.returns
returns c = sym (at_rest c.args.x (omega arith) c.if-x-eq2147483648.false)
