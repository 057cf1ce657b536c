-- `number_bf16_half_root::half::half_size` meets its contract. Assumes nothing.
use Rattle.std.proofs.Common.{◌≡◌, ℕ, ◌+◌, ◌-◌, sym, ap, ◌∙◌, arith}
use Rattle.number_bf16_half_root.specs.Half.{subnormal}
use Rattle.number_bf16_half_root.proofs.half.Fields.{joined, at-subnormal, at-special, at-normal}
use Rattle.number_bf16_half_root.proofs.half.half_size.Goals as goal

at_zero : (m : ℕ) → m ≡ 0 → 0 ≡ subnormal m
unfolding subnormal
at_zero m e = sym (ap subnormal e)

pub returns-then-mantissa-eq0 : goal.returns-then-mantissa-eq0
returns-then-mantissa-eq0 c =
    at_zero c.args.mantissa c.if-mantissa-eq0.true ∙ sym (at-subnormal c.args.exp c.args.mantissa c.if-exp-eq0.true)

pub returns-then-exp-eq0 : goal.returns-then-exp-eq0
returns-then-exp-eq0 c =
    c.half_subnormal.ensures ∙ sym (at-subnormal c.args.exp c.args.mantissa c.if-exp-eq0.true)

pub returns-then-exp-eq31 : goal.returns-then-exp-eq31
returns-then-exp-eq31 c =
    joined 255 c.args.mantissa (omega arith) c.requires.1 ∙ sym (at-special c.args.exp c.args.mantissa c.if-exp-eq31.true)

pub returns : goal.returns
returns c =
    joined (c.args.exp + 127 - 15) c.args.mantissa (omega arith) c.requires.1 ∙ sym (at-normal c.args.exp c.args.mantissa c.if-exp-eq0.false c.if-exp-eq31.false)
