-- `exp::two_to` meets its contract. Assumes nothing.
use Rattle.std.proofs.Common.{ℕ, ◌+◌, ◌-◌, ◌≤◌, false, ℤ, ap, ◌∙◌, arith}
use lib.Ieee.{fin, minus}
use Rattle.number_exp_tanh.proofs.exp.Twos.{under, over, power-bits, power-no-nan}
use Rattle.number_exp_tanh.proofs.exp.two_to.Goals as goal

pub truncating_f64_to_u64-requires : goal.truncating_f64_to_u64-requires
truncating_f64_to_u64-requires c = record {
  lower_bound = ((under c.args.k c.if-k.true c.requires).0).0;
  upper_bound = ((under c.args.k c.if-k.true c.requires).0).1;
}

pub overflow_sub-result : goal.overflow_sub-result
overflow_sub-result c =
    let low-is : c.truncating_f64_to_u64.result ≤ 1000 = omega (arith, c.truncating_f64_to_u64.ensures, (under c.args.k c.if-k.true c.requires).1) in
    omega (arith, low-is)

pub float_from_bits-result : goal.float_from_bits-result
float_from_bits-result c =
    let low-is : c.truncating_f64_to_u64.result ≤ 1000 = omega (arith, c.truncating_f64_to_u64.ensures, (under c.args.k c.if-k.true c.requires).1) in
    power-no-nan (1023 - c.truncating_f64_to_u64.result) (omega (arith, low-is)) (omega arith)

pub returns-then-k : goal.returns-then-k
returns-then-k c =
    let low-is : c.truncating_f64_to_u64.result ≤ 1000 = omega (arith, c.truncating_f64_to_u64.ensures, (under c.args.k c.if-k.true c.requires).1) in
    let k = c.args.k in
    power-bits (1023 - c.truncating_f64_to_u64.result) (omega (arith, low-is)) (omega arith)
    ∙ ap (λ (z : ℤ). fin false 1 z) (ap (λ (n : ℕ). minus (1023 - n) 1023) c.truncating_f64_to_u64.ensures ∙ (under k c.if-k.true c.requires).2)

pub truncating_f64_to_u64-requires-2 : goal.truncating_f64_to_u64-requires-2
truncating_f64_to_u64-requires-2 c = record {
  lower_bound = ((over c.args.k c.if-k.false c.requires).0).0;
  upper_bound = ((over c.args.k c.if-k.false c.requires).0).1;
}

pub overflow_add-result : goal.overflow_add-result
overflow_add-result c =
    let high_is : c.truncating_f64_to_u64-2.result ≤ 1000 = omega (arith, c.truncating_f64_to_u64-2.ensures, (over c.args.k c.if-k.false c.requires).1) in
    omega (arith, high_is)

pub float_from_bits-result-2 : goal.float_from_bits-result-2
float_from_bits-result-2 c =
    let high_is : c.truncating_f64_to_u64-2.result ≤ 1000 = omega (arith, c.truncating_f64_to_u64-2.ensures, (over c.args.k c.if-k.false c.requires).1) in
    power-no-nan (1023 + c.truncating_f64_to_u64-2.result) (omega arith) (omega (arith, high_is))

pub returns : goal.returns
returns c =
    let high_is : c.truncating_f64_to_u64-2.result ≤ 1000 = omega (arith, c.truncating_f64_to_u64-2.ensures, (over c.args.k c.if-k.false c.requires).1) in
    let k = c.args.k in
    power-bits (1023 + c.truncating_f64_to_u64-2.result) (omega arith) (omega (arith, high_is))
    ∙ ap (λ (z : ℤ). fin false 1 z) (ap (λ (n : ℕ). minus (1023 + n) 1023) c.truncating_f64_to_u64-2.ensures ∙ (over k c.if-k.false c.requires).2)
