-- `damage::damaged_bits` meets its contract: each arm has its code, and the last none of them. Assumes nothing.
use Rattle.std.proofs.Common.{◌%◌, ◌^◌, ◌<◌, ap, mod-eq_of_lt, one-mul, arith, ne_eqb}
use lib.Bits.{bit_xor}
use lib.Pow.{pow-lt}
use Rattle.replay.specs.Damage.{damaged_bits}
use Rattle.replay.proofs.damage.damaged_bits.Goals as goal

pub returns-in-1 : goal.returns-in-1
unfolding damaged_bits
returns-in-1 c =
    let k = c.args.place % 32 in
    let h : k < 32 = omega arith in
    rw c.in-1.is (ap (bit_xor c.args.bits) (rw (one-mul (2 ^ k)) (mod-eq_of_lt (pow-lt h))))

pub returns-in-2 : goal.returns-in-2
unfolding damaged_bits
returns-in-2 c = rw c.in-2.is

pub returns-in-3 : goal.returns-in-3
unfolding damaged_bits
returns-in-3 c = rw c.in-3.is

pub returns-in-4 : goal.returns-in-4
unfolding damaged_bits
returns-in-4 c = rw c.in-4.is

pub returns-in_default : goal.returns-in_default
unfolding damaged_bits
returns-in_default c =
    simp (ne_eqb _ _ c.in_default.in_default-own.rest.0.0.0.1, ne_eqb _ _ c.in_default.in_default-own.rest.0.0.1, ne_eqb _ _ c.in_default.in_default-own.rest.0.1, ne_eqb _ _ c.in_default.in_default-own.rest.1)
