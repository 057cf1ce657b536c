-- `straight::power_of` meets its contract. Assumes nothing.
use Rattle.number_exp_lanes.proofs.straight.Powers.{sum_number, power-is, power-number}
use Rattle.number_exp_lanes.proofs.straight.power_of.Goals as goal

pub float_to_bits-result : goal.float_to_bits-result
float_to_bits-result c = sum_number c.requires.1 c.requires.3 c.requires.0 c.args.k c.requires.2

pub float_from_bits-result : goal.float_from_bits-result
float_from_bits-result c = power-number c.requires.1 c.requires.3 c.requires.0 c.args.k c.requires.2

pub returns : goal.returns
returns c = power-is c.requires.1 c.requires.3 c.requires.0 c.args.k c.requires.2
