-- `picture_resize::near_byte` meets its contract. Assumes nothing.
use Rattle.std.proofs.Common.{◌≤◌, Bool, true, false, not, refl, arith}
use lib.Ieee.{lt}
use mir.Val.{bool_byte}
use Rattle.picture_resize.proofs.Rounds.{Rounds, mid, rounds, made, nearest-low}
use Rattle.picture_resize.proofs.near_byte.Goals as goal

bit : (b : Bool) → bool_byte b ≤ 1
bit true = omega arith
bit false = omega arith

pub float_to_bits-result : goal.float_to_bits-result
float_to_bits-result c =
    let facts : Rounds c.args.z = rounds c.args.z c.requires in
    facts.is_number

pub overflow_add-result : goal.overflow_add-result
overflow_add-result c =
    let facts : Rounds c.args.z = rounds c.args.z c.requires in
    omega (arith, facts.bits, nearest-low (facts), bit (not (lt c.args.z (mid c.args.z))))

pub returns : goal.returns
returns c =
    let facts : Rounds c.args.z = rounds c.args.z c.requires in
    made c.args.z (facts) (lt c.args.z (mid c.args.z)) refl
