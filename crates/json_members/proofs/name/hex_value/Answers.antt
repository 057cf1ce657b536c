-- `name::hex_value` meets its contract. Assumes nothing.
use mathlib.Core.Path.{refl}
use native.Mathlib.Omega.{arith}
use borrow.Author.Tests.{lt-ltb, le-ltb}
use Rattle.json_members.specs.inner.Bytes.{hex_value}
use Rattle.json_members.proofs.name.hex_value.Goals as goal

pub returns-then-b-lt48 : goal.returns-then-b-lt48
unfolding hex_value
returns-then-b-lt48 c = let x = c.args.b in (rw (lt-ltb x 0x3A (omega arith)) (omega arith), omega arith)

pub returns-then-b-lt58 : goal.returns-then-b-lt58
unfolding hex_value
returns-then-b-lt58 c = let x = c.args.b in (rw (lt-ltb x 0x3A (omega arith)) refl, omega arith)

pub returns-then-b-lt71 : goal.returns-then-b-lt71
unfolding hex_value
returns-then-b-lt71 c = let x = c.args.b in (rw (le-ltb x 0x3A (omega arith), lt-ltb x 0x47 (omega arith)) refl, omega arith)

pub returns-then-b-lt87 : goal.returns-then-b-lt87
unfolding hex_value
returns-then-b-lt87 c = let x = c.args.b in (rw (le-ltb x 0x3A (omega arith), le-ltb x 0x47 (omega arith)) (omega arith), omega arith)

pub returns : goal.returns
unfolding hex_value
returns c = let x = c.args.b in (rw (le-ltb x 0x3A (omega arith), le-ltb x 0x47 (omega arith)) refl, omega arith)
