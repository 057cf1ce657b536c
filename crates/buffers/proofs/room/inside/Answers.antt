-- `buffers::room::inside` meets its contract. Assumes nothing.
use mathlib.Core.Path.{sym}
use Prim.Native.Nat.{◌+◌, ◌-◌}
use native.Mathlib.Omega.{arith}
use Rattle.buffers.proofs.Rooms.{leb-same}
use borrow.Author.Tests.{lt-leb}
use Rattle.buffers.proofs.room.inside.Goals as goal

pub returns-then-len-at : goal.returns-then-len-at
returns-then-len-at c = sym (lt-leb (c.args.at + c.args.n) c.args.len (omega arith))

pub returns : goal.returns
returns c = leb-same c.args.n (c.args.len - c.args.at) (c.args.at + c.args.n) c.args.len (λ h. omega arith) (λ h. omega arith)
