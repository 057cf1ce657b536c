-- `pool::slice::store` meets its contract. Assumes nothing.
use mathlib.Core.Path.{◌≡◌}
use Prim.Native.Nat.{◌+◌, ◌-◌}
use native.Mathlib.Nat.{add-sub_cancel_left}
use native.Mathlib.Omega.{arith}
use Rattle.std.proofs.Common.{rules}
use lib.ListN.{length}
use Rattle.pool_books.proofs.Parts.{part-copied, stored}
use Rattle.pool.proofs.slice.store.Goals as goal

pub returns : goal.returns
returns c =
    let whole : length c.args.p.now.held ≡ 64 = search rules in record {
      answer = stored c.args.p.now c.args.key c.args.at (length c.args.vectors.now) (omega (arith, whole, c.requires.0));
      output = part-copied c.args.s.now c.args.vectors.now c.args.at (c.args.at + length c.args.vectors.now - c.args.at) c.copy.new.out (add-sub_cancel_left c.args.at (length c.args.vectors.now)) c.requires.1 c.copy.ensures;
    }
