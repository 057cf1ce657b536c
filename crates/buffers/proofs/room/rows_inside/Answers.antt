-- `buffers::room::rows_inside` meets its contract. Assumes nothing.
use mathlib.Core.Path.{◌≡◌, sym, ap, ◌∙◌}
use Prim.Native.Nat.{◌+◌, ◌*◌, ◌-◌, ◌/◌, ◌<◌}
use native.Mathlib.Nat.{mul-zero, le-div_iff_mul-le}
use native.Mathlib.Omega.{arith}
use Rattle.buffers.proofs.Rooms.{leb-same}
use borrow.Author.Tests.{le-leb, lt-leb}
use Rattle.buffers.proofs.room.rows_inside.Goals as goal

pub returns-then-len-at : goal.returns-then-len-at
returns-then-len-at c = sym (lt-leb (c.args.at + c.args.n * c.args.d) c.args.len (omega arith))

pub returns-then-d-eq0 : goal.returns-then-d-eq0
returns-then-d-eq0 c =
    let z : c.args.n * c.args.d ≡ 0 = ap (λ k. c.args.n * k) c.if-d-eq0.true ∙ mul-zero c.args.n in
    sym (le-leb (c.args.at + c.args.n * c.args.d) c.args.len (omega arith))

pub returns : goal.returns
returns c =
    let d : 0 < c.args.d = omega arith in
    leb-same c.args.n ((c.args.len - c.args.at) / c.args.d) (c.args.at + c.args.n * c.args.d) c.args.len
    (λ h. omega (arith, (le-div_iff_mul-le d).0 h)) (λ h. (le-div_iff_mul-le d).1 (omega arith))
