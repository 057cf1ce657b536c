-- `picture_limits::settings::span_inside` meets its contract. Assumes nothing.
use mathlib.Core.Path.{sym}
use Prim.Native.Nat.{◌+◌, ◌<◌}
use native.Mathlib.Omega.{arith}
use borrow.Author.Tests.{lt-leb}
use Rattle.picture_limits.proofs.Views.{leb-less}
use Rattle.picture_limits.proofs.settings.span_inside.Goals as goal

pub returns-then-n-len : goal.returns-then-n-len
returns-then-n-len c = let h : c.args.n < c.args.at + c.args.len = omega arith in sym (lt-leb _ _ h)

pub returns : goal.returns
returns c = leb-less c.args.at c.args.len c.args.n c.if-n-len.false
