-- `name::four` meets its contract. Assumes nothing.
use mathlib.Core.Path.{sym}
use native.Mathlib.Omega.{arith}
use Rattle.json_members.proofs.Named.{four-short, four-at}
use Rattle.json_members.proofs.name.four.Goals as goal

pub returns-then-s-at : goal.returns-then-s-at
returns-then-s-at c = let s = c.args.s.now in let at = c.args.at in sym (four-short s at (omega arith))

pub returns-then-s-at-lt4 : goal.returns-then-s-at-lt4
returns-then-s-at-lt4 c = let s = c.args.s.now in let at = c.args.at in sym (four-short s at (omega arith))

pub overflow_mul-result : goal.overflow_mul-result
overflow_mul-result c = omega arith

pub overflow_add-result : goal.overflow_add-result
overflow_add-result c = omega arith

pub overflow_mul-result-2 : goal.overflow_mul-result-2
overflow_mul-result-2 c = omega arith

pub overflow_add-result-2 : goal.overflow_add-result-2
overflow_add-result-2 c = omega arith

pub overflow_mul-result-3 : goal.overflow_mul-result-3
overflow_mul-result-3 c = omega arith

pub overflow_add-result-3 : goal.overflow_add-result-3
overflow_add-result-3 c = omega arith

pub returns : goal.returns
returns c = let s = c.args.s.now in let at = c.args.at in rw (c.hex_value-a.ensures.0, c.hex_value-b.ensures.0, c.hex_value-c.ensures.0, c.hex_value-d.ensures.0) (sym (four-at s at (omega arith)))
