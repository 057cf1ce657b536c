-- `string::hex` meets its contract. Assumes nothing.
use mathlib.Core.Path.{refl}
use mathlib.Core.List.{[]}
use native.Mathlib.Omega.{arith}
use lib.ListN.{get_or}
use Rattle.json_grammar.specs.inner.Machine as M
use Rattle.json_grammar.proofs.Picks.{at, clear, gap, unchosen, settle-at, settle-stuck}
use Rattle.json_grammar.proofs.Steps.{ends, stops, closes}
use Rattle.json_read.proofs.string.hex.Goals as goal

pub returns-then-s-at : goal.returns-then-s-at
unfolding M.ready M.nullable
returns-then-s-at c = ends refl c.if-s-at.true

pub returns-then-b-lt48 : goal.returns-then-b-lt48
unfolding M.alts at clear gap M.nullable
returns-then-b-lt48 c = let s = c.args.s.now in let at = c.args.at in let x = get_or s at 0 in stops c.if-s-at.false (settle-stuck M.hex [] x refl (unchosen 0 0x2F (M.alts M.hex) x refl (omega arith) (omega arith)))

pub returns-then-b-le57 : goal.returns-then-b-le57
unfolding M.alts at clear gap M.nullable
returns-then-b-le57 c = let s = c.args.s.now in let at = c.args.at in let x = get_or s at 0 in closes c.if-s-at.false (settle-at M.hex [] 0x30 0x39 0 x refl (omega arith) (omega arith))

pub returns-then-b-lt65 : goal.returns-then-b-lt65
unfolding M.alts at clear gap M.nullable
returns-then-b-lt65 c = let s = c.args.s.now in let at = c.args.at in let x = get_or s at 0 in stops c.if-s-at.false (settle-stuck M.hex [] x refl (unchosen 0x3A 0x40 (M.alts M.hex) x refl (omega arith) (omega arith)))

pub returns-then-b-le70 : goal.returns-then-b-le70
unfolding M.alts at clear gap M.nullable
returns-then-b-le70 c = let s = c.args.s.now in let at = c.args.at in let x = get_or s at 0 in closes c.if-s-at.false (settle-at M.hex [] 0x41 0x46 1 x refl (omega arith) (omega arith))

pub returns-then-b-lt97 : goal.returns-then-b-lt97
unfolding M.alts at clear gap M.nullable
returns-then-b-lt97 c = let s = c.args.s.now in let at = c.args.at in let x = get_or s at 0 in stops c.if-s-at.false (settle-stuck M.hex [] x refl (unchosen 0x47 0x60 (M.alts M.hex) x refl (omega arith) (omega arith)))

pub returns-then-b-le102 : goal.returns-then-b-le102
unfolding M.alts at clear gap M.nullable
returns-then-b-le102 c = let s = c.args.s.now in let at = c.args.at in let x = get_or s at 0 in closes c.if-s-at.false (settle-at M.hex [] 0x61 0x66 2 x refl (omega arith) (omega arith))

pub returns : goal.returns
unfolding M.alts at clear gap M.nullable
returns c = let s = c.args.s.now in let at = c.args.at in let x = get_or s at 0 in stops c.if-s-at.false (settle-stuck M.hex [] x refl (unchosen 0x67 0xFF (M.alts M.hex) x refl (omega arith) (omega (arith, c.shared_slice_known-1.given at))))
