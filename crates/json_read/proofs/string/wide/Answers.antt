-- `string::wide` meets its contract. Assumes nothing.
use mathlib.Core.Path.{refl}
use mathlib.Core.List.{[], ◌∷◌}
use native.Mathlib.Omega.{arith}
use lib.ListN.{get_or}
use Rattle.json_grammar.specs.inner.Machine as M
use Rattle.json_grammar.proofs.Picks.{at, clear, gap, unchosen, settle-at, settle-stuck}
use Rattle.json_read.proofs.Characters.{char-step, char-stuck, three-char}
use Rattle.json_read.proofs.string.wide.Goals as goal

pub returns-then-b-lt194 : goal.returns-then-b-lt194
unfolding M.alts at clear gap M.nullable M.height M.weight
returns-then-b-lt194 c = let s = c.args.s.now in let at = c.args.at in let x = get_or s at 0 in char-stuck c.requires.0 (settle-stuck M.chars [] x refl (unchosen 0x80 0xC1 (M.alts M.chars) x refl (omega arith) (omega arith)))

pub returns-then-b-le223 : goal.returns-then-b-le223
unfolding M.alts at clear gap M.nullable M.height M.weight
returns-then-b-le223 c = let s = c.args.s.now in let at = c.args.at in let x = get_or s at 0 in char-step (M.range M.tail ∷ []) refl c.requires.0 (settle-at M.chars [] 0xC2 0xDF 5 x refl (omega arith) (omega arith)) (c.one_of.ensures.of M.tail refl refl)

pub returns-then-b : goal.returns-then-b
unfolding M.alts at clear gap M.nullable M.height M.weight
returns-then-b c = let s = c.args.s.now in let at = c.args.at in let x = get_or s at 0 in char-step (M.range M.tail-E0 ∷ (M.range M.tail ∷ [])) refl c.requires.0 (settle-at M.chars [] 0xE0 0xE0 6 x refl (omega arith) (omega arith)) (c.two_of.ensures.of M.tail-E0 refl refl)

pub returns-then-b-2 : goal.returns-then-b-2
unfolding M.alts at clear gap M.nullable M.height M.weight
returns-then-b-2 c = let s = c.args.s.now in let at = c.args.at in let x = get_or s at 0 in char-step (M.range M.tail-ED ∷ (M.range M.tail ∷ [])) refl c.requires.0 (settle-at M.chars [] 0xED 0xED 8 x refl (omega arith) (omega arith)) (c.two_of-then-b-2.ensures.of M.tail-ED refl refl)

pub returns-then-b-le239 : goal.returns-then-b-le239
unfolding M.alts at clear gap M.nullable M.height M.weight
returns-then-b-le239 c = let s = c.args.s.now in let at = c.args.at in let x = get_or s at 0 in char-step (M.range M.tail ∷ (M.range M.tail ∷ [])) refl c.requires.0 (three-char x (omega arith) (omega arith) c.if-b-2.false) (c.two_of-then-b-le239.ensures.of M.tail refl refl)

pub returns-then-b-3 : goal.returns-then-b-3
unfolding M.alts at clear gap M.nullable M.height M.weight
returns-then-b-3 c = let s = c.args.s.now in let at = c.args.at in let x = get_or s at 0 in char-step (M.range M.tail-F0 ∷ (M.range M.tail ∷ (M.range M.tail ∷ []))) refl c.requires.0 (settle-at M.chars [] 0xF0 0xF0 10 x refl (omega arith) (omega arith)) (c.three_of.ensures.of M.tail-F0 refl refl)

pub returns-then-b-le243 : goal.returns-then-b-le243
unfolding M.alts at clear gap M.nullable M.height M.weight
returns-then-b-le243 c = let s = c.args.s.now in let at = c.args.at in let x = get_or s at 0 in char-step (M.range M.tail ∷ (M.range M.tail ∷ (M.range M.tail ∷ []))) refl c.requires.0 (settle-at M.chars [] 0xF1 0xF3 11 x refl (omega arith) (omega arith)) (c.three_of-then-b-le243.ensures.of M.tail refl refl)

pub returns-then-b-4 : goal.returns-then-b-4
unfolding M.alts at clear gap M.nullable M.height M.weight
returns-then-b-4 c = let s = c.args.s.now in let at = c.args.at in let x = get_or s at 0 in char-step (M.range M.tail-F4 ∷ (M.range M.tail ∷ (M.range M.tail ∷ []))) refl c.requires.0 (settle-at M.chars [] 0xF4 0xF4 12 x refl (omega arith) (omega arith)) (c.three_of-then-b-4.ensures.of M.tail-F4 refl refl)

pub returns : goal.returns
unfolding M.alts at clear gap M.nullable M.height M.weight
returns c = let s = c.args.s.now in let at = c.args.at in let x = get_or s at 0 in char-stuck c.requires.0 (settle-stuck M.chars [] x refl (unchosen 0xF5 0xFF (M.alts M.chars) x refl (omega arith) (omega (arith, c.shared_slice_known-2-1.given at))))
