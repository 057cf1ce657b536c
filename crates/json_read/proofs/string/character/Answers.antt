-- `string::character` meets its contract. Assumes nothing.
use mathlib.Core.Path.{refl}
use mathlib.Core.List.{[], ◌∷◌}
use native.Mathlib.Omega.{arith}
use lib.ListN.{get_or}
use Rattle.json_grammar.specs.inner.Machine as M
use Rattle.json_grammar.proofs.Picks.{at, clear, gap, unchosen, settle-at, settle-stuck}
use Rattle.json_read.proofs.Characters.{char-step, char-plain, char-stuck, plain-char}
use Rattle.json_read.proofs.string.character.Goals as goal

pub returns-then-b-lt32 : goal.returns-then-b-lt32
unfolding M.alts at clear gap M.nullable M.height M.weight
returns-then-b-lt32 c = let s = c.args.s.now in let at = c.args.at in let x = get_or s at 0 in char-stuck c.requires.0 (settle-stuck M.chars [] x refl (unchosen 0 0x1F (M.alts M.chars) x refl (omega arith) (omega arith)))

pub returns-then-b-eq92 : goal.returns-then-b-eq92
unfolding M.alts at clear gap M.nullable M.height M.weight
returns-then-b-eq92 c = let s = c.args.s.now in let at = c.args.at in let x = get_or s at 0 in char-step (M.escape ∷ []) refl c.requires.0 (settle-at M.chars [] 0x5C 0x5C 3 x refl (omega arith) (omega arith)) c.escape.ensures

pub returns-then-b-le127 : goal.returns-then-b-le127
returns-then-b-le127 c = let s = c.args.s.now in let at = c.args.at in let x = get_or s at 0 in char-plain c.requires.0 (plain-char x (omega arith) (omega arith) c.requires.1 c.if-b-eq92.false)

pub returns : goal.returns
returns c = c.wide.ensures
