-- `decimal::read_decimal` meets its contract: what the digits read so far stand for, n, and those that are left stand for the whole.
-- Assumes nothing.
use Rattle.std.proofs.Common.{◌≡◌, ℕ, ◌+◌, ◌<◌, ◌≤◌, Option, Some, None, List, [], ◌∷◌, length, get_or, drop, sym, ◌∙◌, add-one, arith, drop_of_length-le, drop-cons, rules}
use Rattle.replay.specs.Decimal.{push, onward, number_from, number_of}
use Rattle.replay.proofs.decimal.read_decimal.Goals as goal

some : (s : List ℕ) → (length s ≡ 0 → ⊥) → number_of s ≡ number_from s 0
unfolding number_of
some [] h = absurd (h (search rules))
some (b ∷ bs) h = search rules

-- the next byte
next : (s : List ℕ) (n i : ℕ) (r : Option ℕ) → i < length s → r ≡ push n (get_or s i 0) → number_from (drop i s) n ≡ onward r (number_from (drop (i + 1) s))
unfolding number_from
next s n i r h e = rw (add-one i, drop-cons s i 0, e)

none : (s : List ℕ) → length s ≡ 0 → number_of s ≡ None
unfolding number_of
none [] e = search rules
none (b ∷ bs) e = absurd (omega arith)

pub returns-then-is_empty : goal.returns-then-is_empty
returns-then-is_empty c =
    let h : length c.args.s.now ≡ 0 = search rules in
    sym (none _ h)

pub loop-b-init : goal.loop-b-init
loop-b-init c =
    let h : length c.args.s.now ≡ 0 → ⊥ = search rules in
    some _ h

pub returns-in_err-n : goal.returns-in_err-n
unfolding onward
returns-in_err-n c =
    let s = c.args.s.now in
    let h : c.loop-b.b-index < length s = omega arith in
    c.from_residual.ensures ∙ sym (c.loop-b.invariant ∙ next s c.loop-b.n c.loop-b.b-index c.pushed.result h c.pushed.ensures ∙ rw c.in_err-n.was)

pub loop-b-preserved : goal.loop-b-preserved
unfolding onward
loop-b-preserved c =
    let s = c.args.s.now in
    let h : c.loop-b.b-index < length s = omega arith in
    c.loop-b.invariant ∙ next s c.loop-b.n c.loop-b.b-index c.pushed.result h c.pushed.ensures ∙ rw c.in_ok-n.was

pub returns : goal.returns
unfolding number_from
returns c =
    let s = c.args.s.now in
    let h : length s ≤ c.loop-b.b-index = omega arith in
    sym (c.loop-b.invariant ∙ rw (drop_of_length-le s {i = c.loop-b.b-index} h))
