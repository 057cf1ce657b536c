-- `read_sizes` meets its contract. Assumes nothing.
use mathlib.Core.Path.{◌≡◌, sym, ap, ◌∙◌}
use lib.ListN.{drop}
use Rattle.json_lists.specs.Lists.{product, held, sums_of, said_of}
use Rattle.json_lists.specs.inner.Bytes.{opened, numbers_at}
use Rattle.json_lists.proofs.Turns.{list-end, list-other, list-opened, opened-end, opened-closed, opened-number}
use Rattle.json_lists.proofs.read_sizes.Goals as goal

pub returns-then-s-at : goal.returns-then-s-at
unfolding said_of
returns-then-s-at c = sym (ap said_of (list-end _ _ c.if-s-at.true))

pub returns-then-s-at-ne91 : goal.returns-then-s-at-ne91
unfolding said_of
returns-then-s-at-ne91 c = sym (ap said_of (list-other _ _ c.if-s-at.false c.if-s-at-ne91.true))

pub returns-then-s-i : goal.returns-then-s-i
unfolding said_of
returns-then-s-i c =
    let inside : numbers_at (drop c.args.at c.args.s.now) ≡ opened (drop c.blank-i.result c.args.s.now) = list-opened _ _ c.if-s-at.false c.if-s-at-ne91.false c.blank-i.ensures in
    sym (ap said_of (inside ∙ opened-end _ _ c.if-s-i.true))

pub returns-then-s-i-eq93 : goal.returns-then-s-i-eq93
unfolding said_of sums_of product held
returns-then-s-i-eq93 c =
    let inside : numbers_at (drop c.args.at c.args.s.now) ≡ opened (drop c.blank-i.result c.args.s.now) = list-opened _ _ c.if-s-at.false c.if-s-at-ne91.false c.blank-i.ensures in
    sym (ap said_of (inside ∙ opened-closed _ _ c.if-s-i.false c.if-s-i-eq93.true))

pub returns : goal.returns
returns c =
    let inside : numbers_at (drop c.args.at c.args.s.now) ≡ opened (drop c.blank-i.result c.args.s.now) = list-opened _ _ c.if-s-at.false c.if-s-at-ne91.false c.blank-i.ensures in
    c.numbers_from.ensures ∙ sym (ap said_of (inside ∙ opened-number _ _ c.if-s-i.false c.if-s-i-eq93.false))
