-- `entry::dtype_at` meets its contract. Assumes nothing.
use mathlib.Core.Path.{refl, sym, ◌∙◌}
use Rattle.weights.proofs.Entries.{no_place, past-text, no-string, a-string}
use Rattle.weights.proofs.entry.dtype_at.Goals as goal

pub returns-then-at-eq0 : goal.returns-then-at-eq0
returns-then-at-eq0 c = no_place c.args.h.now c.args.at c.if-at-eq0.true

pub returns-then-h-at : goal.returns-then-h-at
returns-then-h-at c = past-text c.args.h.now c.args.at c.if-at-eq0.false c.if-h-at.true

pub returns-then-h-at-ne34 : goal.returns-then-h-at-ne34
returns-then-h-at-ne34 c = no-string c.args.h.now c.args.at c.if-at-eq0.false c.if-h-at-ne34.true

pub returns-then-name_is : goal.returns-then-name_is
returns-then-name_is c = a-string c.args.h.now c.args.at c.if-at-eq0.false c.if-h-at-ne34.false _ (rw (sym c.name_is.ensures ∙ c.if-name_is.true) refl)

pub returns-then-name_is-2 : goal.returns-then-name_is-2
returns-then-name_is-2 c = a-string c.args.h.now c.args.at c.if-at-eq0.false c.if-h-at-ne34.false _ (rw (sym c.name_is.ensures ∙ c.if-name_is.false, sym c.name_is-2.ensures ∙ c.if-name_is-2.true) refl)

pub returns-then-name_is-3 : goal.returns-then-name_is-3
returns-then-name_is-3 c = a-string c.args.h.now c.args.at c.if-at-eq0.false c.if-h-at-ne34.false _ (rw (sym c.name_is.ensures ∙ c.if-name_is.false, sym c.name_is-2.ensures ∙ c.if-name_is-2.false, sym c.name_is-3.ensures ∙ c.if-name_is-3.true) refl)

pub returns : goal.returns
returns c = a-string c.args.h.now c.args.at c.if-at-eq0.false c.if-h-at-ne34.false _ (rw (sym c.name_is.ensures ∙ c.if-name_is.false, sym c.name_is-2.ensures ∙ c.if-name_is-2.false, sym c.name_is-3.ensures ∙ c.if-name_is-3.false) refl)
