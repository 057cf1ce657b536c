-- `text::replay` meets its contract: the counts so far and the lines that are left give the tally of the whole. Assumes nothing.
use Rattle.std.proofs.Common.{◌≡◌, ℕ, List, [], ◌∷◌, sym, ◌∙◌}
use Rattle.salvage_replay.specs.Record.{place_in, tally}
use Rattle.replay.specs.Counts.{bump}
use Rattle.replay.specs.Lines.{lines_left}
use Rattle.replay.proofs.Counted.{spent}
use Rattle.salvage_replay.proofs.text.replay.Goals as goal

-- one more line is counted
turn : (c : List ℕ) (p : ℕ) (l : List ℕ) (ls rest : List (List ℕ)) → ls ≡ l ∷ rest → p ≡ place_in l → tally c ls ≡ tally (bump c p) rest
unfolding tally
turn c p l ls rest first judged = rw (first, judged)

pub loop-line-preserved : goal.loop-line-preserved
loop-line-preserved c = (
  sym (turn c.loop-line.counts c.judge-i.result _ _ _ c.in-Some.ensures.steps.0 c.judge-i.ensures.0) ∙ c.loop-line.invariant.0,
  spent c.loop-line.counts c.judge-i.result _ _ _ c.loop-line.invariant.1 c.in-Some.ensures.steps.1,
)

pub returns : goal.returns
unfolding tally
returns c =
    let e : lines_left c.loop-line.line-iterator ≡ [] = c.in-None.ensures.steps in
    rw e at c.loop-line.invariant.0
