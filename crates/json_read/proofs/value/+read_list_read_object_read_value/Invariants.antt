-- A list and an object with d levels left inside count one more than a value with d.
use Rattle.std.proofs.Common.{◌≡◌, [], ◌∷◌, ◌+◌, ◌-◌, ◌≤◌, length, drop}
use Rattle.json_grammar.specs.inner.Machine as M
use Rattle.json_read.proofs.value.+read_list_read_object_read_value.Given as goal

abbrev pub decreases-read_list : goal.decreases-read_list
decreases-read_list l = l.d + l.d + 1

abbrev pub decreases-read_object : goal.decreases-read_object
decreases-read_object l = l.d + l.d + 1

abbrev pub decreases-read_value : goal.decreases-read_value
decreases-read_value l = l.d + l.d

abbrev pub invariant-read_list-loop-n : goal.invariant-read_list-loop-n
invariant-read_list-loop-n l = (l.at ≤ l.i) × (l.i ≤ l.at + (length l.s - l.at)) × (M.go (l.d + 1) (M.first ∷ []) (drop l.at l.s) ≡ M.go (l.d + 1) (M.value ∷ (M.rest ∷ [])) (drop l.i l.s))

abbrev pub decreases-read_list-loop-n : goal.decreases-read_list-loop-n
decreases-read_list-loop-n l = length l.s - l.i

abbrev pub invariant-read_object-loop-k : goal.invariant-read_object-loop-k
invariant-read_object-loop-k l = (l.at ≤ l.i) × (l.i ≤ l.at + (length l.s - l.at)) × (M.go (l.d + 1) (M.first_member ∷ []) (drop l.at l.s) ≡ M.go (l.d + 1) (M.key ∷ (M.colon ∷ (M.value ∷ (M.rest-member ∷ [])))) (drop l.i l.s))

abbrev pub decreases-read_object-loop-k : goal.decreases-read_object-loop-k
decreases-read_object-loop-k l = length l.s - l.i
