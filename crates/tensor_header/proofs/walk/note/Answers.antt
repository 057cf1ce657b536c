-- `walk::note` meets its contract. Assumes nothing.
use Rattle.tensor_header.proofs.walk.note.Goals as goal

pub note_each-requires : goal.note_each-requires
note_each-requires c = record { num_layers_bound = c.requires; rest_value = c.behind_layers.ensures }
