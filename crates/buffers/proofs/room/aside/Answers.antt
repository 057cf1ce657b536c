-- `buffers::room::aside` meets its contract. Assumes nothing.
use Rattle.buffers.proofs.room.aside.Goals as goal

pub returns : goal.returns
returns c = cc
