-- `header_length` meets its contract. Assumes nothing.
use mathlib.Core.Path.{sym}
use Rattle.tensor_header.proofs.Listed.{eight-bytes}
use Rattle.tensor_header.proofs.header_length.Goals as goal

pub returns : goal.returns
returns c = rw (c.byte.ensures.0, c.byte-2.ensures.0, c.byte-3.ensures.0, c.byte-4.ensures.0, c.byte-5.ensures.0, c.byte-6.ensures.0, c.byte-7.ensures.0, c.byte-8.ensures.0) (sym (eight-bytes c.args.file.now c.requires))
