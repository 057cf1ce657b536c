-- Any two results that satisfy the contract of a public function are equal. Assumes nothing.
use Rattle.std.proofs.Common.{◌≡◌, ℕ, ◌≤◌, Bool, List, length}
use lib.Ieee.{Float}
use Rattle.replay.specs.Damage.{damaged}
use Rattle.replay.specs.Hash.{byte_hash, float_hash}
use Rattle.buffers.specs.Region.{over}
use Rattle.replay.specs.Pieces.{piece_len}
use Rattle.replay.specs.Line.{read_of}
use Rattle.replay.specs.declared.line.Lines.{Lines}
use Rattle.replay.specs.Lines.{bytes_left}
use Rattle.replay.specs.Marks.{seeded, bytes, floats, units}
use Rattle.number_floats.proofs.Unique.{one}

pub damage-unique : (cells : List Float) (code place : ℕ) (cells' cells'' : List Float) → cells' ≡ damaged cells code place → cells'' ≡ damaged cells code place → cells' ≡ cells''
damage-unique cells code place cells' cells'' = one _

pub hash-bytes-unique : (s : List ℕ) (r r' : ℕ) → r ≡ byte_hash s → r' ≡ byte_hash s → r ≡ r'
hash-bytes-unique s r r' = one _

pub hash-floats-unique : (s : List Float) (r r' : ℕ) → r ≡ float_hash s → r' ≡ float_hash s → r ≡ r'
hash-floats-unique s r r' = one _

pub piece-len-unique : (text : List ℕ) (stop : ℕ) (r r' : ℕ) → (r ≡ piece_len stop text) × (r ≤ length text) → (r' ≡ piece_len stop text) × (r' ≤ length text) → r ≡ r'
piece-len-unique text stop r r' a b = one _ a.0 b.0

abbrev pub ReadsLine : List ℕ → List ℕ → Bool → List ℕ → Type 0
ReadsLine line to r to' =
    (r ≡ (read_of (length to) line).whole)
    × (to' ≡ over (read_of (length to) line).list to)

pub read-line-unique : (line to : List ℕ) (r r' : Bool) (to' to'' : List ℕ) → ReadsLine line to r to' → ReadsLine line to r' to'' → (r ≡ r') × (to' ≡ to'')
read-line-unique line to r r' to' to'' a b = (one _ a.0 b.0, one _ a.1 b.1)

pub fill-bytes-unique : (seed : ℕ) (to : List ℕ) (to' to'' : List ℕ) → to' ≡ bytes (seeded seed) (length to) → to'' ≡ bytes (seeded seed) (length to) → to' ≡ to''
fill-bytes-unique seed to to' to'' = one _

pub fill-floats-unique : (seed : ℕ) (to : List Float) (to' to'' : List Float) → to' ≡ floats (seeded seed) (length to) → to'' ≡ floats (seeded seed) (length to) → to' ≡ to''
fill-floats-unique seed to to' to'' = one _

pub fill-units-unique : (seed : ℕ) (to : List Float) (to' to'' : List Float) → to' ≡ units (seeded seed) (length to) → to'' ≡ units (seeded seed) (length to) → to' ≡ to''
fill-units-unique seed to to' to'' = one _

-- an iterator over lines is known by the bytes that it has left
pub lines-of-unique : (text : List ℕ) (a b : Lines) → bytes_left a ≡ text → bytes_left b ≡ text → bytes_left a ≡ bytes_left b
lines-of-unique text a b = one _
