-- A burst's bytes in blocks: every size bytes become a block of 2 * limit + size.
-- Assumes nothing.
use Rattle.std.specs.Prelude.{ℕ, ◌+◌, ◌*◌, ◌/◌, ◌%◌, List, ◌++◌, take, slice_index}
use Rattle.words.specs.Words.{Bytes, part}
use Rattle.outer_code.specs.Parity.{parity_of}

-- the block that is sent for a message: the first 2 * limit bytes of its parity, then the message
unfoldable pub block_of : ℕ → List ℕ → List ℕ
block_of limit d = take (2 * limit) (parity_of d) ++ d

-- the blocks one after another: byte i is in block i / (2 * limit + size), which holds the size bytes of that number
unfoldable pub blocks : ℕ → ℕ → Bytes → Bytes
blocks size limit w i = slice_index (block_of limit (part size (size * (i / (2 * limit + size))) w)) (i % (2 * limit + size))
