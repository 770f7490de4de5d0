use Rattle.words.proofs.Bridge.{bits_bytes, bytes_bits}
use Rattle.words.proofs.bytes_are_bits.Goals as goal

pub returns : goal.returns
returns c = record { packed = bits_bytes; unpacked = bytes_bits }
