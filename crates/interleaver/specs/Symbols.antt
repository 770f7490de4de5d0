-- The symbols of an interleaver.
-- Assumes nothing.
use Rattle.std.specs.Prelude.{ℕ}
use Rattle.standard.specs.Modulations.{carrier_bits}
use Rattle.interleaver.specs.declared.Interleaver.{Interleaver}
use Rattle.interleaver.specs.Interleaver.{size}

-- how many bits a symbol has
abbrev pub symbol : Interleaver → ℕ
symbol x = size x.subchannels (carrier_bits x.modulation)
