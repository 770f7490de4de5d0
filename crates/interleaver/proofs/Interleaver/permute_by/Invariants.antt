use Rattle.words.specs.Words.{flags}
use Rattle.standard.specs.Modulations.{carrier_bits}
use Rattle.interleaver.specs.Steps.{Symbols, from, to}
use Rattle.interleaver.proofs.Interleaver.permute_by.Given as goal

abbrev pub invariant-loop-b : goal.invariant-loop-b
invariant-loop-b l = Symbols l.self.subchannels (carrier_bits l.self.modulation) l.b (from l.way l.self) (to l.way l.self) (flags l.word) (flags l.initial.out) (flags l.out)
