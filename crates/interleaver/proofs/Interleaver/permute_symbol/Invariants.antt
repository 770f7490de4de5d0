use Rattle.words.specs.Words.{flags}
use Rattle.standard.specs.Modulations.{carrier_bits}
use Rattle.interleaver.specs.Steps.{from, to}
use Rattle.interleaver.proofs.Writing.{RunsTo}
use Rattle.interleaver.proofs.Interleaver.permute_symbol.Given as goal

abbrev pub invariant-loop-first : goal.invariant-loop-first
invariant-loop-first l = RunsTo l.self.subchannels (carrier_bits l.self.modulation) l.base l.first (from l.way l.self) (to l.way l.self) (flags l.word) (flags l.initial.out) (flags l.out)
