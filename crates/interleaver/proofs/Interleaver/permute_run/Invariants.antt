use Rattle.words.specs.Words.{flags}
use Rattle.standard.specs.Modulations.{carrier_bits}
use Rattle.interleaver.specs.Steps.{from, to}
use Rattle.interleaver.proofs.Writing.{RunTo}
use Rattle.interleaver.proofs.Interleaver.permute_run.Given as goal

abbrev pub invariant-loop-t : goal.invariant-loop-t
invariant-loop-t l = RunTo l.fn.self.subchannels (carrier_bits l.fn.self.modulation) l.base l.first l.t (from l.way l.fn.self) (to l.way l.fn.self) (flags l.word) (flags l.initial.out) (flags l.out)
