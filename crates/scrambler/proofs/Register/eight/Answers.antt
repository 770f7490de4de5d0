use Rattle.scrambler.proofs.Closed.{after_8, key_8}
use Rattle.scrambler.proofs.Register.eight.Goals as goal

pub returns-clause-key : goal.returns-clause-key
returns-clause-key c = cc (key_8 c.self.inside.stages)

pub returns-clause-register : goal.returns-clause-register
returns-clause-register c = cc (after_8 c.self.inside.stages)
