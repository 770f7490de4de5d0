use Rattle.std.proofs.Common.{◌∙◌, sym}
use Rattle.standard.specs.Modulations.{carrier_bits}
use Rattle.standard.proofs.Modulations.{modulated}
use Rattle.interleaver.proofs.Laws.{placed_by, placed_plain}
use Rattle.interleaver.proofs.Interleaver.place.Goals as goal

pub returns-then-s-eq3-clause-value : goal.returns-then-s-eq3-clause-value
returns-then-s-eq3-clause-value c =
    let x = c.args.self in
    placed_by 3 c.width-w.result x.subchannels (carrier_bits x.modulation) c.args.k (sym c.if-s-eq3.true ∙ c.turn-s.ensures) c.width-w.ensures.value x.some (modulated x.modulation) c.requires.within

pub returns-then-s-eq2-clause-value : goal.returns-then-s-eq2-clause-value
returns-then-s-eq2-clause-value c =
    let x = c.args.self in
    placed_by 2 c.width-w.result x.subchannels (carrier_bits x.modulation) c.args.k (sym c.if-s-eq2.true ∙ c.turn-s.ensures) c.width-w.ensures.value x.some (modulated x.modulation) c.requires.within

pub returns-else-s-eq2-clause-value : goal.returns-else-s-eq2-clause-value
returns-else-s-eq2-clause-value c =
    let x = c.args.self in
    placed_plain c.turn-s.result c.width-w.result x.subchannels (carrier_bits x.modulation) c.args.k c.turn-s.ensures c.if-s-eq3.false c.if-s-eq2.false c.width-w.ensures.value x.some (modulated x.modulation) c.requires.within
