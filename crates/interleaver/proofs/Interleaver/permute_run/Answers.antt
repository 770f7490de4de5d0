use native.Mathlib.Omega.{arith}
use Prim.Native.Nat.{◌+◌, ◌*◌}
use Rattle.words.specs.Words.{flags}
use Rattle.standard.specs.Modulations.{carrier_bits}
use Rattle.interleaver.specs.Steps.{from, stride, to}
use Rattle.interleaver.proofs.Writing.{Moved, into_way, run_moved, run_more}
use Rattle.interleaver.proofs.Interleaver.permute_run.Goals as goal
use Rattle.interleaver.proofs.Interleaver.permute_run.Goals.{After-ends-from}

moved : (c : After-ends-from) → Moved c.args.way c.args.self c.loop-t.t (c.args.first + stride (carrier_bits c.args.self.modulation) * c.loop-t.t) c.ends-from.result.0 c.ends-from.result.1
moved c =
    run_moved c.args.way c.args.self c.args.first c.loop-t.t c.turn-s.result c.width.result c.place-j.result _ _ c.requires.start c.loop-t-test.true
    c.turn-s.ensures c.width.ensures.value c.place-j.ensures.value c.ends-from.ensures.from c.ends-from.ensures.to

pub overflow_add-out : goal.overflow_add-out
overflow_add-out c = let w = moved (goal.at.overflow_add-out c).After-ends-from in omega arith

pub bounds-word-base : goal.bounds-word-base
bounds-word-base c = let w = moved (goal.at.bounds-word-base c).After-ends-from in omega arith

pub overflow_add-out-in-loop-t : goal.overflow_add-out-in-loop-t
overflow_add-out-in-loop-t c = let w = moved (goal.at.overflow_add-out-in-loop-t c).After-ends-from in omega arith

pub bounds-out-base : goal.bounds-out-base
bounds-out-base c = let w = moved (goal.at.bounds-out-base c).After-ends-from in omega arith

pub loop-t-preserved : goal.loop-t-preserved
loop-t-preserved c =
    let x = c.args.self in
    let w = moved (goal.at.loop-t-preserved c).After-ends-from in
    run_more x.subchannels (carrier_bits x.modulation) c.args.base c.args.first c.loop-t.t (from c.args.way x) (to c.args.way x) (flags c.args.word.now) (flags c.args.out.now) c.loop-t.out
    c.requires.start w.one (omega arith) (into_way c.args.way x) c.loop-t.invariant c.ends-from.result.0 c.ends-from.result.1 w.read w.written
