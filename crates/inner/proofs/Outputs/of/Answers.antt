use native.Mathlib.Omega.{arith}
use Prim.Native.Nat.{◌<◌}
use lib.ListN.{get_or, length-set}
use mathlib.Core.Path.{◌∙◌, refl}
use Rattle.words.specs.Words.{word}
use Rattle.inner.proofs.Windows.{carried_start, carried_more, x_more, y_more}
use borrow.Author.Rules.{rules}
use Rattle.inner.proofs.Outputs.of.Goals as goal

pub loop-i-init : goal.loop-i-init
loop-i-init c = record { x_long = refl; y_long = refl; carried = carried_start (word c.args.bytes.now); x = λ k l. absurd (omega arith); y = λ k l. absurd (omega arith) }

pub loop-i-preserved : goal.loop-i-preserved
loop-i-preserved c =
    let bytes = word c.args.bytes.now in
    let small : get_or c.args.bytes.now c.loop-i.i 0 < 256 = search rules in
    let before = c.loop-i.invariant in
    let outputs = c.window_outputs in
    record {
      x_long = length-set c.loop-i.xs c.loop-i.i outputs.result.0 ∙ before.x_long;
      y_long = length-set c.loop-i.ys c.loop-i.i outputs.result.1 ∙ before.y_long;
      carried = carried_more bytes c.loop-i.i c.loop-i.window small;
      x = x_more bytes c.loop-i.xs c.loop-i.i c.loop-i.window outputs.result.0 small before.carried (omega arith) outputs.ensures.x before.x;
      y = y_more bytes c.loop-i.ys c.loop-i.i c.loop-i.window outputs.result.1 small before.carried (omega arith) outputs.ensures.y before.y;
    }
