use mathlib.Core.Path.{◌≡◌}
use lib.ListN.{length}
use Rattle.words.specs.Words.{word, bits}
use Rattle.inner_code.specs.Inner.{x, y}
use Rattle.inner.proofs.Windows.{Carried, Holds}
use Rattle.inner.proofs.Outputs.of.Given as goal

abbrev pub invariant-loop-i : goal.invariant-loop-i
invariant-loop-i l =
    record {
      x_long : length l.xs ≡ 960;
      y_long : length l.ys ≡ 960;
      carried : Carried (word l.bytes) l.i l.window;
      x : Holds l.xs (x (bits (word l.bytes))) l.i;
      y : Holds l.ys (y (bits (word l.bytes))) l.i;
    }
