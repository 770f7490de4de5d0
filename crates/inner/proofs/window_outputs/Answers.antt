use Rattle.inner.proofs.Windows.{x_window, y_window}
use Rattle.inner.proofs.window_outputs.Goals as goal

pub returns : goal.returns
returns c = record { x = x_window c.args.window; y = y_window c.args.window }
