use Rattle.inner_code.proofs.Coding.{coded_plus, ones_coded}
use Rattle.inner_code.proofs.coding_is_linear.Goals as goal

pub returns : goal.returns
returns c = record { linear = coded_plus; apart = ones_coded }
