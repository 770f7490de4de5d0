use Rattle.interleaver.proofs.Laws.{permutation}
use Rattle.interleaver.proofs.interleaving_permutes.Goals as goal

pub returns : goal.returns
returns c = permutation
