use Rattle.outer_theory.proofs.Iff.{only_one}
use Rattle.outer_theory.proofs.near_outer_words_are_equal.Goals as goal

pub returns : goal.returns
returns c = only_one
