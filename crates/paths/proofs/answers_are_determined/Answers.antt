use Rattle.paths.proofs.Ties.{one_answer}
use Rattle.paths.proofs.answers_are_determined.Goals as goal

pub returns : goal.returns
returns c = λ m old new other a b l f g. one_answer m old new other l a b f g
