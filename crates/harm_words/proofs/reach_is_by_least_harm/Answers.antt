use Rattle.harm_words.proofs.Reaches.{reach_is}
use Rattle.harm_words.proofs.reach_is_by_least_harm.Goals as goal

pub returns : goal.returns
returns c = reach_is
