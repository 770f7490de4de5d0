use Rattle.inner_words.proofs.Words.{nearest_unique, coded_injective, nearest_clean}
use Rattle.inner_words.proofs.nearest_word_is_one.Goals as goal

pub returns : goal.returns
returns c = record { unique = nearest_unique; injective = coded_injective; clean = nearest_clean }
