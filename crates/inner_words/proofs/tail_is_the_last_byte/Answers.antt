use Rattle.inner_words.proofs.Words.{tailed_byte}
use Rattle.inner_words.proofs.tail_is_the_last_byte.Goals as goal

pub returns-clause-of_bits : goal.returns-clause-of_bits
returns-clause-of_bits c = tailed_byte
