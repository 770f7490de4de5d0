use Rattle.outer_theory.proofs.Iff.{outer_syndromes, syndromes_outer}
use Rattle.outer_theory.proofs.outer_words_have_no_syndromes.Goals as goal

pub returns : goal.returns
returns c = record { vanish = outer_syndromes; only = syndromes_outer }
