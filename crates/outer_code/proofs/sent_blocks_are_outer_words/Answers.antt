use Rattle.outer_code.proofs.Blocks.{blocks_outer}
use Rattle.outer_code.proofs.sent_blocks_are_outer_words.Goals as goal

pub returns : goal.returns
returns c = λ size limit some hs few w bytes b. blocks_outer size limit some hs few w bytes b
