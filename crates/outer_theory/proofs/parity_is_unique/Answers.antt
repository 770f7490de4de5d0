use Rattle.outer_theory.proofs.Iff.{outer_parity, outer_length, outer_bytes}
use Rattle.outer_theory.proofs.parity_is_unique.Goals as goal

pub returns : goal.returns
returns c size limit hl hs w o = outer_parity size limit hl hs w (outer_length size limit hl hs w o) (outer_bytes size limit hl hs w o) o
