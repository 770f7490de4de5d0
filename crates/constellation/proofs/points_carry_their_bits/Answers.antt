use Rattle.constellation.proofs.Mapping.{carried}
use Rattle.constellation.proofs.points_carry_their_bits.Goals as goal

pub returns : goal.returns
returns c = carried
