-- The coded bits that are heard.
-- Assumes nothing.
use Rattle.std.specs.Prelude.{◌*◌, List}
use Rattle.words.specs.Words.{Bits}
use Rattle.standard.specs.declared.order.Request.{Request}
use Rattle.standard.specs.declared.point.Point.{Point}
use Rattle.interleaver.specs.Interleaver.{Interleaved}
use Rattle.constellation.specs.Decisions.{Heard}
use Rattle.coder.specs.Sending.{band, profiled}

-- the coded bits that the points are decided to, de-interleaved
pub record Received (r : Request) (points : List Point) (coded : Bits) : Type 0 where
  pub order : Bits
  pub heard : Heard (profiled r).bits (192 * r.symbols) points order
  pub interleaved : Interleaved band (profiled r).bits r.symbols coded order
