-- What the steps of receiving answer.
-- Assumes nothing.
use Rattle.std.specs.Prelude.{◌≡◌, ℕ, ◌*◌, ◌<◌, ◌⊎◌, List, Some, None, Ok, Err, Result}
use Rattle.words.specs.Words.{Bits, Bytes, bytes}
use Rattle.standard.specs.declared.order.Request.{Request}
use Rattle.standard.specs.declared.point.Point.{Point}
use Rattle.standard.specs.declared.refusal.Refusal.{Refusal}
use Rattle.standard.specs.Refusals.{first}
use Rattle.trellis.specs.Search.{search_rows}
use Rattle.coder.specs.Sending.{profiled}
use Rattle.decoder.specs.declared.report.Report.{Report}
use Rattle.decoder.specs.Receiving.{Inner, Data, Untaken, wrong_count}

-- the bytes of the nearest inner word, and its wrong bits
pub record Bytewise (r : Request) (points : List Point) (w : Bytes) (wrong : ℕ) : Type 0 where
  pub heard : Bits
  pub word : Bits
  pub inner : Inner r points heard word
  pub bytes_are : (i : ℕ) → i < r.symbols * (profiled r).block → w i ≡ bytes word i
  pub wrong_is : wrong ≡ wrong_count r heard word

-- what decoding answers of an order whose points and output have their lengths
abbrev pub Answers : Request → List Point → ℕ → List ℕ → List ℕ → Result Report Refusal → Type 0
Answers r points words old new (Ok report) = (first (search_rows words) ≡ None) × Data r points old new report.wrong_bits report.corrected_bytes
Answers r points words old new (Err e) = (new ≡ old) × ((first (search_rows words) ≡ Some e) ⊎ ((first (search_rows words) ≡ None) × Untaken r points e))
