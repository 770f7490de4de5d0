-- Worked cases of the rules, as one statement.
-- Assumes nothing.
use Rattle.std.specs.Prelude.{◌≡◌, ℕ, zero, suc, Bool, true, false, List, [], ◌∷◌, pos, negsuc, Some, None, slice_index_or}
use Rattle.words.specs.Words.{Bits, bits, bytes, listed, ones, word}
use Rattle.standard.specs.declared.order.Request.{Request}
use Rattle.standard.specs.declared.refusal.Refusal.TheVariants.{DataLength}
use Rattle.standard.specs.Refusals.{first, number, encode_rows}
use Rattle.scrambler.specs.Scrambler.{start, scrambled}
use Rattle.inner_code.specs.Inner.{coded}
use Rattle.interleaver.specs.Interleaver.{spread, place}
use Rattle.constellation.specs.Constellation.{point}
use Rattle.constellation.specs.Decisions.{DecisionCases}

-- the first n bits as a list
abbrev pub firsts : ℕ → Bits → List Bool
firsts zero a = []
firsts (suc n) a = a 0 ∷ firsts n (λ k. a (suc k))

abbrev asking : ℕ → ℕ → Request
asking rate n = record { rate = rate; bsid = 1; uiuc = 7; frame = 1; symbols = n }

pub record Cases : Type 0 where
  -- station 1, usage 7, frame 1: the stages, and 45 29 becomes D4 BA
  pub stages : start 1 7 1 ≡ 0b000111011110001
  pub scrambling : listed 2 (scrambled (start 1 7 1) (word (0x45 ∷ 0x29 ∷ []))) ≡ 0xD4 ∷ 0xBA ∷ []
  -- 80 00 at inner rate 1/2 is EF 1C 00 00, ten ones
  pub half : listed 4 (bytes (coded 1 (bits (word (0x80 ∷ 0x00 ∷ []))))) ≡ 0xEF ∷ 0x1C ∷ 0x00 ∷ 0x00 ∷ []
  pub weight : ones 32 (coded 1 (bits (word (0x80 ∷ 0x00 ∷ [])))) ≡ 10
  -- 49 at 5/6 begins 001110
  pub five_sixths : firsts 6 (coded 5 (bits (word (0x49 ∷ [])))) ≡ false ∷ false ∷ true ∷ true ∷ true ∷ false ∷ []
  -- whole band, 16-QAM: coded bit 1 goes to m = 64 and j = 65
  pub spreads : spread 16 4 1 ≡ 64
  pub goes : place 16 4 1 ≡ 65
  -- 011101 in 64-QAM is 1,792 and -256
  pub mapped : point 6 (λ k. slice_index_or (false ∷ true ∷ true ∷ true ∷ false ∷ true ∷ []) k false) 0 ≡ record { i = pos 1792; q = negsuc 255 }
  -- 16-QAM axes 0, 512, -512 and -513 are decided to 00, 01, 10 and 11
  pub decided : DecisionCases
  -- rate 2, one symbol: 35 bytes are accepted, and 36 are refused with 4
  pub fits : first (encode_rows (asking 2 1) 35 192) ≡ None
  pub too_long : first (encode_rows (asking 2 1) 36 192) ≡ Some DataLength
  -- rate 6, eight symbols: 863 and 864
  pub fits_all : first (encode_rows (asking 6 8) 863 1536) ≡ None
  pub too_long_for_all : first (encode_rows (asking 6 8) 864 1536) ≡ Some DataLength
  pub told : number DataLength ≡ 4
