-- What holds of every burst sent.
-- Assumes nothing.
use Rattle.std.proofs.Common.{◌≡◌, ℕ, ◌+◌, ◌*◌, ◌/◌, ◌%◌, ◌<◌, Bool, true, false, cond, ltb, List, None, sym, ap, ◌∙◌, subst, ap₂, add-zero, mod-eq_of_lt, arith}
use native.Mathlib.Nat.{mul-add-div, mul-add-mod_self_left, div-eq_of_lt}
use Rattle.words.specs.Words.{part}
use Rattle.standard.specs.declared.order.Request.{Request}
use Rattle.standard.specs.Profiles.{Modulation, Fitting}
use Rattle.standard.specs.Refusals.{first, request_rows, capacity}
use Rattle.standard.proofs.Fits.{profiles_fit}
use Rattle.standard.proofs.Bounds.{bounded}
use Rattle.scrambler.specs.Scrambler.{start, scrambled}
use Rattle.scrambler.proofs.Keys.{scrambled_lt}
use Rattle.outer_code.specs.Outer.{Outer}
use Rattle.outer_code.specs.Blocks.{blocks}
use Rattle.outer_code.proofs.Blocks.{blocks_outer}
use Rattle.interleaver.specs.Interleaver.{Interleaved, place, source}
use Rattle.interleaver.proofs.Laws.{permutation}
use Rattle.interleaver.proofs.Permutation.{parts, size_pos}
use Rattle.constellation.proofs.Mapping.{carried}
use Rattle.coder.specs.Sending.{band, profiled, filled, message, protected, coded_bits, symbol_bits, sent, Lawful}

-- every byte that the outer code protects is a byte
pub message_lt : (r : Request) (d : List ℕ) (i : ℕ) → message r d i < 256
unfolding message
message_lt r d i = either (ltb i (capacity r.rate r.symbols))
  where
    either : (b : Bool) → cond b (scrambled (start r.bsid r.uiuc r.frame) (filled d) i) 0 < 256
    either true = scrambled_lt (start r.bsid r.uiuc r.frame) (filled d) i
    either false = omega arith

-- a place in a symbol
pub in_symbol : (s b k : ℕ) → 0 < s → k < s → ((s * b + k) / s ≡ b) × ((s * b + k) % s ≡ k)
in_symbol s b k p h = (mul-add-div p b k ∙ ap (λ (x : ℕ). b + x) (div-eq_of_lt h) ∙ add-zero b, mul-add-mod_self_left s b k ∙ mod-eq_of_lt h)

module _ (r : Request) (d : List ℕ) (m : Modulation (profiled r).bits) where
  pub symbol_pos : 0 < symbol_bits r
  symbol_pos = size_pos band (profiled r).bits (parts (profiled r).bits m) (omega arith)

  pub sent_goes : Interleaved band (profiled r).bits r.symbols (coded_bits r d) (sent r d)
  unfolding sent
  sent_goes =
      record {
        goes = λ b k hb hk.
            let at = in_symbol (symbol_bits r) b (place band (profiled r).bits k) symbol_pos (permutation.below band (profiled r).bits k (omega arith) m hk) in
            ap₂ (λ (x y : ℕ). coded_bits r d (symbol_bits r * x + source band (profiled r).bits y)) at.0 at.1
            ∙ ap (λ (x : ℕ). coded_bits r d (symbol_bits r * b + x)) (permutation.there_back band (profiled r).bits k (omega arith) m hk);
      }

words : (r : Request) (d : List ℕ) → Fitting (profiled r) → (b : ℕ) → Outer (profiled r).message (profiled r).limit (part (profiled r).block ((profiled r).block * b) (protected r d))
unfolding protected
words r d f b =
    subst (λ (n : ℕ). Outer (profiled r).message (profiled r).limit (part n (n * b) (blocks (profiled r).message (profiled r).limit (message r d)))) (sym f.parity)
    (blocks_outer (profiled r).message (profiled r).limit (omega arith) (omega arith) f.correctable (message r d) (message_lt r d) b)

pub lawful : (r : Request) (d : List ℕ) → first (request_rows r) ≡ None → Lawful r d
lawful r d h =
    let f = profiles_fit r.rate (bounded r h).rate in
    record {
      words = λ b l. words r d f b;
      interleaved = sent_goes r d f.modulation;
      in_range = λ t. (carried.i_within (profiled r).bits (sent r d) t f.modulation, carried.q_within (profiled r).bits (sent r d) t f.modulation);
    }
