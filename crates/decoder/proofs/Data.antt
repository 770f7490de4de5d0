-- From the bytes of the nearest inner word to what decoding answers.
-- Assumes nothing.
use Rattle.std.proofs.Common.{◌≡◌, ℕ, ◌+◌, ◌-◌, ◌*◌, ◌/◌, ◌%◌, ◌<◌, ◌≤◌, List, get_or, sym, ap, ◌∙◌, subst, mod-lt, mul_comm, mul-le-mul_left, mul-suc, arith}
use Rattle.words.specs.Words.{Bytes, bytes}
use Rattle.words.proofs.Bridge.{get_or_listed, listed_same}
use Rattle.standard.specs.declared.order.Request.{Request}
use Rattle.standard.specs.declared.point.Point.{Point}
use Rattle.standard.specs.Profiles.{Fitting}
use Rattle.standard.specs.Refusals.{capacity}
use Rattle.scrambler.specs.Scrambler.{start, scrambled}
use Rattle.scrambler.proofs.Keys.{scrambled_same}
use Rattle.outer_theory.specs.Syndromes.{differing}
use Rattle.coder.specs.Sending.{profiled}
use Rattle.decoder.specs.Taken.{Taken}
use Rattle.decoder.specs.Blocks.{nth, messages, BlocksTaken, NoBlock}
use Rattle.decoder.specs.Receiving.{block, message_of, Data, Broken}
use Rattle.decoder.specs.Steps.{Bytewise}
use Rattle.decoder.proofs.Taking.{total_same}

module _ (r : Request) (points : List Point) (fits : Fitting (profiled r)) (old : Bytes) (wrong : ℕ) (b : Bytewise r points old wrong) where
  -- the received blocks are those of the inner word's bytes
  same_block : (k : ℕ) → k < r.symbols → nth r old k ≡ block r b.word k
  same_block k h =
      listed_same (profiled r).block (λ i. old ((profiled r).block * k + i)) (λ i. bytes b.word ((profiled r).block * k + i))
      (λ i l. b.bytes_are ((profiled r).block * k + i) (let a = mul-le-mul_left (profiled r).block h in let s = mul-suc (profiled r).block k in let c = mul_comm (profiled r).block r.symbols in omega arith))

  pub broken : (number : ℕ) → NoBlock r old number → Broken r points number
  broken number n =
      record {
        heard = b.heard;
        word = b.word;
        inner = b.inner;
        some = n.some;
        within = n.within;
        none = λ w t. n.none w (subst (λ (v : List ℕ). Taken r (number - 1) v w) (sym (same_block (number - 1) (let s = n.some in let t = n.within in omega arith))) t);
        before = λ k h. ((n.before k h).0, subst (λ (v : List ℕ). Taken r k v (n.before k h).0) (same_block k (let t = n.within in omega arith)) (n.before k h).1);
      }

  module _ (new : Bytes) (sum : ℕ) (t : BlocksTaken r r.symbols old new sum) where
    words : ℕ → List ℕ
    words k = nth r new k

    -- a message byte of the corrected blocks
    byte_is : (i : ℕ) → messages (profiled r).message (profiled r).limit new i ≡ message_of r words i
    unfolding messages words
    byte_is i =
        let some : 0 < (profiled r).message = omega (arith, fits.some) in
        let m = mod-lt i some in
        let p = fits.parity in
        ap (λ (x : ℕ). new (x * (i / (profiled r).message) + (2 * (profiled r).limit + i % (profiled r).message))) (sym fits.parity)
        ∙ sym (get_or_listed (profiled r).block (λ k. new ((profiled r).block * (i / (profiled r).message) + k)) (2 * (profiled r).limit + i % (profiled r).message) (omega arith))

    pub decoded : (before after : List ℕ) → ((i : ℕ) → i < capacity r.rate r.symbols → get_or after i 0 ≡ scrambled (start r.bsid r.uiuc r.frame) (messages (profiled r).message (profiled r).limit new) i)
        → ((i : ℕ) → capacity r.rate r.symbols ≤ i → get_or after i 0 ≡ get_or before i 0) → Data r points before after wrong sum
    unfolding words
    decoded before after written past =
        record {
          heard = b.heard;
          word = b.word;
          inner = b.inner;
          words = words;
          taken = λ k h. subst (λ (v : List ℕ). Taken r k v (nth r new k)) (same_block k h) (t.taken k h);
          wrong_is = b.wrong_is;
          corrected_is = t.summed ∙ total_same r r.symbols (λ k. differing (nth r old k) (nth r new k)) (λ k. differing (block r b.word k) (nth r new k)) (λ k h. ap (λ (v : List ℕ). differing v (nth r new k)) (same_block k h));
          written = λ i h. written i h ∙ scrambled_same (start r.bsid r.uiuc r.frame) (messages (profiled r).message (profiled r).limit new) (message_of r words) (capacity r.rate r.symbols) (λ k l. byte_is k) i h;
          past = past;
        }
