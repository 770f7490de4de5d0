use Rattle.inner_words.proofs.Receiving as receiving
use Rattle.inner_words.proofs.Laws as laws
use Rattle.inner_words.proofs.receive_trellis_stands.Goals as goal

pub returns : goal.returns
returns c = record {
  lawful = laws.lawful;
  opens = receiving.arrives;
  closed = λ p n heard u. receiving.only p n heard u n;
  tie = receiving.tie;
  nearest = receiving.nearest;
  reachable = receiving.never_unreachable;
}
