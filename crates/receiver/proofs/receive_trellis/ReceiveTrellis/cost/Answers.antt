use Rattle.std.proofs.Common.{◌≡◌, slice_index, rules}
use Rattle.words.specs.Words.{digit, flags}
use Rattle.inner_words.specs.Receiving.{cost}
use Rattle.receiver.specs.declared.kinds.Heard.{Heard}
use Rattle.receiver.specs.Kinds.{heard_at, row_of}
use Rattle.receiver.proofs.receive_trellis.ReceiveTrellis.cost.Goals as goal

pub returns : goal.returns
unfolding cost heard_at
returns c =
    let h : Heard = heard_at c.args.self.now.period (flags c.args.self.now.heard.now) c.args.stage in
    let k : slice_index c.args.self.now.rows.now c.args.stage ≡ row_of h = c.args.self.now.kinded c.args.stage c.requires.early in
    let i : c.from.result ≡ row_of h = search rules in
    let d : c.from-2.result ≡ digit c.args.bit = search rules in
    rw (i, d) (c.args.self.now.costed h.x h.y c.args.register c.args.bit c.requires.low)
