use Rattle.std.proofs.Common.{sym, refl, inr}
use Rattle.std.proofs.lemmas.Result.{err_from_is_err_and}
use Rattle.words.specs.Words.{word}
use Rattle.standard.specs.Refusals.{asked}
use Rattle.coder.proofs.Steps.{fitting}
use Rattle.decoder.proofs.Data.{broken, decoded}
use Rattle.decoder.proofs.received.Received.decode.Goals as goal

pub returns : goal.returns
returns c =
    let o = c.args.self.now.order in (
      sym c.in_ok-wrong_bits.ensures.answer,
      decoded (asked o) c.args.self.now.points.now (fitting o) (word c.receive_bytes.new.bytes) c.in_ok-wrong_bits.wrong_bits c.in_ok-wrong_bits.ensures.received
          (word c.take.new.self.bytes) c.in_ok-corrected_bytes.corrected_bytes c.in_ok-corrected_bytes.ensures.taken c.args.out.now c.write_data.new.out
          (rw c.take.ensures.order at c.write_data.ensures.written) (rw c.take.ensures.order at c.write_data.ensures.past),
    )

pub returns-in_err-corrected_bytes : goal.returns-in_err-corrected_bytes
returns-in_err-corrected_bytes c =
    let o = c.args.self.now.order in
    let n = c.in_err-corrected_bytes.ensures.taken in
    let e = err_from_is_err_and c.from_residual-in_err-corrected_bytes.result c.from_residual-in_err-corrected_bytes.ensures.1 in
    rw (e.1, e.2) (
      refl,
      inr (
        sym c.in_ok-wrong_bits.ensures.answer,
        (n.0, n.1, broken (asked o) c.args.self.now.points.now (fitting o) (word c.receive_bytes.new.bytes) c.in_ok-wrong_bits.wrong_bits c.in_ok-wrong_bits.ensures.received n.0 n.2),
      ),
    )
