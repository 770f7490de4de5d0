use Rattle.std.proofs.Common.{◌≡◌, ◌≤◌, length, ◌++◌, List, ℕ, OnOk, string_bytes, subst, rules}
use Rattle.records.proofs.Replies.{burst_sent}
use Rattle.records.proofs.answering.burst_line.Goals as goal

pub returns-in-Ok : goal.returns-in-Ok
returns-in-Ok c =
    let room : c.in-Ok.count ≤ length c.burst_bits.new.sent = search rules in
    subst (λ (xs : List ℕ). OnOk c.sent_line.result (string_bytes c.sent_line.new.text ≡ string_bytes c.args.text.now ++ xs))
    (burst_sent c.args.place c.args.request c.args.payload.now c.burst_bits.new.sent c.in-Ok.count room c.in-Ok.ensures.answer c.in-Ok.ensures.count c.in-Ok.ensures.bits) c.sent_line.ensures
