use Rattle.std.proofs.Common.{◌*◌, rules}
use Rattle.words.specs.Words.{word}
use Rattle.standard.specs.Refusals.{asked}
use Rattle.coder.specs.Sending.{profiled}
use Rattle.decoder.specs.Blocks.{messages}
use Rattle.decoder.proofs.Messages.{data_written}
use Rattle.decoder.proofs.blocks.Blocks.write_data.Goals as goal

pub returns-clause-written : goal.returns-clause-written
returns-clause-written c =
    let o = c.args.self.now.order in
    rw (← c.capacity-count.ensures)
    (data_written c.register.result _ c.capacity-count.result (o.symbols * (profiled (asked o)).message) (messages (profiled (asked o)).message (profiled (asked o)).limit (word c.args.self.now.bytes)) c.messages-all.result c.copy_from_slice.new.self c.scramble.new.bytes _
    c.register.ensures (search rules) (search rules) (search rules) c.copy_from_slice.ensures.after c.messages-all.ensures c.scramble.ensures.bytes)
