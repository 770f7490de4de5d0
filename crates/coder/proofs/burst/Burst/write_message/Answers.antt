use Rattle.std.proofs.Common.{rules}
use Rattle.coder.proofs.Steps.{message_done}
use Rattle.coder.proofs.burst.Burst.write_message.Goals as goal

pub returns : goal.returns
returns c =
    message_done c.args.self.now.order c.args.self.now.payload.now c.fill.new.data c.scramble.new.bytes _ c.capacity-count.result c.register.result
    c.capacity-count.ensures (search rules) (search rules) (search rules) c.register.ensures (search rules) (search rules)
