use Rattle.std.proofs.Common.{ℕ, ◌+◌, ◌*◌, get_or, ap, ◌∙◌}
use Rattle.field.specs.Field.{◌⊕◌, gexp}
use Rattle.corrector.proofs.Shares.{share_log, share_none}
use Rattle.corrector.proofs.syndromes.add_byte.Goals as goal

pub returns-then-byte-ne0 : goal.returns-then-byte-ne0
returns-then-byte-ne0 c j l =
    c.add_powers.ensures j l
    ∙ ap (λ (y : ℕ). get_or c.args.syndromes.now j 0 ⊕ y)
    (share_log (2 * c.args.shape.limit) (2 * c.args.shape.limit + c.args.shape.size) c.args.k c.from.result c.weight_log.result c.place-m.result c.args.byte j (ap gexp c.from.ensures ∙ c.log.ensures.exponent) c.weight_log.ensures.is c.place-m.ensures.is)

pub returns-else-byte-ne0 : goal.returns-else-byte-ne0
returns-else-byte-ne0 c j l = share_none (2 * c.args.shape.limit) (2 * c.args.shape.limit + c.args.shape.size) c.args.k c.args.byte j (get_or c.args.syndromes.now j 0) c.if-byte-ne0.false
