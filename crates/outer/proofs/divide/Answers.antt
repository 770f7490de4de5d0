use Rattle.field.specs.Field.{◌⊕◌}
use Rattle.outer.proofs.Division.{step_moved, step_added}
use Rattle.outer.proofs.divide.Goals as goal

pub returns-then-feedback-ne0 : goal.returns-then-feedback-ne0
unfolding ◌⊕◌
returns-then-feedback-ne0 c =
    step_added c.args.rest.now c.copy_from_slice.new.self c.args.byte c.told-rest c.copy_from_slice.ensures.after
    c.log.result c.add_generator.new.rest c.add_generator.array_long c.log.ensures.exponent c.add_generator.ensures

pub returns-else-feedback-ne0 : goal.returns-else-feedback-ne0
unfolding ◌⊕◌
returns-else-feedback-ne0 c =
    step_moved c.args.rest.now c.copy_from_slice.new.self c.args.byte c.told-rest c.copy_from_slice.ensures.after c.if-feedback-ne0.false
