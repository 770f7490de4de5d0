use Rattle.std.proofs.Common.{◌≡◌, Some, string_bytes, sym, ap, ◌∙◌}
use Rattle.records.specs.Records.{head}
use Rattle.records.specs.Answers.{used}
use Rattle.records.proofs.Replies.{rest_of, used_in, inputs_next, inputs_last, inputs_done}
use Rattle.records.proofs.answering.answer_input.Goals.{else-loop-place-test, then-loop-place-test+in_ok-bytes+in_default}
use Rattle.records.proofs.answering.answer_input.Goals as goal

pub loop-place-preserved : goal.loop-place-preserved
loop-place-preserved c =
    let e : used (head (rest_of c.args.input.now c.loop-place.place)) ≡ Some c.in-Some.bytes = sym c.in_ok-bytes.ensures.used ∙ c.in-Some.is in (
      (used_in c.args.input.now c.loop-place.place c.in-Some.bytes c.loop-place-test.true e).1,
      inputs_next c.args.input.now (string_bytes c.loop-place.text) (string_bytes c.answer_record.new.text) c.loop-place.place c.loop-place-test.true
          c.loop-place.invariant.1 c.in_ok-bytes.ensures.line c.in-Some.bytes e,
    )

pub returns : goal.returns
returns c =
    elim c.loop-place-test.branch [
      | else-loop-place-test w ↦ ap string_bytes w.text-is ∙ inputs_done c.args.input.now (string_bytes c.loop-place.text) c.loop-place.place w.loop-place-test.false c.loop-place.invariant.1
      | then-loop-place-test+in_ok-bytes+in_default w ↦
          ap string_bytes w.text-is
          ∙ inputs_last c.args.input.now (string_bytes c.loop-place.text) (string_bytes w.answer_record.new.text) c.loop-place.place w.loop-place-test.true
          c.loop-place.invariant.1 w.in_ok-bytes.ensures.line (sym w.in_ok-bytes.ensures.used ∙ w.in_default.is)
    ]
