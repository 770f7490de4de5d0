use Rattle.std.proofs.Common.{◌≡◌, [], ◌∷◌, ◌++◌, length, string_bytes, length-append, ◌∙◌, ap, true}
use Rattle.std.specs.Fmt.{digit_glyph}
use Rattle.records.proofs.Spelling.{bits_left, hex_more}
use Rattle.records.proofs.text.push_hex.Goals as goal

pub loop-four-preserved : goal.loop-four-preserved
loop-four-preserved c =
    let steps = c.in-Some.ensures.steps in
    let there = c.loop-four.invariant.0 ∙ steps.1.0 in
    let long = steps.1.1 ∙ c.loop-four.invariant.1 in
    let added : string_bytes c.push.new.self ≡ string_bytes c.loop-four.text ++ digit_glyph true c.number.result ∷ [] =
    c.in_ok-push.ensures.bytes ∙ ap (λ xs. string_bytes c.loop-four.text ++ xs) (c.in_ok-push.ensures.ascii c.hex_digit.ensures.ascii ∙ ap (λ x. x ∷ []) c.hex_digit.ensures.glyph) in
    rw (length-append c.loop-four.yielded (c.in-Some.four ∷ [])) (
      bits_left c.args.bits.now c.in-Some.four.now c.next.new.self.rest.now (length c.loop-four.yielded) there long,
      steps.0 ∙ c.loop-four.invariant.1,
      hex_more c.args.bits.now c.in-Some.four.now c.next.new.self.rest.now (length c.loop-four.yielded) there long (string_bytes c.args.text.now) (string_bytes c.loop-four.text)
          (string_bytes c.push.new.self) c.number.result c.loop-four.invariant.2 added c.number.ensures.value,
    )
