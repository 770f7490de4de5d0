use Rattle.std.proofs.Common.{◌≡◌, ◌-◌, ◌≤◌, ◌++◌, length, drop, string_bytes}
use Rattle.records.specs.Answers.{text}
use Rattle.records.proofs.answering.answer_input.Given as goal

abbrev pub invariant-loop-place : goal.invariant-loop-place
invariant-loop-place l = (l.place ≤ length l.input) × (string_bytes l.text ++ text l.place (drop l.place l.input) ≡ text 0 l.input)

abbrev pub decreases-loop-place : goal.decreases-loop-place
decreases-loop-place l = length l.input - l.place
