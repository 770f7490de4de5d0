use Rattle.std.proofs.Common.{◌≡◌, length, rules, ℕ, ◌+◌, ◌-◌, ◌*◌, ap, ◌∙◌, ap₂, inl, inr, arith}
use lib.Bits.{bit_xor}
use Rattle.field.specs.Field.{◌⊕◌, ◌⊗◌, gexp}
use Rattle.outer_theory.specs.Syndromes.{weight}
use Rattle.outer_theory.proofs.Values.{folding_start, folding_skip, folding_take, folding_end, folding_carried}
use Rattle.corrector.proofs.errors.Findings.error_at.Goals as goal
use Rattle.corrector.proofs.errors.Findings.error_at.Goals.{then-i-k+then-mark-eq0, else-i-k, else-i-k-via-then-i-k+else-mark-eq0, else-i-k-via-else-i-k}

pub loop-i-init : goal.loop-i-init
loop-i-init c =
    let long : length c.args.self.now.syndromes ≡ 16 = search rules in
    folding_start c.args.self.now.shape.limit (2 * c.args.self.now.shape.limit + c.args.self.now.shape.size) c.args.k (omega arith) (omega arith) (omega arith) (omega arith) c.args.self.now.syndromes c.args.self.now.marks.now c.power-divisor.result long
    (c.power-divisor.ensures ∙ c.weight_log.ensures.is ∙ ap (λ (m : ℕ). weight (16 - 2 * c.args.self.now.shape.limit) (m + (16 - 2 * c.args.self.now.shape.limit))) c.place-m.ensures.is)

pub loop-i-preserved : goal.loop-i-preserved
unfolding ◌⊕◌
loop-i-preserved c =
    elim c.if-i-k.branch [
      | then-i-k+then-mark-eq0 w ↦
          folding_carried c.args.self.now.shape.limit (2 * c.args.self.now.shape.limit + c.args.self.now.shape.size) c.args.k (omega arith) (omega arith) (omega arith) (omega arith) c.args.self.now.syndromes c.args.self.now.marks.now w.fold.new.sums c.if-i-k.sums w.mul-divisor.result c.if-i-k.divisor (c.loop-i.i + 1) w.sums-is w.divisor-is
          (folding_take c.args.self.now.shape.limit (2 * c.args.self.now.shape.limit + c.args.self.now.shape.size) c.args.k (omega arith) (omega arith) (omega arith) (omega arith) c.args.self.now.syndromes c.args.self.now.marks.now c.loop-i.sums w.fold.new.sums c.loop-i.divisor w.mul-divisor.result w.power-y.result c.loop-i.i
          (omega arith) w.if-i-k.true w.if-mark-eq0.true (w.power-y.ensures ∙ ap gexp w.place.ensures.is) w.fold.array_long w.fold.ensures
          (w.mul-divisor.ensures ∙ ap₂ (λ (u v : ℕ). c.loop-i.divisor ⊗ bit_xor u v) (c.power-x.ensures ∙ ap gexp c.place-m.ensures.is) (w.power-y.ensures ∙ ap gexp w.place.ensures.is))
          c.loop-i.invariant)
      | else-i-k w ↦
          folding_carried c.args.self.now.shape.limit (2 * c.args.self.now.shape.limit + c.args.self.now.shape.size) c.args.k (omega arith) (omega arith) (omega arith) (omega arith) c.args.self.now.syndromes c.args.self.now.marks.now c.loop-i.sums c.if-i-k.sums c.loop-i.divisor c.if-i-k.divisor (c.loop-i.i + 1) w.sums-is w.divisor-is
          (folding_skip c.args.self.now.shape.limit (2 * c.args.self.now.shape.limit + c.args.self.now.shape.size) c.args.k (omega arith) (omega arith) (omega arith) (omega arith) c.args.self.now.syndromes c.args.self.now.marks.now c.loop-i.sums c.loop-i.divisor c.loop-i.i
          (elim w.else-i-k.branch [ else-i-k-via-then-i-k+else-mark-eq0 v ↦ inr v.if-mark-eq0.false | else-i-k-via-else-i-k v ↦ inl v.if-i-k.false ])
          c.loop-i.invariant)
    ]

pub returns : goal.returns
returns c =
    folding_end c.args.self.now.shape.limit (2 * c.args.self.now.shape.limit + c.args.self.now.shape.size) c.args.k (omega arith) (omega arith) (omega arith) (omega arith) c.args.self.now.syndromes c.args.self.now.marks.now c.loop-i.sums c.loop-i.divisor c.loop-i.i c.inverse.result c.mul.result
    c.loop-i.invariant (omega arith) c.requires.marked c.inverse.ensures c.mul.ensures
