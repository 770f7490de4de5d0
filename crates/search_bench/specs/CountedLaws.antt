-- The trellis in a table keeps the laws.
-- Assumes nothing.
use Rattle.std.specs.Prelude.{◌≡◌, ℕ, ◌≤◌, true, false, cond, List}
use Rattle.std.proofs.Common.{ap, arith}
use Rattle.paths.specs.Model.{Lawful}
use Rattle.std.proofs.lemmas.Option.{same_Some}
use Rattle.search_bench.specs.declared.counted.Step.{Step}
use Rattle.search_bench.specs.Counted.{counted, step, Inside, Small}

never : {A : Type 0} → false ≡ true → A
never e = let z : ◌≡◌ {A = ℕ} 0 1 = ap (λ b. cond b 1 0) e in absurd (omega arith)

pub counted_lawful : (stages : ℕ) (steps : List (List Step)) → stages ≤ 7680 → Inside steps → Small steps → Lawful (counted stages steps)
counted_lawful stages steps short inside small = record {
  few_stages = short;
  few_states = omega arith;
  start_within = omega arith;
  bounded = λ k s b t c early few e.
      let q = same_Some _ (t, c) e in
      let x : (step steps s b).to ≡ t = ap (λ z. z.0) q in
      let y : (step steps s b).cost ≡ c = ap (λ z. z.1) q in
      let i = inside s b in
      let j = small s b in
      (omega arith, omega arith);
  cheap = λ on. never on;
  wanted_few = λ on. never on;
  sound = λ on. never on;
  complete = λ on. never on;
  ordered = λ on. never on;
}
