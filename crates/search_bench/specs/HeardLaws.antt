-- The trellis of a heard burst keeps the laws.
-- Assumes nothing.
use Rattle.std.specs.Prelude.{ℕ, ◌-◌, ◌*◌, ◌/◌, ◌%◌, ◌<◌, ◌≤◌, Bool, true, false, cond, List, length, ◌==◌, nat_eq, slice_index}
use Rattle.std.proofs.Common.{arith}
use Rattle.paths.specs.Model.{Lawful}
use Rattle.paths.proofs.Registers.{register_lawful}
use Rattle.search_bench.specs.Heard.{flips, ended, cost, price, heard, Fair, Low}

-- a price is closed, or at most the total
picked : (e f : Bool) (total c : ℕ) → c ≤ total → total ≤ 8 → cond e 65535 (cond f (total - c) c) < 256 → cond e 65535 (cond f (total - c) c) ≤ 8
picked true f total c le low h = absurd (omega arith)
picked false true total c le low h = omega arith
picked false false total c le low h = omega arith

pub heard_lawful : (kinds : List ℕ) (costs : List (List ℕ)) (totals : List ℕ) (narrow : Bool) → length kinds ≤ 7680 → Fair costs totals → Low totals → Lawful (heard kinds costs totals narrow)
heard_lawful kinds costs totals narrow short fair low =
    register_lawful (length kinds) (λ s. nat_eq s 0) narrow (λ k v. price kinds costs totals k (v % 64) (v / 64 == 1)) short (λ k. 8 * k)
    (λ on k v early h. let p = picked (ended (length kinds) k (v % 64)) (flips (v % 64) (v / 64 == 1)) (slice_index totals (slice_index kinds k)) (cost costs (slice_index kinds k) (v % 64 / 2)) (fair (slice_index kinds k) (v % 64 / 2) (omega arith)) (low (slice_index kinds k)) h in omega arith)
    (λ on k le. omega arith)
