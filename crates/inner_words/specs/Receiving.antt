-- The receive trellis: its paths are the inner words, at their count of wrong bits.
-- Assumes nothing.
use Rattle.std.specs.Prelude.{ℕ, zero, suc, ◌+◌, ◌-◌, ◌*◌, ◌/◌, ◌%◌, Bool, true, false, not, ◌||◌, Some, None, Option, ◌==◌, nat_lt}
use Rattle.words.specs.Words.{Bits, ◌⊻◌, digit}
use Rattle.paths.specs.Model.{Model}

-- the last six bits before place k, the oldest highest: the states of the encoder
unfoldable pub register : Bits → ℕ → ℕ
register u zero = 0
register u (suc k) = (2 * register u k + digit (u k)) % 64

abbrev pub odd : ℕ → Bool
odd n = n % 2 == 1

-- the outputs of the encoder at a window: the register and the present bit, which is lowest
abbrev pub x_of : ℕ → Bool
x_of v = odd v ⊻ odd (v / 2) ⊻ odd (v / 4) ⊻ odd (v / 8) ⊻ odd (v / 64)

abbrev pub y_of : ℕ → Bool
y_of v = odd v ⊻ odd (v / 4) ⊻ odd (v / 8) ⊻ odd (v / 32) ⊻ odd (v / 64)

-- how many coded bits the first k stages send: one each, and one more at the start of a period
abbrev pub sent : ℕ → ℕ → ℕ
sent p k = k + (k + (p - 1)) / p

-- what was heard of X, and of Y, at stage i of a period that sends its coded bits from place j on; `None` where it is punctured
abbrev pub x_heard : ℕ → Bits → ℕ → Option Bool
x_heard zero heard j = Some (heard j)
x_heard (suc zero) heard j = None
x_heard (suc (suc zero)) heard j = Some (heard j)
x_heard (suc (suc (suc zero))) heard j = None
x_heard (suc (suc (suc (suc i)))) heard j = Some (heard j)

abbrev pub y_heard : ℕ → Bits → ℕ → Option Bool
y_heard zero heard j = Some (heard (suc j))
y_heard (suc zero) heard j = Some (heard j)
y_heard (suc (suc zero)) heard j = None
y_heard (suc (suc (suc zero))) heard j = Some (heard j)
y_heard (suc (suc (suc (suc i)))) heard j = None

-- a disagreeing bit costs 1, a punctured one nothing
abbrev pub differs : Bool → Option Bool → ℕ
differs b None = 0
differs b (Some h) = digit (b ⊻ h)

abbrev pub cost_of : ℕ → Option Bool → Option Bool → ℕ
cost_of v x y = differs (x_of v) x + differs (y_of v) y

-- what a window costs at stage k
unfoldable pub cost : ℕ → Bits → ℕ → ℕ → ℕ
cost p heard k v = cost_of v (x_heard (k % p) heard (sent p k)) (y_heard (k % p) heard (sent p k))

-- bit 1 is closed in the last eight of n stages
abbrev pub allowed : ℕ → ℕ → Bool → Bool
allowed n k b = not b || nat_lt (k + 8) n

abbrev pub open_if : {X : Type 0} → Bool → X → Option X
open_if true x = Some x
open_if false x = None

abbrev pub receiving : ℕ → ℕ → Bits → Model
receiving p n heard = record {
  stages = n;
  states = 64;
  start = 0;
  ends = λ s. true;
  wanted = true;
  narrow = true;
  branch = λ k s b. open_if (allowed n k b) ((2 * s + digit b) % 64, cost p heard k (2 * s + digit b));
  entry = λ k t i. open_if (allowed n k (odd t)) (t / 2 + 32 * digit i, odd t, cost p heard k (t + 64 * digit i));
}
