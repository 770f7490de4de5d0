-- What fits together in every row of the profile table.
-- Assumes nothing.
use Rattle.std.proofs.Common.{ℕ, zero, suc, ◌≤◌, refl, inl, inr, arith, lit≤}
use Rattle.standard.specs.Profiles.{profile, Fitting}

pub profiles_fit : (rate : ℕ) → rate ≤ 6 → Fitting (profile rate)
profiles_fit zero h = record { modulation = inl refl; parity = refl; correctable = lit≤ tt; some = lit≤ tt; small = lit≤ tt; short = lit≤ tt; whole = refl }
profiles_fit (suc zero) h = record { modulation = inr (inl refl); parity = refl; correctable = lit≤ tt; some = lit≤ tt; small = lit≤ tt; short = lit≤ tt; whole = refl }
profiles_fit (suc (suc zero)) h = record { modulation = inr (inl refl); parity = refl; correctable = lit≤ tt; some = lit≤ tt; small = lit≤ tt; short = lit≤ tt; whole = refl }
profiles_fit (suc (suc (suc zero))) h = record { modulation = inr (inr (inl refl)); parity = refl; correctable = lit≤ tt; some = lit≤ tt; small = lit≤ tt; short = lit≤ tt; whole = refl }
profiles_fit (suc (suc (suc (suc zero)))) h = record { modulation = inr (inr (inl refl)); parity = refl; correctable = lit≤ tt; some = lit≤ tt; small = lit≤ tt; short = lit≤ tt; whole = refl }
profiles_fit (suc (suc (suc (suc (suc zero))))) h = record { modulation = inr (inr (inr refl)); parity = refl; correctable = lit≤ tt; some = lit≤ tt; small = lit≤ tt; short = lit≤ tt; whole = refl }
profiles_fit (suc (suc (suc (suc (suc (suc zero)))))) h = record { modulation = inr (inr (inr refl)); parity = refl; correctable = lit≤ tt; some = lit≤ tt; small = lit≤ tt; short = lit≤ tt; whole = refl }
profiles_fit (suc (suc (suc (suc (suc (suc (suc rate))))))) h = absurd (omega arith)
