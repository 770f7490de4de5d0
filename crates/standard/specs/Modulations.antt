-- The modulations.
-- Assumes nothing.
use Rattle.std.specs.Prelude.{ℕ}
use Rattle.standard.specs.declared.modulation.Modulation.{Modulation}
use Rattle.standard.specs.declared.modulation.Modulation.TheVariants.{Bpsk, Qpsk, Qam16, Qam64}

-- bits per carrier
abbrev pub carrier_bits : Modulation → ℕ
carrier_bits Bpsk = 1
carrier_bits Qpsk = 2
carrier_bits Qam16 = 4
carrier_bits Qam64 = 6
