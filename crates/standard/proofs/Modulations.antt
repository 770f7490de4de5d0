-- Every modulation has as many bits per carrier as one of the four.
-- Assumes nothing.
use Rattle.std.proofs.Common.{refl, inl, inr}
use Rattle.standard.specs.declared.modulation.Modulation as declared
use Rattle.standard.specs.declared.modulation.Modulation.TheVariants.{Bpsk, Qpsk, Qam16, Qam64}
use Rattle.standard.specs.Modulations.{carrier_bits}
use Rattle.standard.specs.Profiles.{Modulation}

pub modulated : (m : declared.Modulation) → Modulation (carrier_bits m)
modulated Bpsk = inl refl
modulated Qpsk = inr (inl refl)
modulated Qam16 = inr (inr (inl refl))
modulated Qam64 = inr (inr (inr refl))
