use Rattle.std.proofs.Common.{sym, subst, rules}
use Rattle.standard.specs.Profiles.{Fitting}
use Rattle.standard.proofs.Fits.{profiles_fit}
use Rattle.standard.proofs.order.Order.profile.Goals as goal

pub returns-clause-fits : goal.returns-clause-fits
returns-clause-fits c = subst Fitting (sym c.profile_of.ensures) (profiles_fit c.args.self.rate (search rules))
