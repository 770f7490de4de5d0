use Rattle.std.proofs.Common.{◌≡◌, not, eqb, sym, ◌∙◌, rules, count_by}
use Rattle.corrector.proofs.Slices.{count_is}
use Rattle.corrector.proofs.nonzero.Goals as goal

pub returns : goal.returns
returns c =
    let e : c.count.result ≡ count_by (λ x. not (eqb x 0)) c.args.bytes.now = search rules in
    e ∙ sym (count_is c.args.bytes.now)
