use Rattle.std.proofs.Common.{◌≡◌, true, false, length, take, sym, ◌∙◌, arith, rules}
use Rattle.std.proofs.lemmas.Slice.Eq.{slice_eq-Decides}
use Rattle.std.proofs.lemmas.Bool.Decides.{Decides-eqb}
use Rattle.corrector.proofs.Slices.{same_taken, taken_same}
use Rattle.corrector.proofs.syndromes.Block.explains.Goals as goal

pub returns-clause-yes : goal.returns-clause-yes
returns-clause-yes c e j l =
    same_taken c.parity-parity.result c.args.given.now c.syndromes-explained.result ((slice_eq-Decides Decides-eqb _ _ _ c.eq.ensures).0 e) j (omega arith)
    ∙ c.syndromes-explained.ensures j l

pub returns-clause-no : goal.returns-clause-no
returns-clause-no c e h =
    let long : length c.syndromes-explained.result ≡ 16 = search rules in
    let s : take c.parity-parity.result c.args.given.now ≡ take c.parity-parity.result c.syndromes-explained.result
    = taken_same c.parity-parity.result c.args.given.now c.syndromes-explained.result (omega arith) (omega arith)
    (λ j l. h j (omega arith) ∙ sym (c.syndromes-explained.ensures j (omega arith))) in
    let t : c.eq.result ≡ true = (slice_eq-Decides Decides-eqb _ _ _ c.eq.ensures).1 s in
    let z : true ≡ false = sym t ∙ e in cc
