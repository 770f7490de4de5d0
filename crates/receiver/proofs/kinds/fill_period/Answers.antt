use Rattle.std.proofs.Common.{◌≡◌, ℕ, ap, ◌∙◌, arith, rules, length-set}
use Rattle.std.proofs.lemmas.List.Edits.{fill_by_more}
use Rattle.standard.specs.Profiles.{period}
use Rattle.words.specs.Words.{flags}
use Rattle.receiver.specs.declared.kinds.Heard.{Heard}
use Rattle.receiver.specs.Kinds.{heard_at, row_of}
use Rattle.receiver.proofs.Stages.{first, later}
use Rattle.receiver.proofs.kinds.fill_period.Goals as goal

pub loop-i-init : goal.loop-i-init
loop-i-init c =
    let h : ℕ → Heard = heard_at (period c.args.rate) (flags c.args.heard.now) in
    let f : ℕ → ℕ = λ k. row_of (h k) in
    let l = first c.args.rate (flags c.args.heard.now) in
    let q : c.with-first.result ≡ h 0 = cc in
    let e : c.index.result ≡ f 0 = c.index.ensures.is ∙ ap row_of q in
    rw e (fill_by_more f c.args.rows.now 0 0 (search rules) (λ k n. absurd (omega arith)))

pub loop-i-preserved : goal.loop-i-preserved
loop-i-preserved c =
    let h : ℕ → Heard = heard_at (period c.args.rate) (flags c.args.heard.now) in
    let f : ℕ → ℕ = λ k. row_of (h k) in
    let l = later c.args.rate c.loop-i.i (flags c.args.heard.now) c.loop-i.auto.i (omega (arith, length-set {A = ℕ})) in
    let q : c.with-in-loop-i.result ≡ h c.loop-i.i = cc in
    let e : c.index-in-loop-i.result ≡ f c.loop-i.i = c.index-in-loop-i.ensures.is ∙ ap row_of q in
    rw e (fill_by_more f c.loop-i.rows c.loop-i.i 0 (omega (arith, length-set {A = ℕ})) c.loop-i.invariant)
