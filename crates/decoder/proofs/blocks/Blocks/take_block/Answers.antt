use Rattle.std.proofs.Common.{◌≡◌, ◌+◌, ◌*◌, ◌≤◌, ◌∙◌, ap, sym, subst, arith, ℕ}
use Rattle.words.specs.Words.{word}
use Rattle.standard.specs.declared.profile.Profile.{Profile}
use Rattle.standard.specs.Refusals.{asked}
use Rattle.coder.specs.Sending.{profiled}
use Rattle.coder.proofs.Steps.{fitting}
use Rattle.decoder.proofs.Taking.{untailed}
use Rattle.decoder.proofs.blocks.Blocks.take_block.Goals as goal

pub returns-then-self-at-ne0-clause-taken : goal.returns-then-self-at-ne0-clause-taken
returns-then-self-at-ne0-clause-taken c =
    let o = c.args.self.now.order in
    let n : c.block.result ≡ c.profile.result.block = omega (arith, c.profile.ensures.fits.parity) in
    let m : c.block-then-b-symbols.result ≡ c.profile.result.block = omega (arith, c.profile.ensures.fits.parity) in
    untailed (asked o) c.args.b c.in_ok-wrong.wrong (word c.args.self.now.bytes) (word c.correct_at.new.bytes) (fitting o)
    (rw (n, c.shape-shape.ensures.size, c.shape-shape.ensures.limit, c.profile.ensures.value) at c.in_ok-wrong.ensures.answer) (c.if-b-symbols.true ∙ c.symbols.ensures)
    (rw (n, m, c.profile.ensures.value) at c.if-self-at-ne0.true)

pub returns-then-self-at-ne0-clause-past : goal.returns-then-self-at-ne0-clause-past
returns-then-self-at-ne0-clause-past c =
    let n : c.block.result ≡ c.profile.result.block = omega (arith, c.profile.ensures.fits.parity) in
    let e : c.block.result ≡ (profiled (asked c.args.self.now.order)).block = n ∙ ap (λ (p : Profile). p.block) c.profile.ensures.value in
    λ k h. c.correct_at.ensures.behind k (let l : c.block.result * (c.args.b + 1) ≤ k = subst (λ (x : ℕ). x * (c.args.b + 1) ≤ k) (sym e) h in omega arith)
