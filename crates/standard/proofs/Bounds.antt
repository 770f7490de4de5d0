-- What is known of a request that nothing refuses.
-- Assumes nothing.
use Rattle.std.proofs.Common.{◌≡◌, ℕ, ◌≤◌, Bool, true, false, ◌||◌, eqb, ltb, List, ◌∷◌, drop, None, refl, arith, ltb-false}
use borrow.Author.Tests.{eqb-false}
use Rattle.standard.specs.declared.order.Request.{Request}
use Rattle.standard.specs.declared.refusal.Refusal.{Refusal}
use Rattle.standard.specs.declared.refusal.Refusal.TheVariants.{Rate, Identity, Symbols}
use Rattle.standard.specs.Refusals.{Row, row, first, request_rows}

-- the first row does not apply, nor does any other
pub none_applies : (e : Refusal) (b : Bool) (rs : List Row) → first (row e b ∷ rs) ≡ None → (b ≡ false) × (first rs ≡ None)
none_applies e true rs h = absurd (let z : ◌≡◌ {A = ℕ} 0 1 = cc in omega arith)
none_applies e false rs h = (refl, h)

neither : (a b : Bool) → (a || b) ≡ false → (a ≡ false) × (b ≡ false)
neither true b h = (h, absurd (let z : ◌≡◌ {A = ℕ} 0 1 = cc in omega arith))
neither false b h = (refl, h)

pub record Bounded (r : Request) : Type 0 where
  pub rate : r.rate ≤ 6
  pub bsid : r.bsid ≤ 15
  pub uiuc : r.uiuc ≤ 15
  pub frame : r.frame ≤ 15
  pub some : 1 ≤ r.symbols
  pub few : r.symbols ≤ 8

pub bounded : (r : Request) → first (request_rows r) ≡ None → Bounded r
bounded r h =
    let one = none_applies Rate (ltb 6 r.rate) (drop 1 (request_rows r)) h in
    let two = none_applies Identity (ltb 15 r.bsid || ltb 15 r.uiuc || ltb 15 r.frame) (drop 2 (request_rows r)) one.1 in
    let three = none_applies Symbols (eqb r.symbols 0 || ltb 8 r.symbols) (drop 3 (request_rows r)) two.1 in
    let ids = neither (ltb 15 r.bsid || ltb 15 r.uiuc) (ltb 15 r.frame) two.0 in
    let left = neither (ltb 15 r.bsid) (ltb 15 r.uiuc) ids.0 in
    let count = neither (eqb r.symbols 0) (ltb 8 r.symbols) three.0 in
    record {
      rate = ltb-false 6 r.rate one.0;
      bsid = ltb-false 15 r.bsid left.0;
      uiuc = ltb-false 15 r.uiuc left.1;
      frame = ltb-false 15 r.frame ids.1;
      some = positive r.symbols count.0;
      few = ltb-false 8 r.symbols count.1;
    }
  where
    positive : (n : ℕ) → eqb n 0 ≡ false → 1 ≤ n
    positive n e = let ne = eqb-false n 0 e in omega arith
