-- What a search of the receive trellis finds.
-- Assumes nothing.
use Rattle.std.proofs.Common.{◌≡◌, ℕ, ◌*◌, Bool, List, Some, None, Option, subst}
use Rattle.words.specs.Words.{Bits}
use Rattle.standard.specs.Profiles.{period}
use Rattle.standard.specs.declared.profile.InnerRate.{InnerRate}
use Rattle.inner_code.proofs.Rates.{rated}
use Rattle.paths.specs.Answers.{Found, path_of}
use Rattle.inner_words.specs.InnerWords.{Nearest, wrong}
use Rattle.inner_words.specs.Receiving.{receiving}
use Rattle.inner_words.proofs.Receiving.{nearest, never_unreachable}

-- of q periods of p bits, n stages
module _ (r : InnerRate) (p q n : ℕ) (heard : Bits) (old new : List Bool) (found : Option ℕ) (e : p ≡ period r) (l : n ≡ p * q) (f : Found (receiving p n heard) old new found) where
  at : (x : Option ℕ) → found ≡ x → Found (receiving (period r) (period r * q) heard) old new x
  at x g =
      subst (λ (z : ℕ). Found (receiving z (z * q) heard) old new x) e (subst (λ (z : ℕ). Found (receiving p z heard) old new x) l (subst (Found (receiving p n heard) old new) g f))

  pub found_some : found ≡ None → ⊥
  found_some g = never_unreachable (period r) q heard (rated r) (at None g).0

  -- the nearest word stands in the place for the path, with its wrong bits
  pub found_nearest : (c : ℕ) → found ≡ Some c → Nearest (period r) q heard (path_of new) × (c ≡ wrong (period r) q (path_of new) heard)
  found_nearest c g = nearest (period r) q heard c (path_of new) (rated r) (at (Some c) g).0
