-- The tie rule decides between any two paths, and a search has one answer.
-- Assumes nothing.
use Rattle.std.proofs.Common.{◌≡◌, ℕ, zero, suc, ◌<◌, ◌≤◌, Bool, true, false, cond, ◌⊎◌, List, length, get_or, Some, None, Option, sym, refl, ap, ◌∙◌, subst, inl, inr, ⊎_elim, arith}
use Rattle.std.proofs.lemmas.Bool.{cases_lt, cases_order}
use Rattle.std.proofs.lemmas.List.{same_lists, get_or_default}
use Rattle.paths.specs.Model.{Model, Path, after}
use Rattle.paths.specs.Ties.{state, First, BitsFirst, same_bits, lower_bit, same_states, lower_state}
use Rattle.paths.specs.Answers.{Arrives, LeastCost, FirstPath, path_of, Kept, By, Found}
use Rattle.paths.proofs.Paths.{at_most}

-- ---- two paths that are both first are the same bits
bits_same : (p q : Path) (n : ℕ) → BitsFirst p q n → BitsFirst q p n → (j : ℕ) → j < n → p j ≡ q j
bits_same p q n (same_bits f) g j h = f j h
bits_same p q n (lower_bit k l x y f) (same_bits g) j h = sym (g j h)
bits_same p q n (lower_bit k l x y f) (lower_bit k' l' x' y' g) j h =
    ⊎_elim
    (λ e. let z : ◌≡◌ {A = Bool} false true = sym x ∙ (ap p e ∙ y') in never z)
    (⊎_elim
    (λ less. let z : ◌≡◌ {A = Bool} false true = sym x' ∙ (sym (f k' less l') ∙ y') in never z)
    (λ less. let z : ◌≡◌ {A = Bool} false true = sym x ∙ (sym (g k less l) ∙ y) in never z))
    (cases_order k k')
  where
    never : {A : Type 0} → ◌≡◌ {A = Bool} false true → A
    never z = let o : ◌≡◌ {A = ℕ} 0 1 = ap (λ b. cond b 1 0) z in absurd (omega arith)

pub first_both : (m : Model) (p q : Path) (n : ℕ) → First m p q n → First m q p n → (j : ℕ) → j < n → p j ≡ q j
first_both m p q n (same_states f b) (same_states g c) j h = bits_same p q n b c j h
first_both m p q n (same_states f b) (lower_state k l x g) j h = let e = f k l in absurd (omega arith)
first_both m p q n (lower_state k l x f) (same_states g c) j h = let e = g k l in absurd (omega arith)
first_both m p q n (lower_state k l x f) (lower_state k' l' x' g) j h =
    ⊎_elim
    (λ e. let z : state m q k < state m p k = subst (λ i. state m q i < state m p i) (sym e) x' in absurd (omega arith))
    (⊎_elim
    (λ less. let e = f k' less l' in absurd (omega arith))
    (λ less. let e = g k less l in absurd (omega arith)))
    (cases_order k k')

-- ---- of any two paths one is first
bits_total : (p q : Path) (n : ℕ) → BitsFirst p q n ⊎ BitsFirst q p n
bits_total p q zero = inl (same_bits (λ j h. absurd (omega arith)))
bits_total p q (suc n) = by (p n) (q n) refl refl (bits_total p q n)
  where
    more : (u v : Path) → u n ≡ v n → BitsFirst u v n → BitsFirst u v (suc n)
    more u v e (same_bits f) = same_bits (at_most (λ j. u j ≡ v j) n f e)
    more u v e (lower_bit k l x y f) = lower_bit k (omega arith) x y (λ j g h. at_most (λ i. k < i → u i ≡ v i) n (λ i a b. f i b a) (λ b. e) j h g)

    last : (u v : Path) → u n ≡ false → v n ≡ true → BitsFirst u v (suc n)
    last u v x y = lower_bit n (omega arith) x y (λ j g h. absurd (omega arith))

    by : (b c : Bool) → p n ≡ b → q n ≡ c → BitsFirst p q n ⊎ BitsFirst q p n → BitsFirst p q (suc n) ⊎ BitsFirst q p (suc n)
    by false true x y t = inl (last p q x y)
    by true false x y t = inr (last q p y x)
    by false false x y (inl t) = inl (more p q (x ∙ sym y) t)
    by false false x y (inr t) = inr (more q p (y ∙ sym x) t)
    by true true x y (inl t) = inl (more p q (x ∙ sym y) t)
    by true true x y (inr t) = inr (more q p (y ∙ sym x) t)

-- the states of the first n stages, without the bits
data StatesFirst (m : Model) (p q : Path) (n : ℕ) : Type 0 where
  same : ((j : ℕ) → j ≤ n → state m p j ≡ state m q j) → StatesFirst m p q n
  lower : (k : ℕ) → k ≤ n → state m p k < state m q k → ((j : ℕ) → k < j → j ≤ n → state m p j ≡ state m q j) → StatesFirst m p q n

states_last : (m : Model) (p q : Path) (n : ℕ) → state m p n < state m q n → StatesFirst m p q n
states_last m p q n l = lower n (omega arith) l (λ j g h. absurd (omega arith))

states_more : (m : Model) (p q : Path) (n : ℕ) → state m p (suc n) ≡ state m q (suc n) → StatesFirst m p q n → StatesFirst m p q (suc n)
states_more m p q n e (same f) = same (λ j h. at_most (λ i. state m p i ≡ state m q i) (suc n) (λ i l. f i (omega arith)) e j (omega arith))
states_more m p q n e (lower k l x f) = lower k (omega arith) x (λ j g h. at_most (λ i. k < i → state m p i ≡ state m q i) (suc n) (λ i a b. f i b (omega arith)) (λ b. e) j (omega arith) g)

at_start : (m : Model) (p q : Path) → state m p 0 ≡ state m q 0
unfolding after
at_start m p q = refl

states_total : (m : Model) (p q : Path) (n : ℕ) → StatesFirst m p q n ⊎ StatesFirst m q p n
states_total m p q zero = inl (same (λ j h. let e : 0 ≡ j = omega arith in subst (λ i. state m p i ≡ state m q i) e (at_start m p q)))
states_total m p q (suc n) =
    ⊎_elim
    (λ e. ⊎_elim (λ t. inl (states_more m p q n e t)) (λ t. inr (states_more m q p n (sym e) t)) (states_total m p q n))
    (⊎_elim
    (λ l. inl (states_last m p q (suc n) l))
    (λ l. inr (states_last m q p (suc n) l)))
    (cases_order (state m p (suc n)) (state m q (suc n)))

first_of : (m : Model) (p q : Path) (n : ℕ) → StatesFirst m p q n → First m p q n ⊎ First m q p n
first_of m p q n (same f) =
    ⊎_elim
    (λ b. inl (same_states f b))
    (λ b. inr (same_states (λ j h. sym (f j h)) b))
    (bits_total p q n)
first_of m p q n (lower k l x f) = inl (lower_state k l x f)

pub first_total : (m : Model) (p q : Path) (n : ℕ) → First m p q n ⊎ First m q p n
first_total m p q n = ⊎_elim (first_of m p q n) (λ t. swap (first_of m q p n t)) (states_total m p q n)
  where
    swap : {A B : Type 0} → A ⊎ B → B ⊎ A
    swap (inl a) = inr a
    swap (inr b) = inl b

-- ---- a search has one answer
same_path : (m : Model) (old x y : List Bool) (c : ℕ) → length x ≡ length y → FirstPath m c (path_of x) × Kept m.stages old x → FirstPath m c (path_of y) × Kept m.stages old y → x ≡ y
same_path m old x y c l (a, k) (b, k') =
    same_lists x y l (λ j d low. get_or_default x j d false low ∙ at j ∙ get_or_default y j false d (omega arith))
  where
    at : (j : ℕ) → get_or x j false ≡ get_or y j false
    at j =
        ⊎_elim
        (λ h. first_both m (path_of x) (path_of y) m.stages (a.first (path_of y) b.arrives) (b.first (path_of x) a.arrives) j h)
        (λ h. k j h ∙ sym (k' j h))
        (cases_lt j m.stages)

module _ (m : Model) (old x y : List Bool) (l : length x ≡ length y) where
  both : (w : Bool) (a b : ℕ) → By w (FirstPath m a (path_of x) × Kept m.stages old x) (LeastCost m a × (x ≡ old)) → By w (FirstPath m b (path_of y) × Kept m.stages old y) (LeastCost m b × (y ≡ old)) → (a ≡ b) × (x ≡ y)
  both true a b (f, k) (g, k') =
      let p = f.least (path_of y) b g.arrives in
      let q = g.least (path_of x) a f.arrives in
      let e : a ≡ b = omega arith in
      (e, same_path m old x y b l (subst (λ c. FirstPath m c (path_of x)) e f, k) (g, k'))
  both false a b (f, k) (g, k') =
      let p = f.least g.path b g.arrives in
      let q = g.least f.path a f.arrives in
      (omega arith, k ∙ sym k')

  some_path : (w : Bool) (a : ℕ) (z : List Bool) → By w (FirstPath m a (path_of z) × Kept m.stages old z) (LeastCost m a × (z ≡ old)) → (p : Path) × Arrives m p a
  some_path true a z (f, k) = (path_of z, f.arrives)
  some_path false a z (f, k) = (f.path, f.arrives)

  pub one_answer : (a b : Option ℕ) → Found m old x a → Found m old y b → (a ≡ b) × (x ≡ y)
  one_answer None None f g = (refl, f.1 ∙ sym g.1)
  one_answer None (Some b) f g = let p = some_path m.wanted b y g in absurd (f.0 p.0 b p.1)
  one_answer (Some a) None f g = let p = some_path m.wanted a x f in absurd (g.0 p.0 a p.1)
  one_answer (Some a) (Some b) f g = let e = both m.wanted a b f g in (ap (λ c. Some c) e.0, e.1)
