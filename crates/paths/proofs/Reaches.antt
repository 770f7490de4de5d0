-- The survivors, one stage at a time.
-- Assumes nothing.
use Rattle.std.proofs.Common.{◌≡◌, ℕ, zero, suc, ◌+◌, ◌<◌, true, ◌≢◌, List, length, get_or, set, sym, refl, subst, add-one, arith, get_or-set_other, get_or-set_same}
use Rattle.paths.specs.Model.{Model, Lawful}
use Rattle.paths.proofs.Rows.{into, Relaxed, chosen, follow, Onto, trace, Trail, Rowed, Reached, Capped}
use Rattle.paths.proofs.Stages.{best_step, open_step}

pub trace_same : (m : Model) (a b : List ℕ) (k : ℕ) → ((j : ℕ) → j < k → get_or a j 0 ≡ get_or b j 0) → trace m a k ≡ trace m b k
unfolding trace
trace_same m a b zero h = refl
trace_same m a b (suc k) h =
    let e = trace_same m a b k (λ j l. h j (omega arith)) in
    let w = h k (omega arith) in
    λ i t. follow (into m k t (chosen (w i) t)) k (e i)

pub trail_same : (m : Model) (a b : List ℕ) (k : ℕ) → ((j : ℕ) → j < k → get_or a j 0 ≡ get_or b j 0) → Trail m a k ≡ Trail m b k
unfolding Trail
trail_same m a b zero h = refl
trail_same m a b (suc k) h =
    let e = trail_same m a b k (λ j l. h j (omega arith)) in
    let w = h k (omega arith) in
    λ i t. Onto (into m k t (chosen (w i) t)) (e i)

pub capped : (m : Model) (work : List ℕ) (k : ℕ) (row : List ℕ) → Reached m work k row → Capped row
capped m work k row r s h = (r.best s h).capped

pub reach_more : (m : Model) → Lawful m → m.wanted ≡ true → (work : List ℕ) (k : ℕ) (row next : List ℕ) (word : ℕ) → k < m.stages → k < length work → Reached m work k row → Relaxed m k row next word → Reached m (set work k word) (k + 1) next
unfolding trace Trail
reach_more m law on work k row next word early room r rel =
    let here : get_or (set work k word) k 0 ≡ word = rw get_or-set_same in
    let below : (j : ℕ) → j < k → get_or work j 0 ≡ get_or (set work k word) j 0 = λ j h. let ne : j ≢ k = omega arith in rw get_or-set_other in
    let tr = trace_same m work (set work k word) k below in
    let tl = trail_same m work (set work k word) k below in
    let rows : Rowed m k row (trace m (set work k word) k) = subst (λ f. Rowed m k row f) tr r.best in
    let opened : (s : ℕ) → s < 64 → get_or row s 0 < 536870912 → Trail m (set work k word) k s = subst (λ (P : ℕ → Type 0). (s : ℕ) → s < 64 → get_or row s 0 < 536870912 → P s) tl r.trail in
    let rel' : Relaxed m k row next (get_or (set work k word) k 0) = subst (λ x. Relaxed m k row next x) (sym here) rel in
    rw add-one (record {
      best = λ t h. best_step m law on k early row (trace m (set work k word) k) rows next (get_or (set work k word) k 0) rel' t h;
      trail = λ t h lt. open_step m law on k early row (trace m (set work k word) k) rows next (get_or (set work k word) k 0) rel' (Trail m (set work k word) k) opened t h lt;
    })
