-- Entries of waiting vertices: what stands at a place after a write, a push or a pop.
use Rattle.std.proofs.Common.{◌≡◌, ℕ, zero, suc, ◌<◌, ◌-◌, ◌+◌, List, [], ◌∷◌, ◌++◌, Some, length, get_or, set, refl, sym, ap, arith}
use Rattle.pgr_search.specs.declared.heap.Waiting.{Waiting}
use Rattle.pgr_search.specs.Heap.{vertex_in, key_in}

module _ {K : Type 0} where
  pub key_in-read : (entries : List (Waiting K)) (p : ℕ) (entry : Waiting K) → p < length entries → entry ≡ get_or entries p entry → key_in entries p ≡ Some entry.key
  key_in-read [] p entry lt is = absurd (omega arith)
  key_in-read (first ∷ rest) zero entry lt is = ap (λ (w : Waiting K). Some w.key) (sym is)
  key_in-read (first ∷ rest) (suc p) entry lt is = key_in-read rest p entry (omega arith) is

  pub vertex_in-read : (entries : List (Waiting K)) (p : ℕ) (entry : Waiting K) → p < length entries → entry ≡ get_or entries p entry → vertex_in entries p ≡ entry.vertex
  vertex_in-read [] p entry lt is = absurd (omega arith)
  vertex_in-read (first ∷ rest) zero entry lt is = ap (λ (w : Waiting K). w.vertex) (sym is)
  vertex_in-read (first ∷ rest) (suc p) entry lt is = vertex_in-read rest p entry (omega arith) is

  pub key_in-get : (entries : List (Waiting K)) (p : ℕ) (entry : Waiting K) → p < length entries → key_in entries p ≡ Some (get_or entries p entry).key
  key_in-get [] p entry lt = absurd (omega arith)
  key_in-get (first ∷ rest) zero entry lt = refl
  key_in-get (first ∷ rest) (suc p) entry lt = key_in-get rest p entry (omega arith)

  pub key_in-some : (entries : List (Waiting K)) (p : ℕ) → p < length entries → (key : K) × (key_in entries p ≡ Some key)
  key_in-some [] p lt = absurd (omega arith)
  key_in-some (first ∷ rest) zero lt = (first.key, refl)
  key_in-some (first ∷ rest) (suc p) lt = key_in-some rest p (omega arith)

  pub key_in-set_same : (entries : List (Waiting K)) (p : ℕ) (entry : Waiting K) → p < length entries → key_in (set entries p entry) p ≡ Some entry.key
  key_in-set_same [] p entry lt = absurd (omega arith)
  key_in-set_same (first ∷ rest) zero entry lt = refl
  key_in-set_same (first ∷ rest) (suc p) entry lt = key_in-set_same rest p entry (omega arith)

  pub vertex_in-set_same : (entries : List (Waiting K)) (p : ℕ) (entry : Waiting K) → p < length entries → vertex_in (set entries p entry) p ≡ entry.vertex
  vertex_in-set_same [] p entry lt = absurd (omega arith)
  vertex_in-set_same (first ∷ rest) zero entry lt = refl
  vertex_in-set_same (first ∷ rest) (suc p) entry lt = vertex_in-set_same rest p entry (omega arith)

  pub key_in-set_other : (entries : List (Waiting K)) (p q : ℕ) (entry : Waiting K) → (q ≡ p → ⊥) → key_in (set entries p entry) q ≡ key_in entries q
  key_in-set_other [] p q entry other = refl
  key_in-set_other (first ∷ rest) zero zero entry other = absurd (other refl)
  key_in-set_other (first ∷ rest) zero (suc q) entry other = refl
  key_in-set_other (first ∷ rest) (suc p) zero entry other = refl
  key_in-set_other (first ∷ rest) (suc p) (suc q) entry other = key_in-set_other rest p q entry (λ e. other (ap suc e))

  pub vertex_in-set_other : (entries : List (Waiting K)) (p q : ℕ) (entry : Waiting K) → (q ≡ p → ⊥) → vertex_in (set entries p entry) q ≡ vertex_in entries q
  vertex_in-set_other [] p q entry other = refl
  vertex_in-set_other (first ∷ rest) zero zero entry other = absurd (other refl)
  vertex_in-set_other (first ∷ rest) zero (suc q) entry other = refl
  vertex_in-set_other (first ∷ rest) (suc p) zero entry other = refl
  vertex_in-set_other (first ∷ rest) (suc p) (suc q) entry other = vertex_in-set_other rest p q entry (λ e. other (ap suc e))

  pub key_in-push_last : (entries : List (Waiting K)) (entry : Waiting K) → key_in (entries ++ entry ∷ []) (length entries) ≡ Some entry.key
  key_in-push_last [] entry = refl
  key_in-push_last (first ∷ rest) entry = key_in-push_last rest entry

  pub vertex_in-push_last : (entries : List (Waiting K)) (entry : Waiting K) → vertex_in (entries ++ entry ∷ []) (length entries) ≡ entry.vertex
  vertex_in-push_last [] entry = refl
  vertex_in-push_last (first ∷ rest) entry = vertex_in-push_last rest entry

  pub key_in-push_other : (entries : List (Waiting K)) (entry : Waiting K) (p : ℕ) → p < length entries → key_in (entries ++ entry ∷ []) p ≡ key_in entries p
  key_in-push_other [] entry p lt = absurd (omega arith)
  key_in-push_other (first ∷ rest) entry zero lt = refl
  key_in-push_other (first ∷ rest) entry (suc p) lt = key_in-push_other rest entry p (omega arith)

  pub vertex_in-push_other : (entries : List (Waiting K)) (entry : Waiting K) (p : ℕ) → p < length entries → vertex_in (entries ++ entry ∷ []) p ≡ vertex_in entries p
  vertex_in-push_other [] entry p lt = absurd (omega arith)
  vertex_in-push_other (first ∷ rest) entry zero lt = refl
  vertex_in-push_other (first ∷ rest) entry (suc p) lt = vertex_in-push_other rest entry p (omega arith)
