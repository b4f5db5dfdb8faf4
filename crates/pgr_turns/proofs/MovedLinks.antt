-- The links of a state, one link beneath after another, and the links of the states, one state after another.
use Rattle.std.proofs.Common.{◌≡◌, ℕ, ℤ, ◌+◌, ◌<◌, List, [], ◌∷◌, ◌++◌, length, sym, subst, arith, ⊎_elim}
use Rattle.std.specs.Prelude.{Contains, All}
use Rattle.std.proofs.lemmas.Bool.{cases_lt}
use Rattle.std.proofs.lemmas.List.Elements.{All-nil, Contains-push_cases}
use Rattle.pgr_walks.specs.declared.link.LinkOf.{LinkOf}
use Rattle.pgr_turns.specs.declared.state.State.{State}
use Rattle.pgr_turns.specs.declared.trie.Node.{Node}
use Rattle.pgr_turns.specs.Fronts.{Completes}
use Rattle.pgr_turns.specs.Trie.{word}
use Rattle.pgr_turns.specs.States.{node_of}
use Rattle.pgr_turns.specs.Moving.{IsMoved, MovesAll, MovesTo}

-- what was put behind a list of links for the links beneath that were seen
pub record AreMovedSoFar (count : ℕ) (outs : ℕ → List (LinkOf ℕ)) (lists : List (List ℤ)) (nodes : List Node) (states : List State) (x : ℕ)
    (before links seen : List (LinkOf ℕ)) : Type 0 where
  pub moved : All (IsMoved count outs lists nodes states) links
  pub kept : (link : LinkOf ℕ) → Contains before link → Contains links link
  pub all : (link : LinkOf ℕ) → Contains seen link → (Completes lists (link.edge ∷ word lists nodes (node_of count states x)) → ⊥)
      → (moved : LinkOf ℕ) × (Contains links moved × MovesTo count states x link moved)

-- the links of the states below a number
pub record AreMovedBelow (count : ℕ) (outs : ℕ → List (LinkOf ℕ)) (lists : List (List ℤ)) (nodes : List Node) (states : List State) (x : ℕ) (links : List (LinkOf ℕ)) : Type 0 where
  pub moved : All (IsMoved count outs lists nodes states) links
  pub all : (y : ℕ) → y < x → MovesAll count outs lists nodes states y links

module _ (count : ℕ) (outs : ℕ → List (LinkOf ℕ)) (lists : List (List ℤ)) (nodes : List Node) (states : List State) where
  pub moved_none : (x : ℕ) (links : List (LinkOf ℕ)) → All (IsMoved count outs lists nodes states) links → AreMovedSoFar count outs lists nodes states x links links []
  moved_none x links moved = record { moved = moved; kept = λ link h. h; all = λ link h free. absurd (omega (arith, h.1)) }

  pub moved_more : (x : ℕ) (before links after seen : List (LinkOf ℕ)) (link : LinkOf ℕ) → AreMovedSoFar count outs lists nodes states x before links seen
      → All (IsMoved count outs lists nodes states) after → ((other : LinkOf ℕ) → Contains links other → Contains after other)
      → ((Completes lists (link.edge ∷ word lists nodes (node_of count states x)) → ⊥) → (moved : LinkOf ℕ) × (Contains after moved × MovesTo count states x link moved))
      → AreMovedSoFar count outs lists nodes states x before after (seen ++ link ∷ [])
  moved_more x before links after seen link h moved kept there = record {
    moved = moved;
    kept = λ other had. kept other (h.kept other had);
    all = λ other in_seen free. ⊎_elim
        (λ earlier. let found = h.all other earlier free in (found.0, (kept found.0 found.1.0, found.1.1)))
        (λ same. let found = there (subst (λ (l : LinkOf ℕ). Completes lists (l.edge ∷ word lists nodes (node_of count states x)) → ⊥) (sym same) free) in
        (found.0, (found.1.0, subst (λ l. MovesTo count states x l found.0) same found.1.1)))
        (Contains-push_cases seen link other in_seen);
  }

  pub below_none : AreMovedBelow count outs lists nodes states 0 []
  below_none = record { moved = All-nil (IsMoved count outs lists nodes states); all = λ y h. absurd (omega arith) }

  pub below_more : (x : ℕ) (before links : List (LinkOf ℕ)) → AreMovedBelow count outs lists nodes states x before → All (IsMoved count outs lists nodes states) links
      → ((link : LinkOf ℕ) → Contains before link → Contains links link) → MovesAll count outs lists nodes states x links
      → AreMovedBelow count outs lists nodes states (x + 1) links
  below_more x before links h moved kept here = record {
    moved = moved;
    all = λ y below. ⊎_elim
        (λ less link out free. let found = h.all y less link out free in (found.0, (kept found.0 found.1.0, found.1.1)))
        (λ more. let same : x ≡ y = omega arith in subst (λ z. MovesAll count outs lists nodes states z links) same here)
        (cases_lt y x);
  }

  pub all_below : (links : List (LinkOf ℕ)) {size : ℕ} → ((x : ℕ) → x < size → MovesAll count outs lists nodes states x links) → size ≡ count + length states
      → (x : ℕ) → x < count + length states → MovesAll count outs lists nodes states x links
  all_below links h e x below = h x (omega (arith, e, below))
