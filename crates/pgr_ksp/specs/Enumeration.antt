-- What contracts see of an enumeration of the loopless routes between two vertices.
use Rattle.std.specs.Prelude.{ℕ, ℤ, List, refl}
use Rattle.std.specs.Coded.{Coded, code_by, coded×, coded_ℕ, coded_ℤ, coded_list}
use Rattle.pgr_walks.specs.declared.link.LinkOf.{LinkOf}

-- a graph, two of its vertices, and the routes between them that were given so far, in the order in which they were
pub record Enumeration (G : Type 0) : Type 0 where
  pub graph : G
  pub s : ℕ
  pub t : ℕ
  pub given : List (List (LinkOf ℕ))

-- a link as the tuple of its fields
abbrev pub link_code : Coded (LinkOf ℕ)
link_code = code_by (ℕ × (ℤ × (ℕ × ℕ))) (coded× coded_ℕ (coded× coded_ℤ (coded× coded_ℕ coded_ℕ)))
    (λ link. (link.from, (link.edge, (link.cost, link.to)))) (λ p. record { from = p.0; edge = p.1.0; cost = p.1.1.0; to = p.1.1.1 }) (λ _. refl)

-- an enumeration as the tuple of its fields
abbrev pub enumeration_code : {G : Type 0} → Coded G → Coded (Enumeration G)
enumeration_code {G} code = code_by (G × (ℕ × (ℕ × List (List (LinkOf ℕ))))) (coded× code (coded× coded_ℕ (coded× coded_ℕ (coded_list (coded_list link_code)))))
    (λ e. (e.graph, (e.s, (e.t, e.given)))) (λ p. record { graph = p.0; s = p.1.0; t = p.1.1.0; given = p.1.1.1 }) (λ _. refl)
