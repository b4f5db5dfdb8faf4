-- What is known of a network, and what its links between ids are: those that it is made of.
use Rattle.std.proofs.Common.{◌≡◌, ◌↔◌, ℕ, List, [], ◌∷◌, length, get_or, sym, ap, subst, ◌∙◌, arith, Ordering, Less, Equal}
use Rattle.std.specs.Prelude.{ℤ, All, Contains}
use Rattle.std.specs.Ordering.{int_cmp}
use Rattle.std.specs.Cmp.{IsTotalOrder}
use Rattle.std.proofs.lemmas.Cmp.{int_cmp_total, tied_itself}
use Rattle.std.proofs.lemmas.Option.{slice_get-get_or, same_Some}
use Rattle.std.proofs.lemmas.List.Elements.{All-weaker, All-contains_itself}
use Rattle.pgr_outside.specs.Lists.{IsWithoutRepeats, IsStrictlyRising}
use Rattle.pgr_outside.proofs.Lists.{Contains-map, Contains-from_map}
use Rattle.pgr_walks.specs.declared.link.LinkOf.{LinkOf}
use Rattle.pgr_walks.specs.Link.{link_cmp}
use Rattle.pgr_walks.specs.LinkOrders.{link_total}
use Rattle.pgr_walks.specs.Walk.{IsVertex}
use Rattle.pgr_walks.specs.Graph.{Fits}
use Rattle.pgr_walks.specs.declared.graph.Graph.{Ghosts}
use Rattle.pgr_route.proofs.TightWalks.{walk_wider}
use Rattle.pgr_numbers.specs.Names.{AreEnds, AreNumbered, named}
use Rattle.pgr_numbers.specs.Numbering.{HasExactly}
use Rattle.pgr_answer.specs.declared.network.Network.{Network}
use Rattle.pgr_answer.specs.NamedLinks.{all_links, named_links, LeadToVertices, IsEndOf}
use Rattle.pgr_answer.specs.Networks.{id_links}
use Rattle.pgr_answer.proofs.AllLinks.{all_exactly, all_numbered, names_are_ends, end_of}

-- a set of links fits where one fits that has them
pub Fits-along : {V : Type 0} (Has More : LinkOf V → Type 0) → ((link : LinkOf V) → Has link → More link) → Fits More → Fits Has
Fits-along Has More has_too fits = record {
  links = λ link has. fits.links link (has_too link has);
  routes = λ s t walk route. fits.routes s t walk (record {
    is_walk = walk_wider Has More has_too s walk t route.is_walk;
    ends_differ = route.ends_differ;
    loopless =
        route.loopless;
  });
}

-- the links of a list fit where those of the same set do
pub fits_listed : (links : List (LinkOf ℤ)) (Has : LinkOf ℤ → Type 0) → ((link : LinkOf ℤ) → Contains links link ↔ Has link) → Fits Has → Fits (Contains links)
fits_listed links Has exactly = Fits-along (Contains links) Has (λ link. (exactly link).0)

-- nothing stands twice in what rises strictly
pub once_rising : {X : Type 0} {cmp : X → X → Ordering} → IsTotalOrder cmp → (xs : List X) → IsStrictlyRising cmp xs → IsWithoutRepeats xs
once_rising total [] rise i j below inside same = absurd (omega arith)
once_rising {cmp = cmp} total (x ∷ xs) rise i j below inside same =
    let left = get_or (x ∷ xs) i x in
    let right = get_or (x ∷ xs) j x in
    let equal : left ≡ right = same_Some _ _ (sym (slice_get-get_or (x ∷ xs) i x (omega arith)) ∙ same ∙ slice_get-get_or (x ∷ xs) j x inside) in
    let tied : cmp left right ≡ Equal = ap (cmp left) (sym equal) ∙ tied_itself total left in
    let less : cmp left right ≡ Less = rise i j x below inside in
    absurd cc

-- no link stands twice among links that rise strictly
pub links_once : (links : List (LinkOf ℤ)) → IsStrictlyRising (link_cmp int_cmp) links → IsWithoutRepeats links
links_once = once_rising (link_total int_cmp int_cmp_total)

-- what stands exactly where a second thing does, and this exactly where a third does
pub exactly_along : {X : Type 0} {P Q R : X → Type 0} → ((x : X) → P x ↔ Q x) → ((x : X) → Q x ↔ R x) → (x : X) → P x ↔ R x
exactly_along first second x = (λ p. (second x).0 ((first x).0 p), λ r. (first x).1 ((second x).1 r))

-- links between ids, the names of their ends, and a graph of this size and with these links into each vertex:
-- it has exactly the links, between the numbers of their ends
pub record IsNetwork (links : List (LinkOf ℤ)) (names : List ℤ) (size : ℕ) (ins : ℕ → List (LinkOf ℕ)) : Type 0 where
  pub ends : AreEnds links names
  pub numbers : List (LinkOf ℕ)
  pub numbered : AreNumbered names links numbers
  pub exactly : HasExactly size ins numbers
  pub size_is : size ≡ length names

-- what is known of each network
pub is_network : {G : Type 0} {meanings : Ghosts G} (network : Network G meanings)
    → IsNetwork (id_links network) network.names (meanings.count network.graph) (meanings.ins network.graph)
is_network {meanings = meanings} network =
    let size = meanings.count network.graph in
    let ins = meanings.ins network.graph in
    record {
      ends = names_are_ends size ins network.lead network.names network.size_is network.rise network.ends;
      numbers = all_links size ins;
      numbered = all_numbered size ins network.lead network.names network.size_is network.rise;
      exactly = all_exactly size ins network.lead;
      size_is = network.size_is;
    }

-- a graph that has exactly the numbered links of some links gives these links between ids
module _ (links : List (LinkOf ℤ)) (names : List ℤ) (numbers : List (LinkOf ℕ)) (size : ℕ) (ins : ℕ → List (LinkOf ℕ))
    (numbered : AreNumbered names links numbers) (exactly : HasExactly size ins numbers) (lead : LeadToVertices size ins) where
  pub given_links : (link : LinkOf ℤ) → Contains (named_links names size ins) link ↔ Contains links link
  given_links link = (
    λ has.
        let number = Contains-from_map (named names) (all_links size ins) link has in
        let listed = (exactly number.0).0 ((all_exactly size ins lead number.0).1 number.1) in
        subst (Contains links) (sym number.2) (subst (λ ls. Contains ls (named names number.0)) numbered.same (Contains-map (named names) numbers number.0 listed)),
    λ has.
        let number = Contains-from_map (named names) numbers link (subst (λ ls. Contains ls link) (sym numbered.same) has) in
        let listed = (all_exactly size ins lead number.0).0 ((exactly number.0).1 number.1) in
        subst (Contains (named_links names size ins)) (sym number.2) (Contains-map (named names) (all_links size ins) number.0 listed),
  )

  -- so their ends are ends of these
  pub given_ends : AreEnds links names → All (IsEndOf (named_links names size ins)) names
  given_ends ends = All-weaker (Contains names) (IsEndOf (named_links names size ins)) (λ id there. end_of (named_links names size ins) id (moved id ((ends.ends id).0 there)))
      names (All-contains_itself names)
    where
      moved : (id : ℤ) → IsVertex (Contains links) id → IsVertex (Contains (named_links names size ins)) id
      moved id (link, has, at) = (link, (given_links link).1 has, at)
