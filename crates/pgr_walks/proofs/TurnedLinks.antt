-- What a visitor that turns links round passes on: all of them, turned.
use Rattle.std.proofs.Common.{◌≡◌, ℕ, List, [], ◌∷◌, refl, ap, map}
use Rattle.std.specs.List.{filter_map}
use Rattle.pgr_walks.specs.declared.link.LinkOf.{LinkOf}
use Rattle.pgr_walks.specs.Reversed.{turned, turn}

pub map-turned : (links : List (LinkOf ℕ)) → map turned links ≡ filter_map (turn tt) links
map-turned [] = refl
map-turned (link ∷ links) = ap (λ rest. turned link ∷ rest) (map-turned links)
