use Rattle.std.proofs.Common.{◌≡◌, ◌≤◌, ◌∙◌, ℕ, List, Contains, drop, refl, ap, subst}
use Rattle.std.proofs.lemmas.List.{with_items_is}
use Rattle.pgr_parts.proofs.Naming.{AreNamed-same}
use Rattle.pgr_parts.proofs.search.Search.close.Goals as goal

pub returns-in-Some : goal.returns-in-Some
returns-in-Some c =
    let first = c.in-Some.first in
    let least = c.least_of.result in
    let members : c.split_at.result.1.now ≡ drop first c.args.self.now.path.items = c.split_at.ensures.back ∙ ap (drop first) c.as_slice.ensures.value in
    let P : List ℕ → Type 0 = λ xs. Contains xs least in
    let Q : List ℕ → Type 0 = λ xs. (u : ℕ) → Contains xs u → least ≤ u in
    record {
      first = first;
      least = least;
      firsts = c.in-Some.ensures.items;
      path = c.truncate.ensures.items;
      leads = refl;
      among = subst P members c.least_of.ensures.among;
      least_is = subst Q members c.least_of.ensures.least;
      standing = AreNamed-same _ _ least _ _ _ _ members c.as_mut_slice.ensures.value
          (with_items_is c.args.self.now.standing c.name_all.new.standing (c.name_all.ensures.size_is ∙ c.as_mut_slice.ensures.len)) c.name_all.ensures;
    }
