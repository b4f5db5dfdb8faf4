-- The vertices within a cost of a root, over another set with the same links.
use Rattle.std.proofs.Common.{⊎_elim, inl, inr, List}
use Rattle.std.specs.Prelude.{◌↔◌, ℕ}
use Rattle.std.specs.declared.cmp.Ordering.{Ordering}
use Rattle.pgr_walks.specs.declared.link.LinkOf.{LinkOf}
use Rattle.pgr_walks.specs.declared.label.Label.{Label}
use Rattle.pgr_walks.specs.Label.{IsLeastLabelFrom}
use Rattle.pgr_route.proofs.TightWalks.{walk_wider}
use Rattle.pgr_reach.specs.declared.reach.ReachedOf.{ReachedOf}
use Rattle.pgr_reach.specs.FromRoot.{IsTightFrom, IsTreeLink}
use Rattle.pgr_reach.specs.Within.{AreWithin, IsRowWithin}
use Rattle.pgr_answer.proofs.ReachById.{All-follows}

-- labels
label-over : {V : Type 0} (P Q : LinkOf V → Type 0) → ((link : LinkOf V) → P link ↔ Q link) → (root v : V) (label : Label) → IsLeastLabelFrom P root v label
    → IsLeastLabelFrom Q root v label
label-over P Q same root v label least = record {
  walk = least.walk;
  is_walk = walk_wider P Q (λ link has. (same link).0 has) root least.walk v least.is_walk;
  label_is = least.label_is;
  least = λ other is_walk. least.least other (walk_wider Q P (λ link has. (same link).1 has) root other v is_walk);
}

-- links that end a least walk
tight-over : {V : Type 0} (P Q : LinkOf V → Type 0) → ((link : LinkOf V) → P link ↔ Q link) → (root : V) (link : LinkOf V) → IsTightFrom P root link → IsTightFrom Q root link
tight-over P Q same root link tight = record {
  before = tight.before;
  start = label-over P Q same root _ _ tight.start;
  end = label-over P Q same root _ _ tight.end;
}

module _ {V : Type 0} (vertex_cmp : V → V → Ordering) (P Q : LinkOf V → Type 0) (same : (link : LinkOf V) → P link ↔ Q link) (root : V) where
  back : (link : LinkOf V) → Q link ↔ P link
  back link = ((same link).1, (same link).0)

  tree-over : (v : V) (link : LinkOf V) → IsTreeLink vertex_cmp P root v link → IsTreeLink vertex_cmp Q root v link
  tree-over v link tree = record {
    has = (same link).0 tree.has;
    leads = tree.leads;
    tight = tight-over P Q same root link tree.tight;
    least = λ other has leads tight. tree.least other ((same other).1 has) leads (tight-over Q P back root other tight);
  }

  row-over : (limit : ℕ) (row : ReachedOf V) → IsRowWithin vertex_cmp P root limit row → IsRowWithin vertex_cmp Q root limit row
  row-over limit row is = record {
    label = label-over P Q same root row.node row.label is.label;
    within = is.within;
    link = ⊎_elim (λ at_root. inl at_root) (λ in_tree. inr (record {
      node = in_tree.node;
      link = in_tree.link;
      tree = tree-over row.node in_tree.link in_tree.tree;
      pred = in_tree.pred;
      edge = in_tree.edge;
      cost = in_tree.cost;
    })) is.link;
  }

  pub within-over : (limit : ℕ) (rows : List (ReachedOf V)) → AreWithin vertex_cmp P root limit rows → AreWithin vertex_cmp Q root limit rows
  within-over limit rows are = record {
    each = All-follows _ _ rows (row-over limit) are.each;
    every = λ v label least. are.every v label (label-over Q P back root v label least);
    rise = are.rise;
  }
