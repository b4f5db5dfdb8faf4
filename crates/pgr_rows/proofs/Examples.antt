-- The text of small tables, computed.
use Rattle.std.proofs.Common.{◌≡◌, [], ◌∷◌, refl}
use Rattle.std.specs.Prelude.{codes}
use Rattle.pgr_rows.specs.declared.rows.Rows.TheVariants.{Paths, Costs, Reaches}
use Rattle.pgr_rows.specs.Layout.{line_of}
use Rattle.pgr_rows.specs.Text.{text_of}

-- a table without rows is its header line
no_rows : text_of (Paths []) ≡ codes "seq,path_seq,start_vid,end_vid,node,edge,cost,agg_cost\n"
no_rows = refl

no_costs : text_of (Costs []) ≡ codes "start_vid,end_vid,agg_cost\n"
no_costs = refl

no_reaches : text_of (Reaches []) ≡ codes "seq,depth,start_vid,pred,node,edge,cost,agg_cost\n"
no_reaches = refl

-- fields are joined by commas, and the line ends with a line feed
three_fields : line_of (codes "1" ∷ codes "-1" ∷ codes "30" ∷ []) ≡ codes "1,-1,30\n"
three_fields = refl
