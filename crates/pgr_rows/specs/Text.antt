-- The kinds of result tables, and their texts.
use Rattle.std.specs.Prelude.{ℕ, ℤ, negsuc, List, [], ◌∷◌, codes, decimal}
use Rattle.std.specs.Fmt.{signed_decimal}
use Rattle.pgr_rows.specs.Layout.{Layout, table_text}
use Rattle.pgr_rows.specs.ListText.{list_text}
use Rattle.pgr_rows.specs.declared.rows.PathRow.{PathRow}
use Rattle.pgr_rows.specs.declared.rows.KspRow.{KspRow}
use Rattle.pgr_rows.specs.declared.rows.CostRow.{CostRow}
use Rattle.pgr_rows.specs.declared.rows.PartRow.{PartRow}
use Rattle.pgr_rows.specs.declared.rows.ClassRow.{ClassRow}
use Rattle.pgr_rows.specs.declared.rows.ReachRow.{ReachRow}
use Rattle.pgr_rows.specs.declared.rows.ContractRow.{ContractRow}
use Rattle.pgr_rows.specs.declared.rows.ContractRow.TheVariants.{Vertex, Shortcut}
use Rattle.pgr_rows.specs.declared.rows.FlowRow.{FlowRow}
use Rattle.pgr_rows.specs.declared.rows.CutRow.{CutRow}
use Rattle.pgr_rows.specs.declared.rows.Rows.{Rows}
use Rattle.pgr_rows.specs.declared.rows.Rows.TheVariants.{Paths, Parts, Classes, Nodes, Edges, Costs, Reaches, Ksp, Contractions, Value, Flows, Cuts}

-- rows of paths
abbrev pub paths : Layout PathRow
paths = record {
  header = codes "seq,path_seq,start_vid,end_vid,node,edge,cost,agg_cost\n";
  fields = λ row.
      decimal row.seq
      ∷ decimal row.path_seq
      ∷ signed_decimal row.start_vid
      ∷ signed_decimal row.end_vid
      ∷ signed_decimal row.node
      ∷ signed_decimal row.edge
      ∷ decimal row.cost
      ∷ decimal row.agg_cost
      ∷ [];
}

-- rows of several paths for each pair
abbrev pub several_paths : Layout KspRow
several_paths = record {
  header = codes "seq,path_id,path_seq,start_vid,end_vid,node,edge,cost,agg_cost\n";
  fields = λ row.
      decimal row.seq
      ∷ decimal row.path_id
      ∷ decimal row.path_seq
      ∷ signed_decimal row.start_vid
      ∷ signed_decimal row.end_vid
      ∷ signed_decimal row.node
      ∷ signed_decimal row.edge
      ∷ decimal row.cost
      ∷ decimal row.agg_cost
      ∷ [];
}

-- rows of components
abbrev pub parts : Layout PartRow
parts = record {
  header = codes "seq,component,node\n";
  fields = λ row. decimal row.seq ∷ signed_decimal row.component ∷ signed_decimal row.node ∷ [];
}

-- rows of blocks
abbrev pub classes : Layout ClassRow
classes = record {
  header = codes "seq,component,edge\n";
  fields = λ row. decimal row.seq ∷ signed_decimal row.component ∷ signed_decimal row.edge ∷ [];
}

-- ids alone, one a line, under a header line
abbrev pub column : List ℕ → Layout ℤ
column header = record { header = header; fields = λ id. signed_decimal id ∷ [] }

-- ids without a header line
abbrev pub ids : Layout ℤ
ids = column []

-- vertices alone
abbrev pub nodes : Layout ℤ
nodes = column (codes "node\n")

-- edges alone
abbrev pub edges : Layout ℤ
edges = column (codes "edge\n")

-- rows of costs
abbrev pub costs : Layout CostRow
costs = record {
  header = codes "start_vid,end_vid,agg_cost\n";
  fields = λ row. signed_decimal row.start_vid ∷ signed_decimal row.end_vid ∷ decimal row.agg_cost ∷ [];
}

-- rows of reached vertices
abbrev pub reaches : Layout ReachRow
reaches = record {
  header = codes "seq,depth,start_vid,pred,node,edge,cost,agg_cost\n";
  fields = λ row.
      decimal row.seq
      ∷ decimal row.depth
      ∷ signed_decimal row.start_vid
      ∷ signed_decimal row.pred
      ∷ signed_decimal row.node
      ∷ signed_decimal row.edge
      ∷ decimal row.cost
      ∷ decimal row.agg_cost
      ∷ [];
}

-- the fields of a row of what a contraction leaves; a vertex has -1 where a shortcut has its ends and its cost
abbrev pub contraction_fields : ContractRow → List (List ℕ)
contraction_fields (Vertex id inside) =
    codes "v"
    ∷ signed_decimal id
    ∷ list_text inside
    ∷ signed_decimal (negsuc 0)
    ∷ signed_decimal (negsuc 0)
    ∷ signed_decimal (negsuc 0)
    ∷ []
contraction_fields (Shortcut id inside source target cost) =
    codes "e"
    ∷ signed_decimal id
    ∷ list_text inside
    ∷ signed_decimal source
    ∷ signed_decimal target
    ∷ decimal cost
    ∷ []

-- rows of what a contraction leaves
abbrev pub contractions : Layout ContractRow
contractions = record { header = codes "type,id,contracted_vertices,source,target,cost\n"; fields = contraction_fields }

-- values of flows alone
abbrev pub values : Layout ℕ
values = record { header = codes "max_flow\n"; fields = λ value. decimal value ∷ [] }

-- rows of flows
abbrev pub flows : Layout FlowRow
flows = record {
  header = codes "seq,edge,start_vid,end_vid,flow,residual_capacity\n";
  fields = λ row.
      decimal row.seq
      ∷ signed_decimal row.edge
      ∷ signed_decimal row.start_vid
      ∷ signed_decimal row.end_vid
      ∷ decimal row.flow
      ∷ decimal row.residual_capacity
      ∷ [];
}

-- rows of cuts
abbrev pub cuts : Layout CutRow
cuts = record {
  header = codes "seq,edge,start_vid,end_vid,capacity\n";
  fields = λ row. decimal row.seq ∷ signed_decimal row.edge ∷ signed_decimal row.start_vid ∷ signed_decimal row.end_vid ∷ decimal row.capacity ∷ [];
}

-- the text of a table
abbrev pub text_of : Rows → List ℕ
text_of (Paths rows) = table_text paths rows
text_of (Parts rows) = table_text parts rows
text_of (Classes rows) = table_text classes rows
text_of (Nodes ids) = table_text nodes ids
text_of (Edges ids) = table_text edges ids
text_of (Costs rows) = table_text costs rows
text_of (Reaches rows) = table_text reaches rows
text_of (Ksp rows) = table_text several_paths rows
text_of (Contractions rows) = table_text contractions rows
text_of (Value value) = table_text values (value ∷ [])
text_of (Flows rows) = table_text flows rows
text_of (Cuts rows) = table_text cuts rows
