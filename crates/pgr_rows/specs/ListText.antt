-- The text of a list of vertices: in braces, and between double quotes where it has two or more: exactly where it holds a comma.
use Rattle.std.specs.Prelude.{ℕ, nat_lt, length, List, [], ◌∷◌, ◌++◌, ℤ, codes, if◌then◌else◌}
use Rattle.std.specs.Fmt.{signed_decimal}
use Rattle.pgr_outside.specs.Parts.{part_text}
use Rattle.pgr_rows.specs.declared.list.ListLine.{ListLine}

-- what ends a vertex of a list, with these vertices behind it
abbrev pub end_of : List ℤ → List ℕ
end_of [] = codes "}"
end_of (next ∷ ids) = codes ","

-- each vertex with a comma behind it, but the last with a closing brace
abbrev pub closed : List ℤ → List ℕ
closed [] = []
closed (id ∷ ids) = signed_decimal id ++ (end_of ids ++ closed ids)

-- a list of vertices: an opening brace, the vertices joined by commas, and a closing brace
abbrev pub braced : List ℤ → List ℕ
braced [] = codes "{}"
braced (id ∷ ids) = codes "{" ++ closed (id ∷ ids)

-- what stands on both sides of a list: a double quote where it has two vertices or more, and so a comma
abbrev pub quote : List ℤ → List ℕ
quote ids = if nat_lt 1 (length ids) then codes "\"" else codes ""

-- the field of a list of vertices
abbrev pub list_text : List ℤ → List ℕ
list_text ids = quote ids ++ (braced ids ++ quote ids)

-- the fields of a line with a list of vertices
abbrev pub fields_of : ListLine → List (List ℕ)
fields_of line =
    line.kind.now
    ∷ part_text line.id
    ∷ list_text line.ids.now
    ∷ part_text line.source
    ∷ part_text line.target
    ∷ part_text line.cost
    ∷ []
