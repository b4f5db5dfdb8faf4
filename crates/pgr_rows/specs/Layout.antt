-- Texts of tables: a header line and one line a row, fields joined by commas, each line ended by a line feed.
use Rattle.std.specs.Prelude.{ℕ, List, [], ◌∷◌, ◌++◌, flat_map, codes}

-- a kind of row: the header line of its tables, and the fields of a row, each as its bytes
pub record Layout (Row : Type 0) : Type 0 where
  pub header : List ℕ
  pub fields : Row → List (List ℕ)

-- what ends a field, with these fields behind it
abbrev pub end_before : List (List ℕ) → List ℕ
end_before [] = codes "\n"
end_before (next ∷ fields) = codes ","

-- a line: each field with a comma behind it, but the last with a line feed
abbrev pub line_of : List (List ℕ) → List ℕ
line_of [] = []
line_of (field ∷ fields) = field ++ (end_before fields ++ line_of fields)

-- the line of a row
abbrev pub line_text : {Row : Type 0} → Layout Row → Row → List ℕ
line_text layout row = line_of (layout.fields row)

-- the lines of rows
abbrev pub lines_of : {Row : Type 0} → Layout Row → List Row → List ℕ
lines_of layout rows = flat_map (line_text layout) rows

-- the text of a table of such rows
abbrev pub table_text : {Row : Type 0} → Layout Row → List Row → List ℕ
table_text layout rows = layout.header ++ lines_of layout rows
