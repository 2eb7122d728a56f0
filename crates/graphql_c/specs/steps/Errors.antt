-- What the writers of errors append in one step.
use Rattle.std.specs.Prelude.{ℕ, List, ◌++◌, Option, map, codes, option_map, string_bytes}
use Rattle.graphql_core.specs.{decimal, quoted}
use Rattle.graphql_standard.specs.declared.place.Place.{Place}
use Rattle.graphql_fmt.specs.declared.reports.ErrorReport.{ErrorReport}
use Rattle.graphql_json.specs.Json.{json_text}
use Rattle.graphql_json.specs.Json as json
use Rattle.graphql_json.specs.Nodes.{elements_of}
use Rattle.graphql_c.specs.Sources.{or_null}

-- the members that are numbers
unfoldable pub numbers_text : ErrorReport → List ℕ
numbers_text r =
    codes "\"line\":" ++ (decimal r.place.line
    ++ (codes ",\"column\":" ++ (decimal r.place.column
    ++ (codes ",\"offset\":" ++ (decimal r.place.offset ++ (codes ",\"length\":" ++ decimal r.len))))))

-- the members with the place inside a string or a number
unfoldable pub inner_text : Option Place → List ℕ
inner_text p =
    codes ",\"inner_column\":" ++ (json_text (or_null json.number (option_map (λ (p : Place). p.column) p))
    ++ (codes ",\"inner_offset\":" ++ json_text (or_null json.number (option_map (λ (p : Place). p.offset) p))))

-- the members that are words
unfoldable pub words_text : ErrorReport → List ℕ
words_text r =
    codes ",\"message\":" ++ (quoted (string_bytes r.message)
    ++ (codes ",\"found\":" ++ (json_text (or_null (λ text. json.string (string_bytes text)) r.found)
    ++ (codes ",\"expected\":" ++ json_text (json.array (elements_of (map (λ word. json.string word.now) r.expected.items)))))))
