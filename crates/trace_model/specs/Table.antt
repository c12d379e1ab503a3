-- The texts that a trace's table has: the names and files that its lines say, each once.
use Rattle.std.specs.Prelude.{not, List, [], ◌∷◌}
use Rattle.std.specs.List.{filter, flat_map}
use Rattle.std.specs.Str.{bytes_eq}
use Rattle.mem_base.specs.Name.{Name}
use Rattle.mem_base.specs.Texts.{unknown, with_text}
use Rattle.trace_model.specs.Plain.{Action, PlainTrack, says}

-- the texts that operations say, in order: names of blocks and snapshots, and files
abbrev pub texts_in : List Action → List Name
texts_in actions = flat_map says actions

-- the texts that lines say, from the first on: the name of a track, and then those of its operations
abbrev pub names_in : List PlainTrack → List Name
names_in tracks = flat_map (λ t. t.name ∷ texts_in t.actions) tracks

-- the texts of a list, each where it first comes
abbrev pub firsts : List Name → List Name
firsts [] = []
firsts (x ∷ xs) = x ∷ filter (λ y. not (bytes_eq x y)) (firsts xs)

-- the table of a trace with these tracks: the unknown text, and then the names, each where it first comes
abbrev pub table_of : List PlainTrack → List Name
table_of tracks = firsts (unknown ∷ names_in tracks)

-- a table after texts, one after the other, are sought or added
abbrev pub with_texts : List Name → List Name → List Name
with_texts texts [] = texts
with_texts texts (x ∷ xs) = with_texts (with_text texts x) xs
