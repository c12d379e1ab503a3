-- A table of texts: each text has one number, which is its index, and the first is the unknown one.
use Rattle.std.specs.Prelude.{◌≡◌, ℕ, List, [], ◌∷◌, ◌++◌, ◌<◌, ◌^◌, map, length, slice_get, codes, Some}
use Rattle.std.specs.Prelude.{if◌then◌else◌, unwrap_or}
use Rattle.std.specs.List.{list_any}
use Rattle.std.specs.Str.{bytes_eq}
use Rattle.mem_base.specs.Name.{Name}
use Rattle.mem_base.specs.declared.texts.Key.{Key}
use Rattle.mem_base.specs.declared.texts.TextId.{TextId}

-- the texts that a table's keys hold
abbrev pub texts_of : List Key → List (List ℕ)
texts_of keys = map (λ key. key.bytes.items) keys

-- no text stands twice
abbrev pub IsDistinct : List (List ℕ) → Type 0
IsDistinct texts = (i j : ℕ) (text : List ℕ) → slice_get texts i ≡ Some text → slice_get texts j ≡ Some text → i ≡ j

-- the name of a frame's file where there is no frame
abbrev pub unknown : List ℕ
unknown = codes "<unknown>"

-- the table after a text is sought or added
abbrev pub with_text : List (List ℕ) → List ℕ → List (List ℕ)
with_text texts text = if list_any (bytes_eq text) texts then texts else texts ++ text ∷ []

-- the unknown text stands first, no text stands twice, and each number fits
pub record IsTable (texts : List (List ℕ)) : Type 0 where
  pub first : slice_get texts 0 ≡ Some unknown
  pub distinct : IsDistinct texts
  pub few : length texts < 2 ^ 32

-- the text with that number
abbrev pub text_at : List Name → TextId → Name
text_at texts id = unwrap_or (slice_get texts id.0) []
