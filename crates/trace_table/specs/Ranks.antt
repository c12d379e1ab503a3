-- Where each text of a table stands in the order of their bytes.
use Rattle.std.specs.Prelude.{◌≡◌, ℕ, ◌<◌, ◌^◌, List, All, Contains, length, slice_index}
use Rattle.std.specs.Cmp.Lexicographic.{slice_cmp}
use Rattle.std.specs.List.{AllPairs}
use Rattle.std.specs.Ordering.{nat_cmp}
use Rattle.std.specs.declared.cmp.Ordering.{Ordering}
use Rattle.std.specs.declared.cmp.Ordering.TheVariants.{Less}
use Rattle.mem_base.specs.Name.{Name}
use Rattle.mem_base.specs.Texts.{text_at}
use Rattle.mem_base.specs.declared.texts.TextId.{TextId}

-- each text has a rank by its number, and ranks compare as the bytes of their texts do
pub record AreRanks (texts : List Name) (ranks : List ℕ) : Type 0 where
  pub size : length ranks ≡ length texts
  pub order : (a b : TextId) → a.0 < length texts → b.0 < length texts
      → nat_cmp (slice_index ranks a.0) (slice_index ranks b.0) ≡ slice_cmp nat_cmp (text_at texts a) (text_at texts b)

-- ---- how ranks are made

-- two numbers by the bytes of their texts
abbrev pub text_cmp : List Name → ℕ → ℕ → Ordering
text_cmp texts a b = slice_cmp nat_cmp (text_at texts (record { 0 = a })) (text_at texts (record { 0 = b }))

-- these are the numbers of the texts, few enough to be numbered, in the order of their texts' bytes
pub record AreInOrder (texts : List Name) (order : List ℕ) : Type 0 where
  pub size : length order ≡ length texts
  pub few : length order < 2 ^ 32
  pub each : (n : ℕ) → n < length texts → Contains order n
  pub known : All (λ n. n < length order) order
  pub rises : AllPairs (λ a b. text_cmp texts a b ≡ Less) order

-- each number has the place at which it stands
pub record ArePlaces (order places : List ℕ) : Type 0 where
  pub size : length places ≡ length order
  pub each : (k : ℕ) → k < length order → slice_index places (slice_index order k) ≡ k
