-- What contracts see of the sources in memory.
use Rattle.std.specs.Prelude.{◌≡◌, ℕ, ◌+◌, ◌*◌, ◌/◌, ◌<◌, ◌≤◌, ◌==◌, ◌||◌, ◌⊎◌, Bool, IsTrue, List, length}
use Rattle.std.specs.List.{list_any}
use Rattle.extents.specs.Extent.{Extent, Window, begins}
use Rattle.extents.specs.Sums.{tally}
use Rattle.sources.specs.Source.{ArenaShape}

-- the requests of a source: how many there were, how many of them were refused, and the numbers of those to refuse
pub record RequestsView : Type 0 where
  pub asked : ℕ
  pub refused : ℕ
  pub plan : List ℕ

-- whether the number is in the list
abbrev pub is_listed : List ℕ → ℕ → Bool
is_listed plan n = list_any (λ k. k == n) plan

-- the new list has what the old one had, and the number
abbrev pub ListsAlso : List ℕ → List ℕ → ℕ → Type 0
ListsAlso old new n = (k : ℕ) → is_listed new k ≡ ((n == k) || is_listed old k)

-- a source of arenas: its requests, its shape, and the regions that are out
pub record ArenasView : Type 0 where
  pub requests : RequestsView
  pub shape : ArenaShape
  pub out : List Extent

-- the addresses of the arenas
abbrev pub arena_window : Window
arena_window = record { start = 0x100000000000; length = 0x100000000 }

-- where slot i of the arenas begins
abbrev pub slot_place : ℕ → ℕ → ℕ
slot_place skew i = 0x100000000000 + i * 0x100000 + skew * 4096

-- the place is that of the least slot of which no region is out
pub record IsLeastFreeSlot (skew : ℕ) (out : List Extent) (place : ℕ) : Type 0 where
  pub slot : ℕ
  pub is : place ≡ slot_place skew slot
  pub free : tally (begins place) out ≡ 0
  pub below : (j : ℕ) → j < slot → tally (begins (slot_place skew j)) out ≡ 1

-- the source refuses a request: it is listed, or as many regions are out as may be
abbrev pub ArenasRefuse : ArenasView → Type 0
ArenasRefuse s = IsTrue (is_listed s.requests.plan (s.requests.asked + 1)) ⊎ (s.shape.max ≤ length s.out)

-- a source of raw regions: its requests, how many bytes may be out, where the next region begins, and those that are out
pub record RawView : Type 0 where
  pub requests : RequestsView
  pub max_bytes : ℕ
  pub next : ℕ
  pub out : List Extent

-- the addresses of the raw regions
abbrev pub raw_window : Window
raw_window = record { start = 0x200000000000; length = 0x800000000000 }

-- how many bytes the extents have
abbrev pub bytes_of : List Extent → ℕ
bytes_of out = tally (λ e. e.len) out

-- the least multiple of 16 that is not below x
abbrev pub aligned_up : ℕ → ℕ
aligned_up x = 16 * ((x + 15) / 16)

-- the source refuses a request of len bytes: it is listed, or too many bytes would be out, or the window has no room
abbrev pub RawRefuses : RawView → ℕ → Type 0
RawRefuses s len =
    IsTrue (is_listed s.requests.plan (s.requests.asked + 1)) ⊎ (s.max_bytes < bytes_of s.out + len)
    ⊎ (raw_window.start + raw_window.length < s.next + len)
