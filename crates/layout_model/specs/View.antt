-- What a heap reports of its layout.
use Rattle.std.specs.Prelude.{ℕ, ◌==◌, Bool, not, ◌&&◌, if◌then◌else◌, List, length, map, filter, Option, Some, None}
use Rattle.std.specs.List.{range_with_len}
use Rattle.mem_base.specs.declared.reply.ArenaLine.{ArenaLine}
use Rattle.mem_base.specs.declared.reply.UsedPool.{UsedPool}
use Rattle.mem_base.specs.declared.reply.ClassLine.{ClassLine}
use Rattle.mem_base.specs.declared.reply.View.{View}
use Rattle.extents.specs.Sums.{tally}
use Rattle.layout_model.specs.declared.measures.TheConstants.{CLASSES}
use Rattle.layout_model.specs.Sizes.{size_of_class}
use Rattle.layout_model.specs.Layout.{Layout, Usable, Used, Full}
use Rattle.layout_model.specs.Place.{pools_of_class}

-- a usable arena
abbrev pub arena_line : Usable → ArenaLine
arena_line u = record { id = u.arena; free = u.free; total = u.total }

-- a pool with free blocks
abbrev pub used_pool : Used → UsedPool
used_pool p = record { arena = p.arena; live = p.live }

-- 1 for a full pool of class c
abbrev pub is_full : ℕ → Option Full → ℕ
is_full c None = 0
is_full c (Some f) = if f.class == c then 1 else 0

-- the pools of class c
abbrev pub class_line : Layout → ℕ → ClassLine
class_line l c = record { size = size_of_class c; used = map used_pool (pools_of_class l c); full = tally (is_full c) l.full }

-- the class has a pool
abbrev pub has_a_pool : ClassLine → Bool
has_a_pool line = not ((length line.used == 0) && (line.full == 0))

-- the classes that have a pool, by rising sizes
abbrev pub class_lines : Layout → List ClassLine
class_lines l = filter has_a_pool (map (class_line l) (range_with_len 0 CLASSES))

-- so many blocks in pools and in raw regions, the usable arenas in order, and the classes
abbrev pub shape_of : ℕ → ℕ → Layout → View
shape_of pooled raws l = record { pooled = pooled; raws = raws; arenas = map arena_line l.usable; classes = class_lines l }
