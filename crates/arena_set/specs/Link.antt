-- The two links of a started pool.
use Rattle.std.specs.Prelude.{ℕ}
use Rattle.layout_model.specs.Plain.{PlainView, with_next, with_prev}
use Rattle.arena_set.specs.declared.link.Link.{Link}
use Rattle.arena_set.specs.declared.link.Link.TheVariants.{Next, Prev}
use Rattle.arena_set.specs.Started.{Started}

-- where the link's word stands in the pool's header
abbrev pub link_offset : Link → ℕ
link_offset Next = 16
link_offset Prev = 24

-- what a pool's bytes tell, with one link changed
abbrev pub plain_with : Link → PlainView → ℕ → PlainView
plain_with Next p place = with_next p place
plain_with Prev p place = with_prev p place

-- a pool with one link changed
abbrev pub with_link : Link → Started → ℕ → Started
with_link Next s place = record s { next = place }
with_link Prev s place = record s { prev = place }
