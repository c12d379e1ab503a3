-- The interpreter lock: what acquire and release do to its owner.
use Rattle.std.specs.Prelude.{ℕ, if◌then◌else◌, Option, Some, None}
use Rattle.event_model.specs.Replies.{PlainReply, ok, held, not_held}
use Rattle.event_model.specs.State.{is_owner}

-- the owner after track t takes the lock, and the answer
abbrev pub acquire_turn : ℕ → Option ℕ → Option ℕ × PlainReply
acquire_turn t owner = if is_owner owner t then (owner, held) else (Some t, ok)

-- the owner after track t gives the lock up, and the answer
abbrev pub release_turn : ℕ → Option ℕ → Option ℕ × PlainReply
release_turn t owner = if is_owner owner t then (None, ok) else (owner, not_held)
