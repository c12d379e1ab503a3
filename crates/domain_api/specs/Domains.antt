-- What the calls of the domains do.
use Rattle.std.specs.Prelude.{◌≡◌, ◌⊎◌, ℕ, ◌+◌, ◌%◌, Bool, true, false, [], length, drop, replicate, if◌then◌else◌, Some, None}
use Rattle.mem_base.specs.declared.trace.Letter.{Letter}
use Rattle.mem_base.specs.declared.history.Ask.TheVariants as ask
use Rattle.mem_base.specs.declared.history.Grant.TheVariants as grant
use Rattle.mem_base.specs.declared.reply.View.{View}
use Rattle.block_model.specs.Block.{dead_byte, finding_in, fresh, new_byte, resized}
use Rattle.layout_model.specs.Asks.{FitsRequest, Request}
use Rattle.layout_model.specs.Asks.Request.{FromPools, FromRaw}
use Rattle.layout_model.specs.View.{shape_of}
use Rattle.layout_model.specs.Sizes.{class_of, need}
use Rattle.request_model.specs.Decision.{Decision, too_great, faults, asks, call_fault, decision, fits_in_place, move_request, request}
use Rattle.raw_region.specs.Region.{PieceView}
use Rattle.extents.specs.Extent.{piece_extent}
use Rattle.extents.specs.Sums.{Has, Inserted, Removed}
use Rattle.debug_guard.specs.Guard.{Guard, guard_extent, piece_of}
use Rattle.py_heap.specs.Heap.{Serves, IsFreed as IsFreedOfHeap}
use Rattle.sources.specs.Source.{ArenaShape, SourceView}
use Rattle.domain_api.specs.Held.{AreHeld, AreSound, DomainsView}
use Rattle.domain_api.specs.declared.answers.Asked.{Asked}
use Rattle.domain_api.specs.declared.answers.Got.{Got}
use Rattle.domain_api.specs.declared.answers.Got.TheVariants as gots
use Rattle.domain_api.specs.declared.answers.Freed.{Freed}
use Rattle.domain_api.specs.declared.answers.Freed.TheVariants as frees
use Rattle.domain_api.specs.declared.answers.Moved.{Moved}
use Rattle.domain_api.specs.declared.answers.Moved.TheVariants as moves
use Rattle.domain_api.specs.declared.decide.Decision.{Decision as Chosen}
use Rattle.domain_api.specs.declared.decide.Decision.TheVariants as chosen

-- the decision that a value of the code stands for
abbrev pub plain_decision : Chosen → Decision
plain_decision chosen.TooGreat = too_great
plain_decision (chosen.Faults found) = faults found
plain_decision chosen.Asks = asks

-- what n bytes of data and the hooks' bytes ask for, of the pools or of the raw source
abbrev pub request_of : Bool → ℕ → Request
request_of pooled n = if pooled then FromPools (need n) else FromRaw (need n)

-- no source was asked
abbrev pub not_asked : Asked
not_asked = record { arena = grant.NotAsked; raw = ask.NotAsked }

-- the block lies in a pool of the heap
pub record InHeap (n : ℕ) (block : Guard) (asked : Asked) (old new : DomainsView) : Type 0 where
  pub raw : asked.raw ≡ ask.NotAsked
  pub piece : PieceView
  pub there : piece_extent piece ≡ guard_extent block
  pub serves : Serves (class_of (need n)) asked.arena (Some piece) old.heap new.heap
  pub raws : new.raws ≡ old.raws

-- the block is all of a region of the raw source
pub record InRaw (block : Guard) (asked : Asked) (old new : DomainsView) : Type 0 where
  pub raw : asked.raw ≡ ask.Granted
  pub all : block.rest ≡ []
  pub heap : new.heap ≡ old.heap
  pub lent : Inserted (guard_extent block) old.raws new.raws

-- a new block of n bytes, each of them `fill`, was lent
pub record IsLent (v : Letter) (n fill : ℕ) (block : Guard) (asked : Asked) (old new : DomainsView)
    : Type 0 where
  pub body : block.body ≡ fresh v n fill
  pub aligned : block.place % 16 ≡ 0
  pub lies : InHeap n block asked old new ⊎ InRaw block asked old new

-- what a request for n bytes of `fill` got of the raw source, by its answer
abbrev pub IsTakenRaw : Letter → ℕ → ℕ → DomainsView → DomainsView → Got → Asked → Type 0
IsTakenRaw v n fill old new (gots.Block block) asked =
    IsLent v n fill block asked old new × (asked.raw ≡ ask.Granted)
IsTakenRaw v n fill old new gots.Null asked = (new ≡ old) × (asked.raw ≡ ask.Refused)
IsTakenRaw v n fill old new (gots.Fault found) asked = ⊥

-- what this request for n bytes of `fill` got, where the sources gave these answers
abbrev pub IsTakenBy : Request → Letter → ℕ → ℕ → DomainsView → DomainsView → Got → Asked → Type 0
IsTakenBy r v n fill old new (gots.Block block) asked =
    FitsRequest old.heap.layout r asked.arena asked.raw × IsLent v n fill block asked old new
IsTakenBy r v n fill old new gots.Null asked =
    (new ≡ old) × FitsRequest old.heap.layout r asked.arena asked.raw × (asked.raw ≡ ask.Refused)
IsTakenBy r v n fill old new (gots.Fault found) asked = ⊥

-- what a request for a new block of n bytes of `fill` that may ask the sources got
abbrev pub IsTaken : Letter → ℕ → ℕ → DomainsView → DomainsView → Got → Asked → Type 0
IsTaken v n fill old new got asked = IsTakenBy (request v n) v n fill old new got asked

-- nothing was asked and nothing has changed
abbrev pub IsIdle : DomainsView → DomainsView → Asked → Type 0
IsIdle old new asked = (new ≡ old) × (asked ≡ not_asked)

-- what a request for a new block of n bytes of `fill` got, where the sources gave these answers
abbrev pub IsMade : Letter → ℕ → ℕ → Bool → DomainsView → DomainsView → Got → Asked → Type 0
IsMade v n fill locked old new (gots.Block block) asked =
    (decision v n locked None ≡ asks) × IsTaken v n fill old new (gots.Block block) asked
IsMade v n fill locked old new gots.Null asked =
    ((decision v n locked None ≡ too_great) × IsIdle old new asked)
    ⊎ ((decision v n locked None ≡ asks) × IsTaken v n fill old new gots.Null asked)
IsMade v n fill locked old new (gots.Fault found) asked =
    (decision v n locked None ≡ faults found) × IsIdle old new asked

-- the block's piece, filled with DD, comes home to the heap
pub record LeavesToHeap (block : Guard) (old new : DomainsView) : Type 0 where
  pub piece : PieceView
  pub there : piece_extent piece ≡ guard_extent block
  pub dead : piece.bytes ≡ replicate (length (piece_of block).bytes) dead_byte
  pub freed : IsFreedOfHeap piece old.heap new.heap
  pub raws : new.raws ≡ old.raws

-- the block's region goes back to the raw source
pub record LeavesToRaw (block : Guard) (old new : DomainsView) : Type 0 where
  pub heap : new.heap ≡ old.heap
  pub back : Removed (guard_extent block) old.raws new.raws

-- the block goes from the heap that it is of
abbrev pub IsGivenUp : Guard → DomainsView → DomainsView → Type 0
IsGivenUp block old new = LeavesToHeap block old new ⊎ LeavesToRaw block old new

-- what the free of a block came to
abbrev pub IsFreed : Letter → Bool → Guard → DomainsView → DomainsView → Freed → Type 0
IsFreed v locked block old new frees.Done =
    (call_fault v locked (finding_in v block.body) ≡ None) × IsGivenUp block old new
IsFreed v locked block old new (frees.Fault kept found) =
    (call_fault v locked (finding_in v block.body) ≡ Some found) × (kept ≡ block) × (new ≡ old)

-- ---- realloc

-- the block lies in a pool, and may stay there with n bytes of data
pub record MayStay (n : ℕ) (block : Guard) (d : DomainsView) : Type 0 where
  pub pooled : Has (guard_extent block) d.heap.loans
  pub fits : fits_in_place (guard_extent block).len (need n) ≡ true

-- the block has to move to have n bytes of data, and asks for this: in a pool it does not fit so, or it lies in a raw
-- region
abbrev pub MustMove : Letter → ℕ → Guard → DomainsView → Request → Type 0
MustMove v n block d r =
    (Has (guard_extent block) d.heap.loans × (fits_in_place (guard_extent block).len (need n) ≡ false)
    × (r ≡ move_request true v n))
    ⊎ (Has (guard_extent block) d.raws × (r ≡ move_request false v n))

-- the block got n bytes of data where it lies
pub record IsResized (v : Letter) (n : ℕ) (was is : Guard) : Type 0 where
  pub body : is.body ≡ resized v n new_byte was.body
  pub same : (is.place ≡ was.place) × (is.maker ≡ was.maker)
  pub rest : is.rest ≡ drop (n + 24) (piece_of was).bytes
  pub extent : guard_extent is ≡ guard_extent was

-- The block moved: a new block was lent, it got the data of the old one, and then the old one was given up. In between
-- the domains had both, and what they held was out at the sources.
pub record IsMoved (v : Letter) (n : ℕ) (was is : Guard) (asked : Asked) (old new : DomainsView) : Type 0 where
  pub request : Request
  pub must : MustMove v n was old request
  pub fits : FitsRequest old.heap.layout request asked.arena asked.raw
  pub empty : Guard
  pub between : DomainsView
  pub lent : IsLent v n new_byte empty asked old between
  pub sound : AreSound between.heap between.raws
  pub held : (arenas : SourceView ArenaShape) × (raws : SourceView ℕ) × AreHeld between arenas raws
  pub carried : is ≡ record empty { body = resized v n new_byte was.body }
  pub gone : IsGivenUp was between new

-- the block has to move, and the raw source refused: it stays as it is
pub record IsRefused (v : Letter) (n : ℕ) (block : Guard) (asked : Asked) (old new : DomainsView) : Type 0 where
  pub request : Request
  pub must : MustMove v n block old request
  pub fits : FitsRequest old.heap.layout request asked.arena asked.raw
  pub refused : asked.raw ≡ ask.Refused
  pub same : new ≡ old

-- what the realloc of a block to n bytes that may ask the sources came to
abbrev pub IsChanged : Letter → ℕ → Guard → DomainsView → DomainsView → Moved → Asked → Type 0
IsChanged v n was old new (moves.Block is) asked =
    (MayStay n was old × IsResized v n was is × IsIdle old new asked) ⊎ IsMoved v n was is asked old new
IsChanged v n was old new (moves.Null kept) asked = (kept ≡ was) × IsRefused v n was asked old new
IsChanged v n was old new (moves.Fault kept found) asked = ⊥

-- what the realloc of a block to n bytes came to
abbrev pub IsReallocated : Letter → ℕ → Bool → Guard → DomainsView → DomainsView → Moved → Asked → Type 0
IsReallocated v n locked was old new (moves.Block is) asked =
    (decision v n locked (finding_in v was.body) ≡ asks) × IsChanged v n was old new (moves.Block is) asked
IsReallocated v n locked was old new (moves.Null kept) asked =
    ((decision v n locked (finding_in v was.body) ≡ too_great) × (kept ≡ was) × IsIdle old new asked)
    ⊎ ((decision v n locked (finding_in v was.body) ≡ asks) × IsChanged v n was old new (moves.Null kept) asked)
IsReallocated v n locked was old new (moves.Fault kept found) asked =
    (decision v n locked (finding_in v was.body) ≡ faults found) × (kept ≡ was) × IsIdle old new asked

-- a realloc that found no memory may ask the sources, and its block has to move
pub record CameToMove (v : Letter) (n : ℕ) (locked : Bool) (was : Guard) (d : DomainsView) : Type 0 where
  pub may_ask : decision v n locked (finding_in v was.body) ≡ asks
  pub request : Request
  pub must : MustMove v n was d request

-- ---- the heap's shape

-- the heap's shape, and how many blocks are raw regions
abbrev pub view_of_both : DomainsView → View
view_of_both d = shape_of (length d.heap.loans) (length d.raws) d.heap.layout
