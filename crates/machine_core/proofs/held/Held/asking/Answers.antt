use Rattle.std.proofs.Common.{◌<◌, length, refl, sym, subst}
use Rattle.mem_base.specs.declared.trace.Op.TheVariants as ops
use Rattle.mem_base.specs.declared.trace.Side.TheVariants as sides
use Rattle.request_model.specs.Counts.{arena_asks, arena_refusals, raw_asks, raw_refusals}
use Rattle.trace_model.specs.Plain.{IsKnownAmong}
use Rattle.event_model.specs.Deeds.{calloc_call, malloc_call, realloc_call}
use Rattle.event_model.specs.State.{is_owner}
use Rattle.block_store.specs.declared.answer.Answer.{Answer}
use Rattle.event_model.specs.Replies.{IsKnownReply}
use Rattle.block_store.specs.Store.{sized_by}
use Rattle.machine_core.specs.Acts.{Affects, Asks}
use Rattle.machine_core.specs.Deeds.{IsCallFor}
use Rattle.machine_core.proofs.FollowLemmas.{sized_known, textless}
use Rattle.machine_core.specs.declared.held.Held.{Held as Holding}
use Rattle.machine_core.proofs.ActLemmas.{held_told, nothing_fails, nothing_fails_unrefused, on_err, told_asks}
use Rattle.machine_core.proofs.DeedLemmas.{called}
use Rattle.machine_core.proofs.HeldLemmas.{call_is, free_affects, sized_does}
use Rattle.machine_core.proofs.held.Held.asking.Goals as goal

pub returns-in-Malloc-clause-affects : goal.returns-in-Malloc-clause-affects
returns-in-Malloc-clause-affects g c =
    let old = c.args.self.now in
    let known : c.in-Malloc.name.0 < length old.store.blocks =
    subst (IsKnownAmong (length old.store.blocks)) c.in-Malloc.is c.requires.known in
    let call = c.call-call.result in
    let of = call_is (λ v. malloc_call v c.in-Malloc.size) c.in-Malloc.letter (is_owner old.owner c.args.t) call
    c.call-call.ensures in
    sized_does c.args.t c.args.op.now old (record old { store = c.malloc.new.self }) c.in-Malloc.name
    (malloc_call call.letter c.in-Malloc.size) call.locked c.malloc.result refl
    (subst (IsCallFor c.args.op.now c.in-Malloc.name) (sym of.0)
    (called c.args.op.now (ops.Malloc c.in-Malloc.letter c.in-Malloc.name c.in-Malloc.size) c.in-Malloc.name
    (malloc_call c.in-Malloc.letter c.in-Malloc.size) c.in-Malloc.is (λ texts. refl))) of.1 known
    c.malloc.ensures.turn c.malloc.ensures.fits

pub returns-in-Calloc-clause-affects : goal.returns-in-Calloc-clause-affects
returns-in-Calloc-clause-affects g c =
    let old = c.args.self.now in
    let known : c.in-Calloc.name.0 < length old.store.blocks =
    subst (IsKnownAmong (length old.store.blocks)) c.in-Calloc.is c.requires.known in
    let call = c.call-call-in-Calloc.result in
    let of = call_is (λ v. calloc_call v c.in-Calloc.elements c.in-Calloc.size) c.in-Calloc.letter
    (is_owner old.owner c.args.t) call c.call-call-in-Calloc.ensures in
    sized_does c.args.t c.args.op.now old (record old { store = c.calloc.new.self }) c.in-Calloc.name
    (calloc_call call.letter c.in-Calloc.elements c.in-Calloc.size) call.locked c.calloc.result refl
    (subst (IsCallFor c.args.op.now c.in-Calloc.name) (sym of.0)
    (called c.args.op.now (ops.Calloc c.in-Calloc.letter c.in-Calloc.name c.in-Calloc.elements c.in-Calloc.size)
    c.in-Calloc.name (calloc_call c.in-Calloc.letter c.in-Calloc.elements c.in-Calloc.size) c.in-Calloc.is
    (λ texts. refl))) of.1 known c.calloc.ensures.turn c.calloc.ensures.fits

pub returns-in-Realloc-clause-affects : goal.returns-in-Realloc-clause-affects
returns-in-Realloc-clause-affects g c =
    let old = c.args.self.now in
    let known : c.in-Realloc.name.0 < length old.store.blocks =
    subst (IsKnownAmong (length old.store.blocks)) c.in-Realloc.is c.requires.known in
    let call = c.call-call-in-Realloc.result in
    let of = call_is (λ v. realloc_call v c.in-Realloc.size) c.in-Realloc.letter (is_owner old.owner c.args.t) call
    c.call-call-in-Realloc.ensures in
    sized_does c.args.t c.args.op.now old (record old { store = c.realloc.new.self }) c.in-Realloc.name
    (realloc_call call.letter c.in-Realloc.size) call.locked c.realloc.result refl
    (subst (IsCallFor c.args.op.now c.in-Realloc.name) (sym of.0)
    (called c.args.op.now (ops.Realloc c.in-Realloc.letter c.in-Realloc.name c.in-Realloc.size) c.in-Realloc.name
    (realloc_call c.in-Realloc.letter c.in-Realloc.size) c.in-Realloc.is (λ texts. refl))) of.1
    known c.realloc.ensures.turn c.realloc.ensures.fits

pub returns-in-Free-clause-affects : goal.returns-in-Free-clause-affects
returns-in-Free-clause-affects g c =
    let old = c.args.self.now in
    let new : Holding = record old { store = c.free-reply.new.self } in
    let known : c.in-Free.name.0 < length old.store.blocks =
    subst (IsKnownAmong (length old.store.blocks)) c.in-Free.is c.requires.known in
    subst (λ (a : Answer). Affects c.args.t c.args.op.now old new a.asked a.reply) (sym c.unasked.ensures)
    (free_affects c.args.t c.args.op.now old new c.free-reply.result refl c.in-Free.letter c.in-Free.name
    c.call-call-in-Free.result c.in-Free.is c.call-call-in-Free.ensures known c.free-reply.ensures.turn)

pub returns-in-Malloc-clause-known : goal.returns-in-Malloc-clause-known
returns-in-Malloc-clause-known g c =
    let call = c.call-call.result in
    sized_known (length c.args.self.now.store.blocks) c.malloc.result c.in-Malloc.name.0
    (sized_by (malloc_call call.letter c.in-Malloc.size) call.locked) c.args.self.now.store c.malloc.new.self
    c.malloc.ensures.turn

pub returns-in-Calloc-clause-known : goal.returns-in-Calloc-clause-known
returns-in-Calloc-clause-known g c =
    let call = c.call-call-in-Calloc.result in
    sized_known (length c.args.self.now.store.blocks) c.calloc.result c.in-Calloc.name.0
    (sized_by (calloc_call call.letter c.in-Calloc.elements c.in-Calloc.size) call.locked) c.args.self.now.store
    c.calloc.new.self c.calloc.ensures.turn

pub returns-in-Realloc-clause-known : goal.returns-in-Realloc-clause-known
returns-in-Realloc-clause-known g c =
    let call = c.call-call-in-Realloc.result in
    sized_known (length c.args.self.now.store.blocks) c.realloc.result c.in-Realloc.name.0
    (sized_by (realloc_call call.letter c.in-Realloc.size) call.locked) c.args.self.now.store c.realloc.new.self
    c.realloc.ensures.turn

pub returns-in-Free-clause-known : goal.returns-in-Free-clause-known
returns-in-Free-clause-known g c =
    subst (λ (a : Answer). IsKnownReply (length c.args.self.now.store.blocks) a.reply) (sym c.unasked.ensures)
    (textless (length c.args.self.now.store.blocks) c.free-reply.result _ c.free-reply.ensures.turn.answer)

pub returns-in_ok-refuse-in-Refuse-clause-asks_arena : goal.returns-in_ok-refuse-in-Refuse-clause-asks_arena
returns-in_ok-refuse-in-Refuse-clause-asks_arena g c =
    let held = c.args.self.now.store.arenas in
    let old = g.A.ArenaSource.seen c.args.arenas.now in
    let new = g.A.ArenaSource.seen c.refuse.new.arenas in
    subst (λ (a : Answer). Asks c.args.op.now sides.Arena (arena_asks a.asked.arena) (arena_refusals a.asked.arena)
    held held old new) (sym c.unasked-in-Refuse.ensures)
    (told_asks c.args.op.now held old new c.requires.held.arenas_out sides.Arena c.in-Refuse.side c.in-Refuse.k
    c.in-Refuse.is c.in_ok-refuse-in-Refuse.ensures.arenas)

pub returns-in_ok-refuse-in-Refuse-clause-asks_raw : goal.returns-in_ok-refuse-in-Refuse-clause-asks_raw
returns-in_ok-refuse-in-Refuse-clause-asks_raw g c =
    let held = c.args.self.now.store.raws in
    let old = g.R.RawSource.seen c.args.raws.now in
    let new = g.R.RawSource.seen c.refuse.new.raws in
    subst (λ (a : Answer). Asks c.args.op.now sides.Raw (raw_asks a.asked.raw) (raw_refusals a.asked.raw) held held
    old new) (sym c.unasked-in-Refuse.ensures)
    (told_asks c.args.op.now held old new c.requires.held.raws_out sides.Raw c.in-Refuse.side c.in-Refuse.k
    c.in-Refuse.is c.in_ok-refuse-in-Refuse.ensures.raws)

pub returns-in_ok-refuse-in-Refuse-clause-held : goal.returns-in_ok-refuse-in-Refuse-clause-held
returns-in_ok-refuse-in-Refuse-clause-held g c =
    held_told c.args.self.now.store c.in-Refuse.side c.in-Refuse.k (g.A.ArenaSource.seen c.args.arenas.now)
    (g.A.ArenaSource.seen c.refuse.new.arenas) (g.R.RawSource.seen c.args.raws.now)
    (g.R.RawSource.seen c.refuse.new.raws)
    c.requires.held c.in_ok-refuse-in-Refuse.ensures.arenas c.in_ok-refuse-in-Refuse.ensures.raws

pub returns-in_err-refuse-in-Refuse-clause-fails_arena : goal.returns-in_err-refuse-in-Refuse-clause-fails_arena
returns-in_err-refuse-in-Refuse-clause-fails_arena g c =
    on_err c.from_residual.result
    (nothing_fails c.args.self.now.store.arenas (g.A.ArenaSource.seen c.args.arenas.now)
    (g.A.ArenaSource.seen c.refuse.new.arenas) c.requires.held.arenas_out
    c.in_err-refuse-in-Refuse.ensures.arenas_left)

pub returns-in_err-refuse-in-Refuse-clause-fails_raw : goal.returns-in_err-refuse-in-Refuse-clause-fails_raw
returns-in_err-refuse-in-Refuse-clause-fails_raw g c =
    on_err c.from_residual.result
    (nothing_fails_unrefused c.args.self.now.store.raws (g.R.RawSource.seen c.args.raws.now)
    (g.R.RawSource.seen c.refuse.new.raws) c.requires.held.raws_out c.in_err-refuse-in-Refuse.ensures.raws_left)
