-- What the operations on snapshots do.
use Rattle.std.proofs.Common.{◌≡◌, ℕ, ◌<◌, Bool, false, cond, List, length, map, Option, Some, None, Result, Ok, Err, refl}
use Rattle.std.proofs.Common.{sym, ap, subst, ◌∙◌, inl, inr, ◌⊎◌}
use Rattle.std.specs.Prelude.{IfOk, IfSome, is_some}
use Rattle.std.specs.Option.{option_map}
use Rattle.std.specs.declared.alloc.AllocError.{AllocError}
use Rattle.std.proofs.lemmas.List.{length-map}
use Rattle.mem_base.specs.Name.{Name}
use Rattle.mem_base.specs.Texts.{IsTable, text_at}
use Rattle.mem_base.specs.declared.history.Ask.TheVariants as ask
use Rattle.mem_base.specs.declared.history.Grant.TheVariants as grant
use Rattle.mem_base.specs.declared.reply.Diff.{Diff}
use Rattle.mem_base.specs.declared.reply.Group.{Group}
use Rattle.mem_base.specs.declared.reply.Reply.{Reply}
use Rattle.mem_base.specs.declared.reply.Reply.TheVariants as replies
use Rattle.mem_base.specs.declared.texts.TextId.{TextId}
use Rattle.mem_base.specs.declared.trace.Op.{Op}
use Rattle.mem_base.specs.declared.trace.Op.TheVariants as ops
use Rattle.mem_base.specs.declared.trace.Rule.{Rule}
use Rattle.layout_model.specs.Asks.{FitsRequest}
use Rattle.layout_model.specs.Asks.Request.{NoRequest}
use Rattle.map_model.specs.Map.{find, put}
use Rattle.tracing_model.specs.Tracing.{Tracing, keeps}
use Rattle.snapshot_model.specs.Rules.{kept_by}
use Rattle.snapshot_model.specs.Snapshots.{PlainSnapshot, snapshot_of}
use Rattle.event_model.specs.Deeds.{Deed, asks_snapshots}
use Rattle.event_model.specs.Effects.{change_of, effect, request_of}
use Rattle.event_model.specs.Replies.{PlainReply, changed, dumped, frames_of, groups, is_fault, kept as kept_traces}
use Rattle.event_model.specs.Replies.{no_snapshot, not_tracing, plain_reply}
use Rattle.event_model.specs.Snapshots.{Question, Snapshots, answer_to, changes_between, changes_in, groups_of}
use Rattle.event_model.specs.Snapshots.{keep_from, snapshot_turn, stats_in, text_in, text_of}
use Rattle.event_model.specs.State.{Held}
use Rattle.domain_api.specs.Domains.{not_asked}
use Rattle.trace_table.specs.Plain.{IsTaken, plain_row, plain_snapshot}
use Rattle.trace_table.specs.Ranks.{AreRanks}
use Rattle.trace_table.specs.declared.key.TraceOf.{TraceOf as Stored}
use Rattle.trace_table.specs.declared.snapshot.Snapshot.{Snapshot}
use Rattle.snap_stats.specs.declared.stats.Grouping.{Grouping}
use Rattle.snap_store.specs.Stand.{SnapshotsView, AreFirst, AreFirstChanges, IsKeptBy, IsTextOf, Keeps}
use Rattle.snap_store.specs.Stand.{SnapshotsStand, snapshot_at}
use Rattle.snap_store.proofs.CallerLemmas.{stand_with, taken_is, taken_stored}
use Rattle.machine_core.specs.Acts.{ActsAmong, left_by}
use Rattle.machine_core.specs.Deeds.{deed_for}
use Rattle.machine_core.specs.Held.{Holds, StandsFor}
use Rattle.machine_core.specs.Snapshots.{IsKeptNow}
use Rattle.machine_core.specs.Traces.{IsNumbered, TracesStand}
use Rattle.machine_core.specs.declared.held.Held.{Held as Holding}
use Rattle.machine_core.proofs.FollowLemmas.{kept_among}
use Rattle.machine_core.proofs.TracingLemmas.{nothing_asked}

-- nothing is kept while nothing is traced
nothing_kept : (tracing : Option Tracing) (name : Name) (all : Snapshots) → option_map (λ (x : Tracing). x.limit) tracing ≡ None
    → snapshot_turn tracing name all ≡ (all, not_tracing)
nothing_kept None name all none = refl
nothing_kept (Some x) name all none = let some : Some x.limit ≡ None = none in absurd cc

module _ (texts : List Name) (t : ℕ) (old new : Holding) (ranked : IfSome new.ranks (AreRanks texts))
    (others : new ≡ record old { ranks = new.ranks; snapshots = new.snapshots }) where
  -- these snapshots by number stand for these by name, and all else is as it was
  snapshots_stand : (h : Held) (plain : Snapshots) → StandsFor texts old h
      → SnapshotsStand texts old.callers.table new.snapshots plain → StandsFor texts new (record h { snapshots = plain })
  snapshots_stand h plain stands there = record {
    blocks = subst (λ (n : Holding). Holds texts n.store.blocks h.blocks) (sym others) stands.blocks;
    layout = ap (λ (n : Holding). n.store.layout) others ∙ stands.layout;
    owner = ap (λ (n : Holding). n.owner) others ∙ stands.owner;
    files = ap (λ (n : Holding). n.callers.files) others ∙ stands.files;
    frames = stands.frames ∙ ap (λ (n : Holding). map (frames_of texts) n.callers.frames) (sym others);
    traces = subst (λ (n : Holding). TracesStand texts n.callers.table n.tracing h.tracing) (sym others) stands.traces;
    ranks = ranked;
    snapshots = subst (λ (n : Holding). SnapshotsStand texts n.callers.table new.snapshots plain) (sym others) there;
  }

  -- an operation that leaves all but the snapshots, and answers no fault
  snapshots_act : (o : Op) (reply : Reply) → is_fault (plain_reply texts reply) ≡ false
      → ((h : Held) → request_of h t (deed_for texts o) ≡ NoRequest)
      → ((r : PlainReply) → change_of (deed_for texts o) r ≡ keeps)
      → ((h : Held) → IsTable texts → StandsFor texts old h → (plain : Snapshots)
      × SnapshotsStand texts old.callers.table new.snapshots plain
      × (effect h t (deed_for texts o) grant.NotAsked ask.NotAsked ≡ (record h { snapshots = plain }, plain_reply texts reply)))
      → ActsAmong texts t o old new not_asked reply
  snapshots_act o reply sound none keep does = kept_among texts t o old new not_asked reply keep (λ h table stands.
      let d = does h table stands in
      let after : Held = record h { snapshots = d.0 } in
      let left : left_by h (after, plain_reply texts reply) ≡ after = ap (λ (b : Bool). cond {A = Held} b h after) sound in
      record {
        held = subst (λ (x : Held × PlainReply). StandsFor texts new (left_by h x)) (sym d.2)
            (subst (StandsFor texts new) (sym left) (snapshots_stand h d.0 stands d.1));
        answer = sym (ap (λ (x : Held × PlainReply). x.1) d.2);
        fits = subst (λ (q : _). FitsRequest h.layout q grant.NotAsked ask.NotAsked) (sym (none h)) (nothing_asked h.layout);
      })

  -- ---- a snapshot is taken

  taken_turn : (name : TextId) (s : Snapshot) → name.0 < length texts → IsTaken texts old.tracing s
      → Keeps name s old.snapshots new.snapshots → (h : Held) → IsTable texts → StandsFor texts old h
      → (tracing : Option Tracing) → TracesStand texts old.callers.table old.tracing tracing
      → (plain : Snapshots) × SnapshotsStand texts old.callers.table new.snapshots plain
      × (snapshot_turn tracing (text_at texts name) h.snapshots ≡ (plain, kept_traces (length s.rows)))
  taken_turn name s known taken keep h names stands None traces =
      let none : None ≡ Some s.limit = sym traces.limit ∙ taken.limit in absurd cc
  taken_turn name s known taken keep h names stands (Some x) traces =
      let table = old.callers.table in
      let text = text_at texts name in
      let is = taken_is texts table old.tracing s x taken traces.limit traces.distinct
      (λ key there. (traces.each key there).named) traces.known traces.named in
      let stored = taken_stored texts table old.tracing s taken (λ key of at.
      subst (IsNumbered table) at
      (traces.each key (traces.known key (ap (λ (o : Option Stored). is_some o) at))).numbered) in
      let count : length (snapshot_of x).rows ≡ length s.rows =
      ap (λ (p : PlainSnapshot). length p.rows) (sym is) ∙ length-map s.rows (plain_row texts table) in (
        put h.snapshots text (snapshot_of x),
        subst (λ (p : PlainSnapshot). SnapshotsStand texts table new.snapshots (put h.snapshots text p)) is
            (stand_with texts table name s old.snapshots new.snapshots h.snapshots names.distinct known stored keep
            stands.snapshots),
        λ i. (put h.snapshots text (snapshot_of x), kept_traces (count i)),
      )

  pub snapshot_acts : (name : TextId) (reply : Reply) → name.0 < length texts
      → IsKeptNow texts old.tracing name old.snapshots new.snapshots reply
      → ActsAmong texts t (ops.Snapshot name) old new not_asked reply
  snapshot_acts name reply known (inl idle) =
      subst (λ (r : Reply). ActsAmong texts t (ops.Snapshot name) old new not_asked r) (sym idle.2)
      (snapshots_act (ops.Snapshot name) replies.NotTracing refl (λ h. refl) (λ r. refl) (λ h names stands. (
        h.snapshots,
        subst (λ (v : SnapshotsView). SnapshotsStand texts old.callers.table v h.snapshots) (sym idle.1) stands.snapshots,
        ap (λ (r : Snapshots × PlainReply). (record h { snapshots = r.0 }, r.1))
            (nothing_kept h.tracing (text_at texts name) h.snapshots (sym stands.traces.limit ∙ idle.0)),
      )))
  snapshot_acts name reply known (inr kept) =
      subst (λ (r : Reply). ActsAmong texts t (ops.Snapshot name) old new not_asked r) (sym kept.3)
      (snapshots_act (ops.Snapshot name) (replies.Kept (length kept.0.rows)) refl (λ h. refl) (λ r. refl)
      (λ h names stands.
      let turn = taken_turn name kept.0 known kept.1 kept.2 h names stands h.tracing stands.traces in
      (turn.0, turn.1, ap (λ (r : Snapshots × PlainReply). (record h { snapshots = r.0 }, r.1)) turn.2)))

  -- or there was no memory
  pub snapshot_does : (name : TextId) → name.0 < length texts → (r : Result Reply AllocError)
      → IfOk r (IsKeptNow texts old.tracing name old.snapshots new.snapshots)
      → IfOk r (ActsAmong texts t (ops.Snapshot name) old new not_asked)
  snapshot_does name known (Ok reply) kept = snapshot_acts name reply known kept
  snapshot_does name known (Err e) kept = tt

  -- ---- rules keep some of it

  module _ (into from : TextId) (rules : List Rule) (from_known : from.0 < length texts) where
    -- what is kept of the snapshot that is found, by name
    abbrev kept_in : Held → Option PlainSnapshot → Held × PlainReply
    kept_in h found = let r = keep_from (text_at texts into) rules found h.snapshots in (record h { snapshots = r.0 }, r.1)

    pub keep_none : snapshot_at old.snapshots from ≡ None → new.snapshots ≡ old.snapshots
        → ActsAmong texts t (ops.Keep into from rules) old new not_asked replies.NoSnapshot
    keep_none none same =
        snapshots_act (ops.Keep into from rules) replies.NoSnapshot refl (λ h. refl) (λ r. refl) (λ h names stands. (
          h.snapshots,
          subst (λ (v : SnapshotsView). SnapshotsStand texts old.callers.table v h.snapshots) (sym same) stands.snapshots,
          ap (kept_in h) (stands.snapshots.named from from_known
              ∙ ap (option_map (plain_snapshot texts old.callers.table)) none),
        ))

    pub keep_some : (count : ℕ) → into.0 < length texts
        → IsKeptBy texts old.callers.table rules into from old.snapshots new.snapshots count
        → ActsAmong texts t (ops.Keep into from rules) old new not_asked (replies.Kept count)
    keep_some count into_known kept =
        snapshots_act (ops.Keep into from rules) (replies.Kept count) refl (λ h. refl) (λ r. refl) (λ h names stands.
        let table = old.callers.table in
        let text = text_at texts into in
        let rest = kept_by rules (plain_snapshot texts table kept.from) in
        let counted : length rest.rows ≡ count =
        ap (λ (p : PlainSnapshot). length p.rows) (sym kept.kept) ∙ length-map kept.rest.rows (plain_row texts table)
        ∙ sym kept.counted in (
          put h.snapshots text rest,
          subst (λ (p : PlainSnapshot). SnapshotsStand texts table new.snapshots (put h.snapshots text p)) kept.kept
              (stand_with texts table into kept.rest old.snapshots new.snapshots h.snapshots names.distinct into_known
              kept.stored kept.keeps stands.snapshots),
          ap (kept_in h) (stands.snapshots.named from from_known
              ∙ ap (option_map (plain_snapshot texts table)) kept.had)
              ∙ (λ i. (record h { snapshots = put h.snapshots text rest }, kept_traces (counted i))),
        ))

-- ---- the snapshots are asked

module _ (texts : List Name) (t : ℕ) (old : Holding) (ranked : IfSome old.ranks (AreRanks texts)) where
  -- an operation that comes to a question, whose answer is the reply
  asked_acts : (o : Op) (question : Question) (reply : Reply) → deed_for texts o ≡ asks_snapshots question
      → is_fault (plain_reply texts reply) ≡ false
      → ((plain : Snapshots) → SnapshotsStand texts old.callers.table old.snapshots plain
      → answer_to plain question ≡ plain_reply texts reply)
      → ActsAmong texts t o old old not_asked reply
  asked_acts o question reply is sound answers =
      snapshots_act texts t old old ranked refl o reply sound (λ h. ap (request_of h t) is)
      (λ r. ap (λ (d : Deed). change_of d r) is)
      (λ h names stands. (
        h.snapshots,
        stands.snapshots,
        ap (λ (d : Deed). effect h t d grant.NotAsked ask.NotAsked) is
            ∙ ap (λ (r : PlainReply). (h, r)) (answers h.snapshots stands.snapshots),
      ))

  -- what a name has by its text, where this is what its number has
  named_so : (name : TextId) (found : Option Snapshot) → name.0 < length texts → snapshot_at old.snapshots name ≡ found
      → (plain : Snapshots) → SnapshotsStand texts old.callers.table old.snapshots plain
      → find plain (text_at texts name) ≡ option_map (plain_snapshot texts old.callers.table) found
  named_so name found known is plain stands =
      stands.named name known ∙ ap (option_map (plain_snapshot texts old.callers.table)) is

  -- ---- statistics

  module _ (name : TextId) (by : Grouping) (most : ℕ) (known : name.0 < length texts) where
    abbrev stats_op : Op
    stats_op = ops.Stats name by.key by.cumulative most

    abbrev stats_asked : Question
    stats_asked = groups_of (text_at texts name) by.key by.cumulative most

    pub stats_none : snapshot_at old.snapshots name ≡ None → ActsAmong texts t stats_op old old not_asked replies.NoSnapshot
    stats_none none = asked_acts stats_op stats_asked replies.NoSnapshot refl refl
        (λ plain stands. ap (stats_in by.key by.cumulative most) (named_so name None known none plain stands))

    pub stats_some : (answer : ℕ × List Group)
        → AreFirst texts old.callers.table by most (snapshot_at old.snapshots name) answer
        → ActsAmong texts t stats_op old old not_asked (replies.Groups answer.0 answer.1)
    stats_some answer first = asked_acts stats_op stats_asked (replies.Groups answer.0 answer.1) refl refl
        (λ plain stands. ap (stats_in by.key by.cumulative most) (named_so name (Some first.from) known first.had plain stands)
        ∙ (λ i. groups (sym first.counted i) (sym first.first i)))

  -- ---- changes

  module _ (names : TextId × TextId) (by : Grouping) (most : ℕ) (new_known : names.0.0 < length texts)
      (old_known : names.1.0 < length texts) where
    abbrev compare_op : Op
    compare_op = ops.Compare names.0 names.1 by.key by.cumulative most

    abbrev compare_asked : Question
    compare_asked = changes_between (text_at texts names.0) (text_at texts names.1) by.key by.cumulative most

    -- there is none where one of the two has no snapshot
    lacks_one : (n o : Option PlainSnapshot) → ((n ≡ None) ⊎ (o ≡ None)) → changes_in by.key by.cumulative most n o ≡ no_snapshot
    lacks_one None o lacks = refl
    lacks_one (Some s) None lacks = refl
    lacks_one (Some s) (Some r) lacks = elim lacks [ inl none ↦ absurd cc | inr none ↦ absurd cc ]

    pub compare_none : (snapshot_at old.snapshots names.0 ≡ None) ⊎ (snapshot_at old.snapshots names.1 ≡ None)
        → ActsAmong texts t compare_op old old not_asked replies.NoSnapshot
    compare_none none = asked_acts compare_op compare_asked replies.NoSnapshot refl refl (λ plain stands.
        lacks_one (find plain (text_at texts names.0)) (find plain (text_at texts names.1))
        (elim none [
          | inl new ↦ inl (named_so names.0 None new_known new plain stands)
          | inr was ↦ inr (named_so names.1 None old_known was plain stands)
        ]))

    pub compare_some : (answer : ℕ × List Diff)
        → AreFirstChanges texts old.callers.table by most (snapshot_at old.snapshots names.0, snapshot_at old.snapshots names.1) answer
        → ActsAmong texts t compare_op old old not_asked (replies.Diffs answer.0 answer.1)
    compare_some answer first = asked_acts compare_op compare_asked (replies.Diffs answer.0 answer.1) refl refl
        (λ plain stands.
        (λ i. changes_in by.key by.cumulative most (named_so names.0 (Some first.new) new_known first.had_new plain stands i)
        (named_so names.1 (Some first.old) old_known first.had_old plain stands i))
        ∙ (λ i. changed (sym first.counted i) (sym first.first i)))

  -- ---- dumps

  module _ (name : TextId) (known : name.0 < length texts) where
    pub dump_none : snapshot_at old.snapshots name ≡ None
        → ActsAmong texts t (ops.Dump name) old old not_asked replies.NoSnapshot
    dump_none none = asked_acts (ops.Dump name) (text_of (text_at texts name)) replies.NoSnapshot refl refl
        (λ plain stands. ap text_in (named_so name None known none plain stands))

    pub dump_some : (text : List ℕ) → IsTextOf texts old.callers.table (snapshot_at old.snapshots name) text
        → ActsAmong texts t (ops.Dump name) old old not_asked (replies.Dumped text)
    dump_some text spelt = asked_acts (ops.Dump name) (text_of (text_at texts name)) (replies.Dumped text) refl refl
        (λ plain stands. ap text_in (named_so name (Some spelt.from) known spelt.had plain stands)
        ∙ ap dumped (sym spelt.spelt))
