use Rattle.std.proofs.Common.{◌≡◌, ◌<◌, ◌∷◌, [], ◌∙◌, List, length, map, ap, sym, subst}
use Rattle.std.specs.Prelude.{All}
use Rattle.extents.specs.Sums.{Has}
use Rattle.mem_base.specs.declared.reply.Diff.{Diff}
use Rattle.frame_stack.specs.Callers.{AreAmong}
use Rattle.frame_stack.specs.Tracebacks.{traceback_at}
use Rattle.snapshot_model.specs.Compared.{change_cmp, plain_change}
use Rattle.snapshot_model.specs.Occurrences.{occurrences}
use Rattle.trace_table.specs.Plain.{plain_rows}
use Rattle.trace_table.specs.declared.snapshot.Row.{Row}
use Rattle.frame_stack.specs.declared.tracebacks.TbId.{TbId}
use Rattle.snap_stats.specs.declared.pairs.Pair.{Pair}
use Rattle.snap_stats.specs.Pairs.{diff_by, pairs_of, whole_change, IsSmallPair}
use Rattle.snap_stats.specs.Sums.{parts_of, same_frame, same_id, AddsUp, AreOfFrames}
use Rattle.snap_stats.proofs.Between.{frames_change, frames_known, frames_small, ids_known, ids_small, wholes_among, wholes_change}
use Rattle.snap_stats.proofs.Changing.{changes_first, changes_long, AreChanges}
use Rattle.snap_stats.proofs.Firsts.{front_keeps}
use Rattle.snap_stats.proofs.changes.first_changes.Goals as goal

pub frames_changed-requires : goal.frames_changed-requires
frames_changed-requires c =
    let texts = c.args.texts.now in
    let table = c.args.table.now in
    let new = c.args.new.now.rows in
    let old = c.args.old.now.rows in
    let td = c.len-texts.ensures.table.distinct in
    let cumulative = c.args.by.cumulative in
    let by_line = c.in-Some.by_line in
    let news = c.in_ok-new-in-Some.new.entries in
    let olds = c.in_ok-old-in-Some.old.entries in
    let new_of : AreOfFrames by_line cumulative table new news =
    subst (λ (l : List Row). AreOfFrames by_line cumulative table l news) c.as_slice-new_rows.ensures c.in_ok-new-in-Some.ensures in
    let old_of : AreOfFrames by_line cumulative table old olds =
    subst (λ (l : List Row). AreOfFrames by_line cumulative table l olds) c.as_slice-old_rows.ensures c.in_ok-old-in-Some.ensures in
    subst (All IsSmallPair) (sym (c.deref.ensures.value ∙ c.in_ok-pairs-in-Some.ensures.pairs))
    (frames_small texts table td cumulative new old c.requires.new c.requires.old by_line news olds new_of old_of)

pub tracebacks_changed-requires-clause-known : goal.tracebacks_changed-requires-clause-known
tracebacks_changed-requires-clause-known c =
    let texts = c.args.texts.now in
    let table = c.args.table.now in
    let new = c.args.new.now.rows in
    let old = c.args.old.now.rows in
    let td = c.len-texts.ensures.table.distinct in
    let cumulative = c.args.by.cumulative in
    let news = c.in_ok-new-in-None.new.entries in
    let olds = c.in_ok-old-in-None.old.entries in
    let new_adds : AddsUp same_id (parts_of new) news =
    subst (λ (l : List Row). AddsUp same_id (parts_of l) news) c.as_slice-new_rows.ensures c.in_ok-new-in-None.ensures in
    let old_adds : AddsUp same_id (parts_of old) olds =
    subst (λ (l : List Row). AddsUp same_id (parts_of l) olds) c.as_slice-old_rows.ensures c.in_ok-old-in-None.ensures in
    subst (All (λ (p : Pair TbId). p.key.0 < length table)) (sym (c.deref-in-None.ensures.value ∙ c.in_ok-pairs-in-None.ensures.pairs))
    (ids_known texts table td cumulative new old c.requires.new c.requires.old news olds new_adds old_adds)

pub tracebacks_changed-requires-clause-small : goal.tracebacks_changed-requires-clause-small
tracebacks_changed-requires-clause-small c =
    let texts = c.args.texts.now in
    let table = c.args.table.now in
    let new = c.args.new.now.rows in
    let old = c.args.old.now.rows in
    let td = c.len-texts.ensures.table.distinct in
    let cumulative = c.args.by.cumulative in
    let news = c.in_ok-new-in-None.new.entries in
    let olds = c.in_ok-old-in-None.old.entries in
    let new_adds : AddsUp same_id (parts_of new) news =
    subst (λ (l : List Row). AddsUp same_id (parts_of l) news) c.as_slice-new_rows.ensures c.in_ok-new-in-None.ensures in
    let old_adds : AddsUp same_id (parts_of old) olds =
    subst (λ (l : List Row). AddsUp same_id (parts_of l) olds) c.as_slice-old_rows.ensures c.in_ok-old-in-None.ensures in
    subst (All IsSmallPair) (sym (c.deref-in-None.ensures.value ∙ c.in_ok-pairs-in-None.ensures.pairs))
    (ids_small texts table td cumulative new old c.requires.new c.requires.old news olds new_adds old_adds)

pub returns-in_ok-answer-in-Some-clause-count : goal.returns-in_ok-answer-in-Some-clause-count
returns-in_ok-answer-in-Some-clause-count c =
    let texts = c.args.texts.now in
    let table = c.args.table.now in
    let new = c.args.new.now.rows in
    let old = c.args.old.now.rows in
    let td = c.len-texts.ensures.table.distinct in
    let cumulative = c.args.by.cumulative in
    let by_line = c.in-Some.by_line in
    let news = c.in_ok-new-in-Some.new.entries in
    let olds = c.in_ok-old-in-Some.old.entries in
    let new_of : AreOfFrames by_line cumulative table new news =
    subst (λ (l : List Row). AreOfFrames by_line cumulative table l news) c.as_slice-new_rows.ensures c.in_ok-new-in-Some.ensures in
    let old_of : AreOfFrames by_line cumulative table old olds =
    subst (λ (l : List Row). AreOfFrames by_line cumulative table l olds) c.as_slice-old_rows.ensures c.in_ok-old-in-Some.ensures in
    let all : List Diff = map whole_change c.deref_mut.result.now in
    let changes : all ≡ map (diff_by (λ f. f ∷ [])) (pairs_of same_frame news olds) =
    ap (map whole_change) c.deref_mut.ensures.value ∙ c.in_ok-changes-in-Some.ensures
    ∙ ap (map (diff_by (λ f. f ∷ []))) (c.deref.ensures.value ∙ c.in_ok-pairs-in-Some.ensures.pairs) in
    let answer = c.in_ok-answer-in-Some.ensures in
    let now = occurrences c.args.by.key cumulative (plain_rows texts table new) in
    let before = occurrences c.args.by.key cumulative (plain_rows texts table old) in
    let are : AreChanges now before (map (plain_change texts) all) =
    frames_change texts table td cumulative new old c.requires.new c.requires.old by_line news olds new_of old_of
    c.in_ok-pairs-in-Some.ensures.new c.in_ok-pairs-in-Some.ensures.old c.args.by.key all c.in-Some.ensures.some changes in
    answer.count ∙ sym (changes_long now before (plain_change texts) all are)

pub returns-in_ok-answer-in-Some-clause-first : goal.returns-in_ok-answer-in-Some-clause-first
returns-in_ok-answer-in-Some-clause-first c =
    let texts = c.args.texts.now in
    let table = c.args.table.now in
    let new = c.args.new.now.rows in
    let old = c.args.old.now.rows in
    let td = c.len-texts.ensures.table.distinct in
    let cumulative = c.args.by.cumulative in
    let by_line = c.in-Some.by_line in
    let news = c.in_ok-new-in-Some.new.entries in
    let olds = c.in_ok-old-in-Some.old.entries in
    let new_of : AreOfFrames by_line cumulative table new news =
    subst (λ (l : List Row). AreOfFrames by_line cumulative table l news) c.as_slice-new_rows.ensures c.in_ok-new-in-Some.ensures in
    let old_of : AreOfFrames by_line cumulative table old olds =
    subst (λ (l : List Row). AreOfFrames by_line cumulative table l olds) c.as_slice-old_rows.ensures c.in_ok-old-in-Some.ensures in
    let all : List Diff = map whole_change c.deref_mut.result.now in
    let changes : all ≡ map (diff_by (λ f. f ∷ [])) (pairs_of same_frame news olds) =
    ap (map whole_change) c.deref_mut.ensures.value ∙ c.in_ok-changes-in-Some.ensures
    ∙ ap (map (diff_by (λ f. f ∷ []))) (c.deref.ensures.value ∙ c.in_ok-pairs-in-Some.ensures.pairs) in
    let answer = c.in_ok-answer-in-Some.ensures in
    let now = occurrences c.args.by.key cumulative (plain_rows texts table new) in
    let before = occurrences c.args.by.key cumulative (plain_rows texts table old) in
    let are : AreChanges now before (map (plain_change texts) all) =
    frames_change texts table td cumulative new old c.requires.new c.requires.old by_line news olds new_of old_of
    c.in_ok-pairs-in-Some.ensures.new c.in_ok-pairs-in-Some.ensures.old c.args.by.key all c.in-Some.ensures.some changes in
    changes_first now before (plain_change texts) all are c.in_ok-answer-in-Some.answer.1 answer.front c.args.most answer.len

pub returns-in_ok-answer-in-Some-clause-known : goal.returns-in_ok-answer-in-Some-clause-known
returns-in_ok-answer-in-Some-clause-known c =
    let texts = c.args.texts.now in
    let table = c.args.table.now in
    let new = c.args.new.now.rows in
    let old = c.args.old.now.rows in
    let td = c.len-texts.ensures.table.distinct in
    let cumulative = c.args.by.cumulative in
    let by_line = c.in-Some.by_line in
    let news = c.in_ok-new-in-Some.new.entries in
    let olds = c.in_ok-old-in-Some.old.entries in
    let new_of : AreOfFrames by_line cumulative table new news =
    subst (λ (l : List Row). AreOfFrames by_line cumulative table l news) c.as_slice-new_rows.ensures c.in_ok-new-in-Some.ensures in
    let old_of : AreOfFrames by_line cumulative table old olds =
    subst (λ (l : List Row). AreOfFrames by_line cumulative table l olds) c.as_slice-old_rows.ensures c.in_ok-old-in-Some.ensures in
    let all : List Diff = map whole_change c.deref_mut.result.now in
    let changes : all ≡ map (diff_by (λ f. f ∷ [])) (pairs_of same_frame news olds) =
    ap (map whole_change) c.deref_mut.ensures.value ∙ c.in_ok-changes-in-Some.ensures
    ∙ ap (map (diff_by (λ f. f ∷ []))) (c.deref.ensures.value ∙ c.in_ok-pairs-in-Some.ensures.pairs) in
    let answer = c.in_ok-answer-in-Some.ensures in
    front_keeps (λ (d : Diff). AreAmong (length texts) d.key) change_cmp (plain_change texts) all c.in_ok-answer-in-Some.answer.1 answer.front
    (λ d h. frames_known texts table td cumulative new old c.requires.new c.requires.old by_line news olds new_of old_of d (subst (Has d) changes h))

pub returns-in_ok-answer-in-None-clause-count : goal.returns-in_ok-answer-in-None-clause-count
returns-in_ok-answer-in-None-clause-count c =
    let texts = c.args.texts.now in
    let table = c.args.table.now in
    let new = c.args.new.now.rows in
    let old = c.args.old.now.rows in
    let td = c.len-texts.ensures.table.distinct in
    let cumulative = c.args.by.cumulative in
    let news = c.in_ok-new-in-None.new.entries in
    let olds = c.in_ok-old-in-None.old.entries in
    let new_adds : AddsUp same_id (parts_of new) news =
    subst (λ (l : List Row). AddsUp same_id (parts_of l) news) c.as_slice-new_rows.ensures c.in_ok-new-in-None.ensures in
    let old_adds : AddsUp same_id (parts_of old) olds =
    subst (λ (l : List Row). AddsUp same_id (parts_of l) olds) c.as_slice-old_rows.ensures c.in_ok-old-in-None.ensures in
    let all : List Diff = map whole_change c.deref_mut-in-None.result.now in
    let changes : all ≡ map (diff_by (traceback_at table)) (pairs_of same_id news olds) =
    ap (map whole_change) c.deref_mut-in-None.ensures.value ∙ c.in_ok-changes-in-None.ensures
    ∙ ap (map (diff_by (traceback_at table))) (c.deref-in-None.ensures.value ∙ c.in_ok-pairs-in-None.ensures.pairs) in
    let answer = c.in_ok-answer-in-None.ensures in
    let now = occurrences c.args.by.key cumulative (plain_rows texts table new) in
    let before = occurrences c.args.by.key cumulative (plain_rows texts table old) in
    let are : AreChanges now before (map (plain_change texts) all) =
    wholes_change texts table td cumulative new old c.requires.new c.requires.old news olds new_adds old_adds c.len-tracebacks.ensures.table
    c.in_ok-pairs-in-None.ensures.new c.in_ok-pairs-in-None.ensures.old c.args.by.key all c.in-None.ensures.none changes in
    answer.count ∙ sym (changes_long now before (plain_change texts) all are)

pub returns-in_ok-answer-in-None-clause-first : goal.returns-in_ok-answer-in-None-clause-first
returns-in_ok-answer-in-None-clause-first c =
    let texts = c.args.texts.now in
    let table = c.args.table.now in
    let new = c.args.new.now.rows in
    let old = c.args.old.now.rows in
    let td = c.len-texts.ensures.table.distinct in
    let cumulative = c.args.by.cumulative in
    let news = c.in_ok-new-in-None.new.entries in
    let olds = c.in_ok-old-in-None.old.entries in
    let new_adds : AddsUp same_id (parts_of new) news =
    subst (λ (l : List Row). AddsUp same_id (parts_of l) news) c.as_slice-new_rows.ensures c.in_ok-new-in-None.ensures in
    let old_adds : AddsUp same_id (parts_of old) olds =
    subst (λ (l : List Row). AddsUp same_id (parts_of l) olds) c.as_slice-old_rows.ensures c.in_ok-old-in-None.ensures in
    let all : List Diff = map whole_change c.deref_mut-in-None.result.now in
    let changes : all ≡ map (diff_by (traceback_at table)) (pairs_of same_id news olds) =
    ap (map whole_change) c.deref_mut-in-None.ensures.value ∙ c.in_ok-changes-in-None.ensures
    ∙ ap (map (diff_by (traceback_at table))) (c.deref-in-None.ensures.value ∙ c.in_ok-pairs-in-None.ensures.pairs) in
    let answer = c.in_ok-answer-in-None.ensures in
    let now = occurrences c.args.by.key cumulative (plain_rows texts table new) in
    let before = occurrences c.args.by.key cumulative (plain_rows texts table old) in
    let are : AreChanges now before (map (plain_change texts) all) =
    wholes_change texts table td cumulative new old c.requires.new c.requires.old news olds new_adds old_adds c.len-tracebacks.ensures.table
    c.in_ok-pairs-in-None.ensures.new c.in_ok-pairs-in-None.ensures.old c.args.by.key all c.in-None.ensures.none changes in
    changes_first now before (plain_change texts) all are c.in_ok-answer-in-None.answer.1 answer.front c.args.most answer.len

pub returns-in_ok-answer-in-None-clause-known : goal.returns-in_ok-answer-in-None-clause-known
returns-in_ok-answer-in-None-clause-known c =
    let texts = c.args.texts.now in
    let table = c.args.table.now in
    let new = c.args.new.now.rows in
    let old = c.args.old.now.rows in
    let td = c.len-texts.ensures.table.distinct in
    let cumulative = c.args.by.cumulative in
    let news = c.in_ok-new-in-None.new.entries in
    let olds = c.in_ok-old-in-None.old.entries in
    let new_adds : AddsUp same_id (parts_of new) news =
    subst (λ (l : List Row). AddsUp same_id (parts_of l) news) c.as_slice-new_rows.ensures c.in_ok-new-in-None.ensures in
    let old_adds : AddsUp same_id (parts_of old) olds =
    subst (λ (l : List Row). AddsUp same_id (parts_of l) olds) c.as_slice-old_rows.ensures c.in_ok-old-in-None.ensures in
    let all : List Diff = map whole_change c.deref_mut-in-None.result.now in
    let changes : all ≡ map (diff_by (traceback_at table)) (pairs_of same_id news olds) =
    ap (map whole_change) c.deref_mut-in-None.ensures.value ∙ c.in_ok-changes-in-None.ensures
    ∙ ap (map (diff_by (traceback_at table))) (c.deref-in-None.ensures.value ∙ c.in_ok-pairs-in-None.ensures.pairs) in
    let answer = c.in_ok-answer-in-None.ensures in
    front_keeps (λ (d : Diff). AreAmong (length texts) d.key) change_cmp (plain_change texts) all c.in_ok-answer-in-None.answer.1 answer.front
    (λ d h. wholes_among texts table td cumulative new old c.requires.new c.requires.old news olds new_adds old_adds d (subst (Has d) changes h))
