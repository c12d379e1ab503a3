use Rattle.std.proofs.Common.{◌≡◌, ◌∷◌, [], ◌∙◌, List, length, map, ap, sym, subst}
use Rattle.extents.specs.Sums.{Has}
use Rattle.mem_base.specs.declared.reply.Group.{Group}
use Rattle.frame_stack.specs.Callers.{AreAmong}
use Rattle.frame_stack.specs.Tracebacks.{traceback_at}
use Rattle.snapshot_model.specs.Occurrences.{occurrences}
use Rattle.snapshot_model.specs.Stats.{group_cmp, plain_group}
use Rattle.trace_table.specs.Plain.{plain_rows}
use Rattle.trace_table.specs.declared.snapshot.Row.{Row}
use Rattle.snap_stats.specs.Groups.{whole}
use Rattle.snap_stats.specs.Sums.{group_by, parts_of, same_id, AddsUp, AreOfFrames}
use Rattle.snap_stats.proofs.Answering.{sums_known, singles_come, singles_known, wholes_come, wholes_known}
use Rattle.snap_stats.proofs.Firsts.{front_keeps}
use Rattle.snap_stats.proofs.Totals.{groups_first, groups_long}
use Rattle.snap_stats.proofs.stats.first_statistics.Goals as goal

pub tracebacks_summed-requires : goal.tracebacks_summed-requires
tracebacks_summed-requires c =
    let table = c.args.table.now in
    let rows = c.args.s.now.rows in
    let sums = c.in_ok-sums-in-None.sums.entries in
    let adds : AddsUp same_id (parts_of rows) sums = subst (λ (l : List Row). AddsUp same_id (parts_of l) sums) c.as_slice-rows.ensures c.in_ok-sums-in-None.ensures in
    sums_known table rows sums c.requires.traced adds

pub returns-in_ok-answer-in-Some-clause-count : goal.returns-in_ok-answer-in-Some-clause-count
returns-in_ok-answer-in-Some-clause-count c =
    let texts = c.args.texts.now in
    let table = c.args.table.now in
    let rows = c.args.s.now.rows in
    let singles = c.in_ok-by_frame-in-Some.by_frame.entries in
    let of : AreOfFrames c.in-Some.by_line c.args.by.cumulative table rows singles =
    subst (λ (l : List Row). AreOfFrames c.in-Some.by_line c.args.by.cumulative table l singles) c.as_slice-rows.ensures c.in_ok-by_frame-in-Some.ensures in
    let td = c.len-texts.ensures.table.distinct in
    let by_line = c.in-Some.by_line in
    let cumulative = c.args.by.cumulative in
    let are = c.in_ok-answer-in-Some.ensures in
    let all : List Group = map whole c.deref_mut.result.now in
    let groups : all ≡ map (group_by (λ f. f ∷ [])) singles = ap (map whole) c.deref_mut.ensures.value ∙ c.in_ok-groups-in-Some.ensures.groups in
    are.count ∙ sym (groups_long (occurrences c.args.by.key cumulative (plain_rows texts table rows)) (plain_group texts) all (singles_come texts table rows of.tracebacks td c.requires of.added by_line cumulative singles of.spread c.in_ok-groups-in-Some.ensures.apart c.args.by.key all c.in-Some.ensures.some groups))

pub returns-in_ok-answer-in-Some-clause-first : goal.returns-in_ok-answer-in-Some-clause-first
returns-in_ok-answer-in-Some-clause-first c =
    let texts = c.args.texts.now in
    let table = c.args.table.now in
    let rows = c.args.s.now.rows in
    let singles = c.in_ok-by_frame-in-Some.by_frame.entries in
    let of : AreOfFrames c.in-Some.by_line c.args.by.cumulative table rows singles =
    subst (λ (l : List Row). AreOfFrames c.in-Some.by_line c.args.by.cumulative table l singles) c.as_slice-rows.ensures c.in_ok-by_frame-in-Some.ensures in
    let td = c.len-texts.ensures.table.distinct in
    let by_line = c.in-Some.by_line in
    let cumulative = c.args.by.cumulative in
    let answer = c.in_ok-answer-in-Some.answer.1 in
    let are = c.in_ok-answer-in-Some.ensures in
    let all : List Group = map whole c.deref_mut.result.now in
    let groups : all ≡ map (group_by (λ f. f ∷ [])) singles = ap (map whole) c.deref_mut.ensures.value ∙ c.in_ok-groups-in-Some.ensures.groups in
    groups_first (occurrences c.args.by.key cumulative (plain_rows texts table rows)) (plain_group texts) all (singles_come texts table rows of.tracebacks td c.requires of.added by_line cumulative singles of.spread c.in_ok-groups-in-Some.ensures.apart c.args.by.key all c.in-Some.ensures.some groups) answer are.front c.args.most are.len

pub returns-in_ok-answer-in-Some-clause-known : goal.returns-in_ok-answer-in-Some-clause-known
returns-in_ok-answer-in-Some-clause-known c =
    let texts = c.args.texts.now in
    let table = c.args.table.now in
    let rows = c.args.s.now.rows in
    let singles = c.in_ok-by_frame-in-Some.by_frame.entries in
    let of : AreOfFrames c.in-Some.by_line c.args.by.cumulative table rows singles =
    subst (λ (l : List Row). AreOfFrames c.in-Some.by_line c.args.by.cumulative table l singles) c.as_slice-rows.ensures c.in_ok-by_frame-in-Some.ensures in
    let td = c.len-texts.ensures.table.distinct in
    let by_line = c.in-Some.by_line in
    let cumulative = c.args.by.cumulative in
    let answer = c.in_ok-answer-in-Some.answer.1 in
    let are = c.in_ok-answer-in-Some.ensures in
    let all : List Group = map whole c.deref_mut.result.now in
    let groups : all ≡ map (group_by (λ f. f ∷ [])) singles = ap (map whole) c.deref_mut.ensures.value ∙ c.in_ok-groups-in-Some.ensures.groups in
    front_keeps (λ g. AreAmong (length texts) g.key) group_cmp (plain_group texts) all answer are.front (λ g h. singles_known texts table rows of.tracebacks td c.requires of.added by_line cumulative singles of.spread g (subst (Has g) groups h))

pub returns-in_ok-answer-in-None-clause-count : goal.returns-in_ok-answer-in-None-clause-count
returns-in_ok-answer-in-None-clause-count c =
    let texts = c.args.texts.now in
    let table = c.args.table.now in
    let rows = c.args.s.now.rows in
    let sums = c.in_ok-sums-in-None.sums.entries in
    let adds : AddsUp same_id (parts_of rows) sums = subst (λ (l : List Row). AddsUp same_id (parts_of l) sums) c.as_slice-rows.ensures c.in_ok-sums-in-None.ensures in
    let td = c.len-texts.ensures.table.distinct in
    let cumulative = c.args.by.cumulative in
    let are = c.in_ok-answer-in-None.ensures in
    let all : List Group = map whole c.deref_mut-in-None.result.now in
    let groups : all ≡ map (group_by (traceback_at table)) sums = ap (map whole) c.deref_mut-in-None.ensures.value ∙ c.in_ok-groups-in-None.ensures.groups in
    are.count ∙ sym (groups_long (occurrences c.args.by.key cumulative (plain_rows texts table rows)) (plain_group texts) all (wholes_come texts table rows sums td c.requires adds c.len-tracebacks.ensures.table c.in_ok-groups-in-None.ensures.apart c.args.by.key cumulative all c.in-None.ensures.none groups))

pub returns-in_ok-answer-in-None-clause-first : goal.returns-in_ok-answer-in-None-clause-first
returns-in_ok-answer-in-None-clause-first c =
    let texts = c.args.texts.now in
    let table = c.args.table.now in
    let rows = c.args.s.now.rows in
    let sums = c.in_ok-sums-in-None.sums.entries in
    let adds : AddsUp same_id (parts_of rows) sums = subst (λ (l : List Row). AddsUp same_id (parts_of l) sums) c.as_slice-rows.ensures c.in_ok-sums-in-None.ensures in
    let td = c.len-texts.ensures.table.distinct in
    let cumulative = c.args.by.cumulative in
    let answer = c.in_ok-answer-in-None.answer.1 in
    let are = c.in_ok-answer-in-None.ensures in
    let all : List Group = map whole c.deref_mut-in-None.result.now in
    let groups : all ≡ map (group_by (traceback_at table)) sums = ap (map whole) c.deref_mut-in-None.ensures.value ∙ c.in_ok-groups-in-None.ensures.groups in
    groups_first (occurrences c.args.by.key cumulative (plain_rows texts table rows)) (plain_group texts) all (wholes_come texts table rows sums td c.requires adds c.len-tracebacks.ensures.table c.in_ok-groups-in-None.ensures.apart c.args.by.key cumulative all c.in-None.ensures.none groups) answer are.front c.args.most are.len

pub returns-in_ok-answer-in-None-clause-known : goal.returns-in_ok-answer-in-None-clause-known
returns-in_ok-answer-in-None-clause-known c =
    let texts = c.args.texts.now in
    let table = c.args.table.now in
    let rows = c.args.s.now.rows in
    let sums = c.in_ok-sums-in-None.sums.entries in
    let adds : AddsUp same_id (parts_of rows) sums = subst (λ (l : List Row). AddsUp same_id (parts_of l) sums) c.as_slice-rows.ensures c.in_ok-sums-in-None.ensures in
    let td = c.len-texts.ensures.table.distinct in
    let cumulative = c.args.by.cumulative in
    let answer = c.in_ok-answer-in-None.answer.1 in
    let are = c.in_ok-answer-in-None.ensures in
    let all : List Group = map whole c.deref_mut-in-None.result.now in
    let groups : all ≡ map (group_by (traceback_at table)) sums = ap (map whole) c.deref_mut-in-None.ensures.value ∙ c.in_ok-groups-in-None.ensures.groups in
    front_keeps (λ g. AreAmong (length texts) g.key) group_cmp (plain_group texts) all answer are.front (λ g h. wholes_known texts table rows sums td c.requires adds g (subst (Has g) groups h))
