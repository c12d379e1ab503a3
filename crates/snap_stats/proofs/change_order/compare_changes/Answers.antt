use Rattle.std.proofs.Common.{◌∙◌, sym, ap}
use Rattle.std.specs.Ordering.{nat_cmp, ordering_then}
use Rattle.std.specs.declared.cmp.Ordering.{Ordering}
use Rattle.frame_model.specs.Frames.{frames_of}
use Rattle.snapshot_model.specs.Stats.{key_cmp}
use Rattle.snap_stats.proofs.Numbers.{AreNumbers, by_numbers, tells_first, tells_next}
use Rattle.snap_stats.proofs.change_order.compare_changes.Goals as goal

pub returns-then-ne : goal.returns-then-ne
returns-then-ne c =
    let a = c.args.a.now in
    let b = c.args.b.now in
    let n = c.then-numbers.result in
    let keys = key_cmp (frames_of c.args.texts.now a.key.now) (frames_of c.args.texts.now b.key.now) in
    let are : AreNumbers a b n = record {
      size_diffs = c.cmp.result;
      sizes = c.cmp-2.result;
      count_diffs = c.cmp-3.result;
      counts = c.cmp-4.result;
      size_diffs_are = c.cmp.ensures ∙ (λ i. nat_cmp (c.abs_diff-a_size.ensures i) (c.abs_diff-b_size.ensures i));
      sizes_are = c.cmp-2.ensures;
      count_diffs_are = c.cmp-3.ensures ∙ (λ i. nat_cmp (c.abs_diff-a_count.ensures i) (c.abs_diff-b_count.ensures i));
      counts_are = c.cmp-4.ensures;
      all = c.then-numbers.ensures ∙ ap (λ (o : Ordering). ordering_then o c.cmp-4.result)
          (c.then-2.ensures ∙ ap (λ (o : Ordering). ordering_then o c.cmp-3.result) c.then.ensures);
    } in
    sym (tells_first n keys (sym c.ne.ensures ∙ c.if-ne.true)) ∙ by_numbers c.args.texts.now a b n are

pub returns : goal.returns
returns c =
    let a = c.args.a.now in
    let b = c.args.b.now in
    let n = c.then-numbers.result in
    let keys = key_cmp (frames_of c.args.texts.now a.key.now) (frames_of c.args.texts.now b.key.now) in
    let are : AreNumbers a b n = record {
      size_diffs = c.cmp.result;
      sizes = c.cmp-2.result;
      count_diffs = c.cmp-3.result;
      counts = c.cmp-4.result;
      size_diffs_are = c.cmp.ensures ∙ (λ i. nat_cmp (c.abs_diff-a_size.ensures i) (c.abs_diff-b_size.ensures i));
      sizes_are = c.cmp-2.ensures;
      count_diffs_are = c.cmp-3.ensures ∙ (λ i. nat_cmp (c.abs_diff-a_count.ensures i) (c.abs_diff-b_count.ensures i));
      counts_are = c.cmp-4.ensures;
      all = c.then-numbers.ensures ∙ ap (λ (o : Ordering). ordering_then o c.cmp-4.result)
          (c.then-2.ensures ∙ ap (λ (o : Ordering). ordering_then o c.cmp-3.result) c.then.ensures);
    } in
    c.compare_keys.ensures ∙ sym (tells_next n keys (sym c.ne.ensures ∙ c.if-ne.false)) ∙ by_numbers c.args.texts.now a b n are
