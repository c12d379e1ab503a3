use Rattle.std.proofs.Common.{◌≡◌, ◌<◌, ◌∙◌, [], Bool, List, Option, Some, length, ap, sym, subst, unwrap_or, slice_set}
use Rattle.pattern_model.specs.Patterns.{as_source, match_parts, parts_of}
use Rattle.mem_base.specs.Texts.{text_at}
use Rattle.snap_filter.specs.Questions.{AskedOfFiles, AreRight, file_matches}
use Rattle.snap_filter.proofs.Filtering.{right_with}
use Rattle.snap_filter.proofs.matcher.Matcher.matches.Goals as goal

pub invariant_of-self : goal.invariant_of-self
invariant_of-self c =
    let asked : AskedOfFiles = record { pattern = c.self.inside.text.now; texts = c.self.inside.texts.now } in
    let here : text_at asked.texts c.args.file ≡ c.get-2.result.now = ap (λ o. unwrap_or o []) c.get-2.ensures in
    let is : c.matches-answer.result ≡ file_matches asked c.args.file
    = c.matches-answer.ensures ∙ (λ i. match_parts (c.self.invariant.read i) (as_source (sym here i))) in
    let within : c.args.file.0 < length asked.texts = subst (λ (a : AskedOfFiles). c.args.file.0 < length a.texts) (sym c.self.view_is) c.requires in
    record {
      read = c.self.invariant.read;
      right = subst (AreRight (λ n. file_matches asked (record { 0 = n })) (length asked.texts)) (sym c.put.ensures)
          (right_with (λ n. file_matches asked (record { 0 = n })) (length asked.texts) c.self.inside.known c.args.file.0 c.matches-answer.result c.self.invariant.right within is);
    }
