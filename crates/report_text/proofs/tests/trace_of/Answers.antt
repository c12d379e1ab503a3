use Rattle.std.proofs.Common.{◌≡◌, ℕ, zero, suc, ◌<◌, ◌≤◌, List, [], ◌∷◌, ◌++◌, length, sym, ap, subst, ◌∙◌}
use Rattle.std.proofs.Common.{arith, slice_get, Some}
use Rattle.std.specs.Prelude.{codes}
use Rattle.mem_base.specs.Texts.{unknown, with_text}
use Rattle.mem_base.specs.declared.trace.Op.{Op}
use Rattle.mem_base.specs.declared.trace.Trace.{Trace}
use Rattle.mem_base.specs.declared.trace.Track.{Track}
use Rattle.mem_base.specs.declared.limits.TheConstants.{MAX_OPS, MAX_TRACKS}
use Rattle.trace_model.specs.Known.{IsKnown, IsKnownOp, IsKnownTrace, op_at, op_count}
use Rattle.trace_model.specs.Plain.{IsKnownAmong}
use Rattle.report_text.proofs.tests.trace_of.Goals as goal

-- the track of one operation
abbrev track_of : Op → Track
track_of op = record { name = record { 0 = 1 }; ops = op ∷ [] }

name_is_known : (texts : List (List ℕ)) (op : Op) → 1 < length texts → (t : ℕ) (track : Track)
    → slice_get (track_of op ∷ []) t ≡ Some track → IsKnown texts track.name
name_is_known texts op lt zero track e =
    let same : track_of op ≡ track = cc in subst (λ (u : Track). u.name.0 < length texts) same lt
name_is_known texts op lt (suc t) track e = absurd cc

op_is_known : (texts : List (List ℕ)) (op : Op) → IsKnownOp texts op → (t at : ℕ) (found : Op)
    → op_at (track_of op ∷ []) t at ≡ Some found → IsKnownOp texts found × (at < MAX_OPS)
op_is_known texts op known zero zero found e =
    let same : op ≡ found = cc in subst (λ (o : Op). IsKnownOp texts o × (0 < MAX_OPS)) same (known, omega arith)
op_is_known texts op known zero (suc at) found e = absurd cc
op_is_known texts op known (suc t) at found e = absurd cc

trace_is_known : (trace : Trace) (op : Op) → trace.tracks ≡ track_of op ∷ [] → length trace.texts ≡ 7
    → IsKnownAmong 7 op → IsKnownTrace trace
trace_is_known trace op is seven known = record {
  few = subst (λ (ts : List Track). length ts ≤ MAX_TRACKS) (sym is) (omega arith);
  names = λ t track e.
      name_is_known trace.texts op (omega (arith, seven)) t track (ap (λ (ts : List Track). slice_get ts t) (sym is) ∙ e);
  ops = λ t at found e.
      op_is_known trace.texts op (subst (λ (n : ℕ). IsKnownAmong n op) (sym seven) known) t at found
      (ap (λ (ts : List Track). op_at ts t at) (sym is) ∙ e);
  count = subst (λ (ts : List Track). op_count ts ≤ MAX_OPS) (sym is) (omega arith);
}

-- the table with one more text
abbrev more : List ℕ → List (List ℕ) → List (List ℕ)
more text texts = with_text texts text

-- the whole table
abbrev table : List (List ℕ)
table =
    with_text (with_text (with_text (with_text (with_text (with_text (unknown ∷ []) (codes "t")) (codes "x")) (codes "s"))
    (codes "u")) (codes "a.py")) (codes "b.pyc")

pub returns-clause-texts : goal.returns-clause-texts
returns-clause-texts c =
    let a = c.in_ok-intern.ensures.table ∙ ap (more (codes "t")) c.in_ok-texts.ensures in
    let b = c.in_ok-intern-2.ensures.table ∙ ap (more (codes "x")) a in
    let d = c.in_ok-intern-3.ensures.table ∙ ap (more (codes "s")) b in
    let e = c.in_ok-intern-4.ensures.table ∙ ap (more (codes "u")) d in
    let f = c.in_ok-intern-5.ensures.table ∙ ap (more (codes "a.py")) e in
    let all : c.intern-6.new.self ≡ table = c.in_ok-intern-6.ensures.table ∙ ap (more (codes "b.pyc")) f in
    ap length all

pub returns-clause-known : goal.returns-clause-known
returns-clause-known c =
    let ops = c.in_ok-push.ensures.ok ∙ ap (λ (l : List Op). l ++ c.args.op ∷ []) c.new-ops.ensures in
    let track : List Op → Track = λ (l : List Op). record { name = record { 0 = 1 }; ops = l } in
    let tracks = c.in_ok-push-2.ensures.ok ∙ (λ i. c.new-tracks.ensures i ++ track (ops i) ∷ []) in
    trace_is_known _ c.args.op tracks (returns-clause-texts c) c.requires
