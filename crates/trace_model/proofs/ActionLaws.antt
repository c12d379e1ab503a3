-- Words that are read as an operation are its words, and its words are read as it.
use Rattle.std.proofs.Common.{◌≡◌, ℕ, zero, suc, ◌<◌, ◌≤◌, Bool, true, cond, List, [], ◌∷◌, ◌++◌, length}
use Rattle.std.proofs.Common.{length-append, map, slice_get, Option, Some, Ok, Err, refl, sym, ap, subst, inl}
use Rattle.std.proofs.Common.{inr, lit<, arith}
use Rattle.std.specs.Prelude.{nat_le, unwrap_or}
use Rattle.std.specs.List.{AllByRecursion, list_all}
use Rattle.std.proofs.lemmas.Bool.{leb-true, le-leb}
use Rattle.mem_base.specs.Name.{Name}
use Rattle.mem_base.specs.declared.texts.TextId.{TextId}
use Rattle.mem_base.specs.declared.trace.Op.{Op}
use Rattle.mem_base.specs.declared.trace.Op.TheVariants as code
use Rattle.mem_base.specs.declared.limits.TheConstants.{MAX_FRAME_LIMIT, MAX_LINE, MAX_LINES, MAX_REACH}
use Rattle.mem_base.specs.declared.limits.TheConstants.{MAX_REFUSAL}
use Rattle.trace_model.specs.Operands.{◌>>=◌, is_between, is_file, is_name, is_forged, max_domain, hex_word}
use Rattle.trace_model.specs.Operands.{number_at, offset_at}
use Rattle.trace_model.specs.Operands.{count_at, refusal_at, line_number_at, limit_at, domain_at, name_at}
use Rattle.trace_model.specs.Operands.{file_at, letter_at, key_at, mode_at, most_at}
use Rattle.trace_model.specs.Operands.{side_at, hex_from, hex_at}
use Rattle.trace_model.specs.Plain.{Action, acquire, release, malloc, calloc, realloc, free, poke, peek}
use Rattle.trace_model.specs.Plain.{enter, go_to, leave}
use Rattle.trace_model.specs.Plain.{start_tracing, stop_tracing, clear_traces, reset_peak, traced_memory}
use Rattle.trace_model.specs.Plain.{mark, unmark, origin, snapshot, keep, stats, compare, dump}
use Rattle.trace_model.specs.Plain.{heap, refuse, keyword_text, action_of, keyword_among, keyword_of}
use Rattle.trace_model.specs.Plain.{operands_of, text_at}
use Rattle.trace_model.specs.Plain.{Fits, honest_poke, malloc_at, calloc_at, realloc_at, free_at, poke_at}
use Rattle.trace_model.specs.Plain.{peek_at, enter_at}
use Rattle.trace_model.specs.Plain.{go_to_at, start_tracing_at, mark_at, unmark_at, origin_at, snapshot_at}
use Rattle.trace_model.specs.Plain.{keep_at, stats_at, compare_at, dump_at, refuse_at, action_at}
use Rattle.trace_model.specs.Rules.{rules_at}
use Rattle.trace_model.specs.Known.{IsKnown, IsKnownOp}
use Rattle.trace_model.specs.Spelling.{line_of}
use Rattle.trace_model.specs.Reading.{head_at}
use Rattle.trace_model.specs.declared.keyword.Keyword.{Keyword}
use Rattle.trace_model.specs.declared.keyword.Keyword.TheVariants as keys
use Rattle.trace_model.specs.declared.keyword.Head.TheVariants as heads
use Rattle.trace_model.specs.declared.cause.TraceCause.TheVariants.{BadRange, BadName, ForgedLetter}
use Rattle.trace_model.proofs.OperandLaws.{both, bind_ok, test_holds, test_fails, ok_is, one_of, number_takes}
use Rattle.trace_model.proofs.OperandLaws.{number_again, ranged_takes, ranged_again, offset_takes}
use Rattle.trace_model.proofs.OperandLaws.{offset_again, name_takes, file_takes, letter_takes, letter_again}
use Rattle.trace_model.proofs.OperandLaws.{side_takes, side_again, key_takes, key_again, mode_takes, mode_again}
use Rattle.trace_model.proofs.OperandLaws.{hex_takes, hex_back}
use Rattle.trace_model.proofs.RuleLaws.{rules_take, rules_again, rules_are_words}
use Rattle.trace_model.proofs.WordLaws.{is_word, name_word, file_word, number_word, offset_word, hex_is_word}
use Rattle.trace_model.proofs.WordLaws.{letter_is_word, side_is_word, key_is_word, mode_is_word, words_plain}

-- ---- keywords

pub keyword_takes : (ks : List Keyword) (w : List ℕ) (k : Keyword) → keyword_among ks w ≡ Ok k → w ≡ keyword_text k
keyword_takes [] w k e = absurd cc
keyword_takes (key ∷ ks) w k e = elim (one_of keyword_text w key (keyword_among ks w) k e) [ inl h ↦ h | inr rest ↦ keyword_takes ks w k rest ]

-- each keyword is read as itself, and is a word
pub keyword_again : (k : Keyword) → (head_at (keyword_text k) ≡ Ok (heads.Op k)) × (is_word (keyword_text k) ≡ true)
keyword_again keys.Acquire = (refl, refl)
keyword_again keys.Release = (refl, refl)
keyword_again keys.Malloc = (refl, refl)
keyword_again keys.Calloc = (refl, refl)
keyword_again keys.Realloc = (refl, refl)
keyword_again keys.Free = (refl, refl)
keyword_again keys.Poke = (refl, refl)
keyword_again keys.Peek = (refl, refl)
keyword_again keys.Call = (refl, refl)
keyword_again keys.Line = (refl, refl)
keyword_again keys.Return = (refl, refl)
keyword_again keys.Start = (refl, refl)
keyword_again keys.Stop = (refl, refl)
keyword_again keys.Clear = (refl, refl)
keyword_again keys.ResetPeak = (refl, refl)
keyword_again keys.Traced = (refl, refl)
keyword_again keys.Mark = (refl, refl)
keyword_again keys.Unmark = (refl, refl)
keyword_again keys.Where = (refl, refl)
keyword_again keys.Snapshot = (refl, refl)
keyword_again keys.Keep = (refl, refl)
keyword_again keys.Stats = (refl, refl)
keyword_again keys.Compare = (refl, refl)
keyword_again keys.Dump = (refl, refl)
keyword_again keys.Heap = (refl, refl)
keyword_again keys.Refuse = (refl, refl)

-- ---- words that are read

-- the operation has this keyword and these operands, and its operands are in their ranges
abbrev pub Spells : Keyword → List (List ℕ) → Action → Type 0
Spells k ws a = (keyword_of a ≡ k) × (operands_of a ≡ ws) × Fits a

hex_is : (w bytes : List ℕ) → hex_at w ≡ Ok bytes → (w ≡ hex_word bytes) × AllByRecursion (λ b. b < 256) bytes × (1 ≤ length bytes) × (length bytes ≤ MAX_REACH)
unfolding hex_at
hex_is w bytes e =
    let f = bind_ok (hex_from w) (λ bs. cond (is_between 1 MAX_REACH (length bs)) (Ok bs) (Err BadRange)) bytes e in
    let p = test_holds (is_between 1 MAX_REACH (length f.0)) (Ok f.0) BadRange bytes f.2 in
    let r = both (nat_le 1 (length f.0)) (nat_le (length f.0) MAX_REACH) p.0 in
    let t = hex_takes w f.0 f.1 in
    subst (λ (bs : List ℕ). (w ≡ hex_word bs) × AllByRecursion (λ b. b < 256) bs × (1 ≤ length bs) × (length bs ≤ MAX_REACH)) (ok_is f.0 bytes p.1) (t.0, t.1, leb-true _ _ r.0, leb-true _ _ r.1)

malloc_takes : (letter name size : List ℕ) (a : Action) → malloc_at letter name size ≡ Ok a → Spells keys.Malloc (letter ∷ name ∷ size ∷ []) a
unfolding malloc_at
malloc_takes letter name size a e =
    let l = bind_ok (letter_at letter) (λ l. name_at name >>= λ u. number_at size >>= λ n. Ok (malloc l name n)) a e in
    let u = bind_ok (name_at name) (λ u. number_at size >>= λ n. Ok (malloc l.0 name n)) a l.2 in
    let n = bind_ok (number_at size) (λ n. Ok (malloc l.0 name n)) a u.2 in
    let lt = letter_takes letter l.0 l.1 in
    let nt = number_takes size n.0 n.1 in
    subst (Spells keys.Malloc (letter ∷ name ∷ size ∷ [])) (ok_is (malloc l.0 name n.0) a n.2) (refl, (λ i. sym lt i ∷ name ∷ sym nt.0 i ∷ []), (name_takes name u.0 u.1, nt.1))

calloc_takes : (letter name count size : List ℕ) (a : Action) → calloc_at letter name count size ≡ Ok a → Spells keys.Calloc (letter ∷ name ∷ count ∷ size ∷ []) a
unfolding calloc_at
calloc_takes letter name count size a e =
    let l = bind_ok (letter_at letter) (λ l. name_at name >>= λ u. number_at count >>= λ k. number_at size >>= λ n. Ok (calloc l name k n)) a e in
    let u = bind_ok (name_at name) (λ u. number_at count >>= λ k. number_at size >>= λ n. Ok (calloc l.0 name k n)) a l.2 in
    let k = bind_ok (number_at count) (λ k. number_at size >>= λ n. Ok (calloc l.0 name k n)) a u.2 in
    let n = bind_ok (number_at size) (λ n. Ok (calloc l.0 name k.0 n)) a k.2 in
    let lt = letter_takes letter l.0 l.1 in
    let kt = number_takes count k.0 k.1 in
    let nt = number_takes size n.0 n.1 in
    subst (Spells keys.Calloc (letter ∷ name ∷ count ∷ size ∷ [])) (ok_is (calloc l.0 name k.0 n.0) a n.2)
    (refl, (λ i. sym lt i ∷ name ∷ sym kt.0 i ∷ sym nt.0 i ∷ []), (name_takes name u.0 u.1, kt.1, nt.1))

realloc_takes : (letter name size : List ℕ) (a : Action) → realloc_at letter name size ≡ Ok a → Spells keys.Realloc (letter ∷ name ∷ size ∷ []) a
unfolding realloc_at
realloc_takes letter name size a e =
    let l = bind_ok (letter_at letter) (λ l. name_at name >>= λ u. number_at size >>= λ n. Ok (realloc l name n)) a e in
    let u = bind_ok (name_at name) (λ u. number_at size >>= λ n. Ok (realloc l.0 name n)) a l.2 in
    let n = bind_ok (number_at size) (λ n. Ok (realloc l.0 name n)) a u.2 in
    let lt = letter_takes letter l.0 l.1 in
    let nt = number_takes size n.0 n.1 in
    subst (Spells keys.Realloc (letter ∷ name ∷ size ∷ [])) (ok_is (realloc l.0 name n.0) a n.2) (refl, (λ i. sym lt i ∷ name ∷ sym nt.0 i ∷ []), (name_takes name u.0 u.1, nt.1))

free_takes : (letter name : List ℕ) (a : Action) → free_at letter name ≡ Ok a → Spells keys.Free (letter ∷ name ∷ []) a
unfolding free_at
free_takes letter name a e =
    let l = bind_ok (letter_at letter) (λ l. name_at name >>= λ u. Ok (free l name)) a e in
    let u = bind_ok (name_at name) (λ u. Ok (free l.0 name)) a l.2 in
    let lt = letter_takes letter l.0 l.1 in
    subst (Spells keys.Free (letter ∷ name ∷ [])) (ok_is (free l.0 name) a u.2) (refl, (λ i. sym lt i ∷ name ∷ []), name_takes name u.0 u.1)

poke_takes : (name offset digits : List ℕ) (a : Action) → poke_at name offset digits ≡ Ok a → Spells keys.Poke (name ∷ offset ∷ digits ∷ []) a
unfolding poke_at
poke_takes name offset digits a e =
    let u = bind_ok (name_at name) (λ u. offset_at offset >>= λ o. hex_at digits >>= λ bytes. honest_poke name o bytes) a e in
    let o = bind_ok (offset_at offset) (λ o. hex_at digits >>= λ bytes. honest_poke name o bytes) a u.2 in
    let h = bind_ok (hex_at digits) (λ bytes. honest_poke name o.0 bytes) a o.2 in
    let honest = test_fails (is_forged o.0 h.0) (Ok (poke name o.0 h.0)) ForgedLetter a h.2 in
    let ot = offset_takes offset o.0 o.1 in
    let ht = hex_is digits h.0 h.1 in
    subst (Spells keys.Poke (name ∷ offset ∷ digits ∷ [])) (ok_is (poke name o.0 h.0) a honest.1)
    (refl, (λ i. name ∷ sym ot.0 i ∷ sym ht.0 i ∷ []), record { named = name_takes name u.0 u.1; reach = ot.1; range = ht.1; some = ht.2; few = ht.3; honest = honest.0 })

peek_takes : (name offset count : List ℕ) (a : Action) → peek_at name offset count ≡ Ok a → Spells keys.Peek (name ∷ offset ∷ count ∷ []) a
unfolding peek_at
peek_takes name offset count a e =
    let u = bind_ok (name_at name) (λ u. offset_at offset >>= λ o. count_at count >>= λ n. Ok (peek name o n)) a e in
    let o = bind_ok (offset_at offset) (λ o. count_at count >>= λ n. Ok (peek name o n)) a u.2 in
    let n = bind_ok (count_at count) (λ n. Ok (peek name o.0 n)) a o.2 in
    let ot = offset_takes offset o.0 o.1 in
    let nt = ranged_takes 1 MAX_REACH count n.0 n.1 in
    subst (Spells keys.Peek (name ∷ offset ∷ count ∷ [])) (ok_is (peek name o.0 n.0) a n.2) (refl, (λ i. name ∷ sym ot.0 i ∷ sym nt.0 i ∷ []), (name_takes name u.0 u.1, ot.1, nt.1, nt.2))

enter_takes : (file line : List ℕ) (a : Action) → enter_at file line ≡ Ok a → Spells keys.Call (file ∷ line ∷ []) a
unfolding enter_at
enter_takes file line a e =
    let u = bind_ok (file_at file) (λ u. line_number_at line >>= λ n. Ok (enter file n)) a e in
    let n = bind_ok (line_number_at line) (λ n. Ok (enter file n)) a u.2 in
    let nt = ranged_takes 0 MAX_LINE line n.0 n.1 in
    subst (Spells keys.Call (file ∷ line ∷ [])) (ok_is (enter file n.0) a n.2)
    (refl, (λ i. file ∷ sym nt.0 i ∷ []), (file_takes file u.0 u.1, nt.2))

go_to_takes : (line : List ℕ) (a : Action) → go_to_at line ≡ Ok a → Spells keys.Line (line ∷ []) a
unfolding go_to_at
go_to_takes line a e =
    let n = bind_ok (line_number_at line) (λ n. Ok (go_to n)) a e in
    let nt = ranged_takes 0 MAX_LINE line n.0 n.1 in
    subst (Spells keys.Line (line ∷ [])) (ok_is (go_to n.0) a n.2) (refl, (λ i. sym nt.0 i ∷ []), nt.2)

start_takes : (limit : List ℕ) (a : Action) → start_tracing_at limit ≡ Ok a → Spells keys.Start (limit ∷ []) a
unfolding start_tracing_at
start_takes limit a e =
    let n = bind_ok (limit_at limit) (λ n. Ok (start_tracing n)) a e in
    let nt = ranged_takes 1 MAX_FRAME_LIMIT limit n.0 n.1 in
    subst (Spells keys.Start (limit ∷ [])) (ok_is (start_tracing n.0) a n.2)
    (refl, (λ i. sym nt.0 i ∷ []), (nt.1, nt.2))

mark_takes : (domain number size : List ℕ) (a : Action) → mark_at domain number size ≡ Ok a
    → Spells keys.Mark (domain ∷ number ∷ size ∷ []) a
unfolding mark_at
mark_takes domain number size a e =
    let d = bind_ok (domain_at domain) (λ d. number_at number >>= λ k. number_at size >>= λ n. Ok (mark d k n)) a e in
    let k = bind_ok (number_at number) (λ k. number_at size >>= λ n. Ok (mark d.0 k n)) a d.2 in
    let n = bind_ok (number_at size) (λ n. Ok (mark d.0 k.0 n)) a k.2 in
    let dt = ranged_takes 1 max_domain domain d.0 d.1 in
    let kt = number_takes number k.0 k.1 in
    let nt = number_takes size n.0 n.1 in
    subst (Spells keys.Mark (domain ∷ number ∷ size ∷ [])) (ok_is (mark d.0 k.0 n.0) a n.2)
    (refl, (λ i. sym dt.0 i ∷ sym kt.0 i ∷ sym nt.0 i ∷ []), ((dt.1, dt.2), kt.1, nt.1))

unmark_takes : (domain number : List ℕ) (a : Action) → unmark_at domain number ≡ Ok a
    → Spells keys.Unmark (domain ∷ number ∷ []) a
unfolding unmark_at
unmark_takes domain number a e =
    let d = bind_ok (domain_at domain) (λ d. number_at number >>= λ k. Ok (unmark d k)) a e in
    let k = bind_ok (number_at number) (λ k. Ok (unmark d.0 k)) a d.2 in
    let dt = ranged_takes 1 max_domain domain d.0 d.1 in
    let kt = number_takes number k.0 k.1 in
    subst (Spells keys.Unmark (domain ∷ number ∷ [])) (ok_is (unmark d.0 k.0) a k.2)
    (refl, (λ i. sym dt.0 i ∷ sym kt.0 i ∷ []), ((dt.1, dt.2), kt.1))

origin_takes : (name : List ℕ) (a : Action) → origin_at name ≡ Ok a → Spells keys.Where (name ∷ []) a
unfolding origin_at
origin_takes name a e =
    let u = bind_ok (name_at name) (λ u. Ok (origin name)) a e in
    subst (Spells keys.Where (name ∷ [])) (ok_is (origin name) a u.2) (refl, refl, name_takes name u.0 u.1)

snapshot_takes : (name : List ℕ) (a : Action) → snapshot_at name ≡ Ok a → Spells keys.Snapshot (name ∷ []) a
unfolding snapshot_at
snapshot_takes name a e =
    let u = bind_ok (name_at name) (λ u. Ok (snapshot name)) a e in
    subst (Spells keys.Snapshot (name ∷ [])) (ok_is (snapshot name) a u.2) (refl, refl, name_takes name u.0 u.1)

keep_takes : (new old : List ℕ) (rules : List (List ℕ)) (a : Action) → keep_at new old rules ≡ Ok a
    → Spells keys.Keep (new ∷ old ∷ rules) a
unfolding keep_at
keep_takes new old rules a e =
    let u = bind_ok (name_at new) (λ u. name_at old >>= λ v. rules_at rules >>= λ rs. Ok (keep new old rs)) a e in
    let v = bind_ok (name_at old) (λ v. rules_at rules >>= λ rs. Ok (keep new old rs)) a u.2 in
    let rs = bind_ok (rules_at rules) (λ rs. Ok (keep new old rs)) a v.2 in
    let rt = rules_take rules rs.0 rs.1 in
    subst (Spells keys.Keep (new ∷ old ∷ rules)) (ok_is (keep new old rs.0) a rs.2)
    (refl, (λ i. new ∷ old ∷ sym rt.0 i), (name_takes new u.0 u.1, name_takes old v.0 v.1, rt.1))

stats_takes : (name key mode most : List ℕ) (a : Action) → stats_at name key mode most ≡ Ok a
    → Spells keys.Stats (name ∷ key ∷ mode ∷ most ∷ []) a
unfolding stats_at
stats_takes name key mode most a e =
    let u = bind_ok (name_at name) (λ u. key_at key >>= λ k. mode_at k mode >>= λ c. most_at most >>= λ n. Ok (stats name k c n))
    a e in
    let k = bind_ok (key_at key) (λ k. mode_at k mode >>= λ c. most_at most >>= λ n. Ok (stats name k c n)) a u.2 in
    let c = bind_ok (mode_at k.0 mode) (λ c. most_at most >>= λ n. Ok (stats name k.0 c n)) a k.2 in
    let n = bind_ok (most_at most) (λ n. Ok (stats name k.0 c.0 n)) a c.2 in
    let kt = key_takes key k.0 k.1 in
    let ct = mode_takes k.0 mode c.0 c.1 in
    let nt = ranged_takes 1 MAX_LINES most n.0 n.1 in
    subst (Spells keys.Stats (name ∷ key ∷ mode ∷ most ∷ [])) (ok_is (stats name k.0 c.0 n.0) a n.2)
    (refl, (λ i. name ∷ sym kt i ∷ sym ct.0 i ∷ sym nt.0 i ∷ []), (name_takes name u.0 u.1, ct.1, nt.1, nt.2))

compare_takes : (new old key mode most : List ℕ) (a : Action) → compare_at new old key mode most ≡ Ok a
    → Spells keys.Compare (new ∷ old ∷ key ∷ mode ∷ most ∷ []) a
unfolding compare_at
compare_takes new old key mode most a e =
    let u = bind_ok (name_at new)
    (λ u. name_at old >>= λ v. key_at key >>= λ k. mode_at k mode >>= λ c. most_at most >>= λ n. Ok (compare new old k c n))
    a e in
    let v = bind_ok (name_at old)
    (λ v. key_at key >>= λ k. mode_at k mode >>= λ c. most_at most >>= λ n. Ok (compare new old k c n)) a u.2 in
    let k = bind_ok (key_at key) (λ k. mode_at k mode >>= λ c. most_at most >>= λ n. Ok (compare new old k c n)) a v.2 in
    let c = bind_ok (mode_at k.0 mode) (λ c. most_at most >>= λ n. Ok (compare new old k.0 c n)) a k.2 in
    let n = bind_ok (most_at most) (λ n. Ok (compare new old k.0 c.0 n)) a c.2 in
    let kt = key_takes key k.0 k.1 in
    let ct = mode_takes k.0 mode c.0 c.1 in
    let nt = ranged_takes 1 MAX_LINES most n.0 n.1 in
    subst (Spells keys.Compare (new ∷ old ∷ key ∷ mode ∷ most ∷ [])) (ok_is (compare new old k.0 c.0 n.0) a n.2) (
      refl,
      (λ i. new ∷ old ∷ sym kt i ∷ sym ct.0 i ∷ sym nt.0 i ∷ []),
      (name_takes new u.0 u.1, name_takes old v.0 v.1, ct.1, nt.1, nt.2),
    )

dump_takes : (name : List ℕ) (a : Action) → dump_at name ≡ Ok a → Spells keys.Dump (name ∷ []) a
unfolding dump_at
dump_takes name a e =
    let u = bind_ok (name_at name) (λ u. Ok (dump name)) a e in
    subst (Spells keys.Dump (name ∷ [])) (ok_is (dump name) a u.2) (refl, refl, name_takes name u.0 u.1)

refuse_takes : (side number : List ℕ) (a : Action) → refuse_at side number ≡ Ok a → Spells keys.Refuse (side ∷ number ∷ []) a
unfolding refuse_at
refuse_takes side number a e =
    let s = bind_ok (side_at side) (λ s. refusal_at number >>= λ n. Ok (refuse s n)) a e in
    let n = bind_ok (refusal_at number) (λ n. Ok (refuse s.0 n)) a s.2 in
    let st = side_takes side s.0 s.1 in
    let nt = ranged_takes 1 MAX_REFUSAL number n.0 n.1 in
    subst (Spells keys.Refuse (side ∷ number ∷ [])) (ok_is (refuse s.0 n.0) a n.2) (refl, (λ i. sym st i ∷ sym nt.0 i ∷ []), (nt.1, nt.2))

pub action_takes : (k : Keyword) (ws : List (List ℕ)) (a : Action) → action_at k ws ≡ Ok a → Spells k ws a
unfolding action_at
action_takes keys.Acquire [] a e = subst (Spells keys.Acquire []) (ok_is acquire a e) (refl, refl, tt)
action_takes keys.Acquire (w ∷ ws) a e = absurd cc
action_takes keys.Release [] a e = subst (Spells keys.Release []) (ok_is release a e) (refl, refl, tt)
action_takes keys.Release (w ∷ ws) a e = absurd cc
action_takes keys.Malloc [] a e = absurd cc
action_takes keys.Malloc (w ∷ []) a e = absurd cc
action_takes keys.Malloc (w ∷ x ∷ []) a e = absurd cc
action_takes keys.Malloc (w ∷ x ∷ y ∷ z ∷ ws) a e = absurd cc
action_takes keys.Malloc (letter ∷ name ∷ size ∷ []) a e = malloc_takes letter name size a e
action_takes keys.Calloc [] a e = absurd cc
action_takes keys.Calloc (w ∷ []) a e = absurd cc
action_takes keys.Calloc (w ∷ x ∷ []) a e = absurd cc
action_takes keys.Calloc (w ∷ x ∷ y ∷ []) a e = absurd cc
action_takes keys.Calloc (w ∷ x ∷ y ∷ z ∷ v ∷ ws) a e = absurd cc
action_takes keys.Calloc (letter ∷ name ∷ count ∷ size ∷ []) a e = calloc_takes letter name count size a e
action_takes keys.Realloc [] a e = absurd cc
action_takes keys.Realloc (w ∷ []) a e = absurd cc
action_takes keys.Realloc (w ∷ x ∷ []) a e = absurd cc
action_takes keys.Realloc (w ∷ x ∷ y ∷ z ∷ ws) a e = absurd cc
action_takes keys.Realloc (letter ∷ name ∷ size ∷ []) a e = realloc_takes letter name size a e
action_takes keys.Free [] a e = absurd cc
action_takes keys.Free (w ∷ []) a e = absurd cc
action_takes keys.Free (w ∷ x ∷ y ∷ ws) a e = absurd cc
action_takes keys.Free (letter ∷ name ∷ []) a e = free_takes letter name a e
action_takes keys.Poke [] a e = absurd cc
action_takes keys.Poke (w ∷ []) a e = absurd cc
action_takes keys.Poke (w ∷ x ∷ []) a e = absurd cc
action_takes keys.Poke (w ∷ x ∷ y ∷ z ∷ ws) a e = absurd cc
action_takes keys.Poke (name ∷ offset ∷ digits ∷ []) a e = poke_takes name offset digits a e
action_takes keys.Peek [] a e = absurd cc
action_takes keys.Peek (w ∷ []) a e = absurd cc
action_takes keys.Peek (w ∷ x ∷ []) a e = absurd cc
action_takes keys.Peek (w ∷ x ∷ y ∷ z ∷ ws) a e = absurd cc
action_takes keys.Peek (name ∷ offset ∷ count ∷ []) a e = peek_takes name offset count a e
action_takes keys.Call [] a e = absurd cc
action_takes keys.Call (w ∷ []) a e = absurd cc
action_takes keys.Call (w ∷ x ∷ y ∷ ws) a e = absurd cc
action_takes keys.Call (file ∷ line ∷ []) a e = enter_takes file line a e
action_takes keys.Line [] a e = absurd cc
action_takes keys.Line (w ∷ x ∷ ws) a e = absurd cc
action_takes keys.Line (line ∷ []) a e = go_to_takes line a e
action_takes keys.Return [] a e = subst (Spells keys.Return []) (ok_is leave a e) (refl, refl, tt)
action_takes keys.Return (w ∷ ws) a e = absurd cc
action_takes keys.Start [] a e = absurd cc
action_takes keys.Start (w ∷ x ∷ ws) a e = absurd cc
action_takes keys.Start (limit ∷ []) a e = start_takes limit a e
action_takes keys.Stop [] a e = subst (Spells keys.Stop []) (ok_is stop_tracing a e) (refl, refl, tt)
action_takes keys.Stop (w ∷ ws) a e = absurd cc
action_takes keys.Clear [] a e = subst (Spells keys.Clear []) (ok_is clear_traces a e) (refl, refl, tt)
action_takes keys.Clear (w ∷ ws) a e = absurd cc
action_takes keys.ResetPeak [] a e = subst (Spells keys.ResetPeak []) (ok_is reset_peak a e) (refl, refl, tt)
action_takes keys.ResetPeak (w ∷ ws) a e = absurd cc
action_takes keys.Traced [] a e = subst (Spells keys.Traced []) (ok_is traced_memory a e) (refl, refl, tt)
action_takes keys.Traced (w ∷ ws) a e = absurd cc
action_takes keys.Mark [] a e = absurd cc
action_takes keys.Mark (w ∷ []) a e = absurd cc
action_takes keys.Mark (w ∷ x ∷ []) a e = absurd cc
action_takes keys.Mark (w ∷ x ∷ y ∷ z ∷ ws) a e = absurd cc
action_takes keys.Mark (domain ∷ number ∷ size ∷ []) a e = mark_takes domain number size a e
action_takes keys.Unmark [] a e = absurd cc
action_takes keys.Unmark (w ∷ []) a e = absurd cc
action_takes keys.Unmark (w ∷ x ∷ y ∷ ws) a e = absurd cc
action_takes keys.Unmark (domain ∷ number ∷ []) a e = unmark_takes domain number a e
action_takes keys.Where [] a e = absurd cc
action_takes keys.Where (w ∷ x ∷ ws) a e = absurd cc
action_takes keys.Where (name ∷ []) a e = origin_takes name a e
action_takes keys.Snapshot [] a e = absurd cc
action_takes keys.Snapshot (w ∷ x ∷ ws) a e = absurd cc
action_takes keys.Snapshot (name ∷ []) a e = snapshot_takes name a e
action_takes keys.Keep [] a e = absurd cc
action_takes keys.Keep (w ∷ []) a e = absurd cc
action_takes keys.Keep (new ∷ old ∷ rules) a e = keep_takes new old rules a e
action_takes keys.Stats [] a e = absurd cc
action_takes keys.Stats (w ∷ []) a e = absurd cc
action_takes keys.Stats (w ∷ x ∷ []) a e = absurd cc
action_takes keys.Stats (w ∷ x ∷ y ∷ []) a e = absurd cc
action_takes keys.Stats (w ∷ x ∷ y ∷ z ∷ v ∷ ws) a e = absurd cc
action_takes keys.Stats (name ∷ key ∷ mode ∷ most ∷ []) a e = stats_takes name key mode most a e
action_takes keys.Compare [] a e = absurd cc
action_takes keys.Compare (w ∷ []) a e = absurd cc
action_takes keys.Compare (w ∷ x ∷ []) a e = absurd cc
action_takes keys.Compare (w ∷ x ∷ y ∷ []) a e = absurd cc
action_takes keys.Compare (w ∷ x ∷ y ∷ z ∷ []) a e = absurd cc
action_takes keys.Compare (w ∷ x ∷ y ∷ z ∷ v ∷ u ∷ ws) a e = absurd cc
action_takes keys.Compare (new ∷ old ∷ key ∷ mode ∷ most ∷ []) a e = compare_takes new old key mode most a e
action_takes keys.Dump [] a e = absurd cc
action_takes keys.Dump (w ∷ x ∷ ws) a e = absurd cc
action_takes keys.Dump (name ∷ []) a e = dump_takes name a e
action_takes keys.Heap [] a e = subst (Spells keys.Heap []) (ok_is heap a e) (refl, refl, tt)
action_takes keys.Heap (w ∷ ws) a e = absurd cc
action_takes keys.Refuse [] a e = absurd cc
action_takes keys.Refuse (w ∷ []) a e = absurd cc
action_takes keys.Refuse (w ∷ x ∷ y ∷ ws) a e = absurd cc
action_takes keys.Refuse (side ∷ number ∷ []) a e = refuse_takes side number a e

-- ---- words that are spelt

name_again : (name : Name) → is_name name ≡ true → name_at name ≡ Ok tt
name_again name is = ap (λ (b : Bool). cond b (Ok tt) (Err BadName)) is

file_again : (file : Name) → is_file file ≡ true → file_at file ≡ Ok tt
file_again file is = ap (λ (b : Bool). cond b (Ok tt) (Err BadName)) is

hex_again : (bytes : List ℕ) → AllByRecursion (λ b. b < 256) bytes → 1 ≤ length bytes → length bytes ≤ MAX_REACH → hex_at (hex_word bytes) ≡ Ok bytes
unfolding hex_at
hex_again bytes fits some few = rw (hex_back bytes fits, le-leb _ _ some, le-leb _ _ few) refl

-- an operation's keyword; with its operands it is read as the operation, and each operand is a word
pub record Spelt (a : Action) : Type 0 where
  pub keyword : Keyword
  pub is : keyword_of a ≡ keyword
  pub read : action_at keyword (operands_of a) ≡ Ok a
  pub words : AllByRecursion (λ w. is_word w ≡ true) (operands_of a)

pub action_again : (a : Action) → Fits a → Spelt a
unfolding action_at malloc_at calloc_at realloc_at free_at poke_at peek_at enter_at go_to_at start_tracing_at mark_at unmark_at
    origin_at snapshot_at keep_at stats_at compare_at dump_at refuse_at
action_again acquire fits = record { keyword = keys.Acquire; is = refl; read = refl; words = tt }
action_again release fits = record { keyword = keys.Release; is = refl; read = refl; words = tt }
action_again (malloc letter name size) fits = record {
  keyword = keys.Malloc;
  is = refl;
  read = rw (letter_again letter, name_again name fits.0, number_again size fits.1) refl;
  words = (letter_is_word letter, (name_word name fits.0, (number_word size fits.1, tt)));
}
action_again (calloc letter name count size) fits = record {
  keyword = keys.Calloc;
  is = refl;
  read = rw (letter_again letter, name_again name fits.0, number_again count fits.1, number_again size fits.2) refl;
  words = (letter_is_word letter, (name_word name fits.0, (number_word count fits.1, (number_word size fits.2, tt))));
}
action_again (realloc letter name size) fits = record {
  keyword = keys.Realloc;
  is = refl;
  read = rw (letter_again letter, name_again name fits.0, number_again size fits.1) refl;
  words = (letter_is_word letter, (name_word name fits.0, (number_word size fits.1, tt)));
}
action_again (free letter name) fits = record {
  keyword = keys.Free;
  is = refl;
  read = rw (letter_again letter, name_again name fits) refl;
  words = (letter_is_word letter, (name_word name fits, tt));
}
action_again (poke name offset bytes) fits = record {
  keyword = keys.Poke;
  is = refl;
  read = rw (name_again name fits.named, offset_again offset fits.reach, hex_again bytes fits.range fits.some fits.few, fits.honest) refl;
  words = (name_word name fits.named, (offset_word offset fits.reach, (hex_is_word bytes fits.range fits.some, tt)));
}
action_again (peek name offset count) fits = record {
  keyword = keys.Peek;
  is = refl;
  read = rw (name_again name fits.0, offset_again offset fits.1, ranged_again 1 MAX_REACH count (lit< tt) fits.2 fits.3) refl;
  words = (name_word name fits.0, (offset_word offset fits.1, (number_word count (omega (arith, fits.3)), tt)));
}
action_again (enter file line) fits = record {
  keyword = keys.Call;
  is = refl;
  read = rw (file_again file fits.0, ranged_again 0 MAX_LINE line (lit< tt) (omega arith) fits.1) refl;
  words = (file_word file fits.0, (number_word line (omega (arith, fits.1)), tt));
}
action_again (go_to line) fits = record {
  keyword = keys.Line;
  is = refl;
  read = rw (ranged_again 0 MAX_LINE line (lit< tt) (omega arith) fits) refl;
  words = (number_word line (omega (arith, fits)), tt);
}
action_again leave fits = record { keyword = keys.Return; is = refl; read = refl; words = tt }
action_again (start_tracing limit) fits = record {
  keyword = keys.Start;
  is = refl;
  read = rw (ranged_again 1 MAX_FRAME_LIMIT limit (lit< tt) fits.0 fits.1) refl;
  words = (number_word limit (omega (arith, fits.1)), tt);
}
action_again stop_tracing fits = record { keyword = keys.Stop; is = refl; read = refl; words = tt }
action_again clear_traces fits = record { keyword = keys.Clear; is = refl; read = refl; words = tt }
action_again reset_peak fits = record { keyword = keys.ResetPeak; is = refl; read = refl; words = tt }
action_again traced_memory fits = record { keyword = keys.Traced; is = refl; read = refl; words = tt }
action_again (mark domain number size) fits = record {
  keyword = keys.Mark;
  is = refl;
  read = rw (ranged_again 1 max_domain domain (lit< tt) fits.0.0 fits.0.1, number_again number fits.1, number_again size fits.2) refl;
  words = (number_word domain (omega (arith, fits.0.1)), (number_word number fits.1, (number_word size fits.2, tt)));
}
action_again (unmark domain number) fits = record {
  keyword = keys.Unmark;
  is = refl;
  read = rw (ranged_again 1 max_domain domain (lit< tt) fits.0.0 fits.0.1, number_again number fits.1) refl;
  words = (number_word domain (omega (arith, fits.0.1)), (number_word number fits.1, tt));
}
action_again (origin name) fits = record {
  keyword = keys.Where;
  is = refl;
  read = rw (name_again name fits) refl;
  words = (name_word name fits, tt);
}
action_again (snapshot name) fits = record {
  keyword = keys.Snapshot;
  is = refl;
  read = rw (name_again name fits) refl;
  words = (name_word name fits, tt);
}
action_again (keep new old rules) fits = record {
  keyword = keys.Keep;
  is = refl;
  read = rw (name_again new fits.0, name_again old fits.1, rules_again rules fits.2) refl;
  words = (name_word new fits.0, (name_word old fits.1, rules_are_words rules fits.2));
}
action_again (stats name key cumulative most) fits = record {
  keyword = keys.Stats;
  is = refl;
  read = rw (
    name_again name fits.0,
    key_again key,
    mode_again key cumulative fits.1,
    ranged_again 1 MAX_LINES most
        (lit< tt) fits.2 fits.3,
  ) refl;
  words = (name_word name fits.0, (key_is_word key, (mode_is_word cumulative, (number_word most (omega (arith, fits.3)), tt))));
}
action_again (compare new old key cumulative most) fits = record {
  keyword = keys.Compare;
  is = refl;
  read = rw (
    name_again new fits.0,
    name_again old fits.1,
    key_again key,
    mode_again key cumulative fits.2,
    ranged_again 1 MAX_LINES most
        (lit< tt) fits.3 fits.4,
  ) refl;
  words = (
    name_word new fits.0,
    (
      name_word old fits.1,
      (key_is_word key, (mode_is_word cumulative, (number_word most (omega (arith, fits.4)), tt))),
    ),
  );
}
action_again (dump name) fits = record {
  keyword = keys.Dump;
  is = refl;
  read = rw (name_again name fits) refl;
  words = (name_word name fits, tt);
}
action_again heap fits = record { keyword = keys.Heap; is = refl; read = refl; words = tt }
action_again (refuse side number) fits = record {
  keyword = keys.Refuse;
  is = refl;
  read = rw (side_again side, ranged_again 1 MAX_REFUSAL number (lit< tt) fits.0 fits.1) refl;
  words = (side_is_word side, (number_word number (omega (arith, fits.1)), tt));
}

-- an operation's line is printing characters and blanks
pub line_words : (a : Action) → Fits a → list_all (is_between 32 126) (line_of a) ≡ true
line_words a fits =
    let s = action_again a fits in
    words_plain (keyword_text (keyword_of a) ∷ operands_of a) ((keyword_again (keyword_of a)).1, s.words)

-- ---- a table of texts that grows

get_stays : (texts more : List Name) (i : ℕ) → i < length texts → slice_get (texts ++ more) i ≡ slice_get texts i
get_stays [] more i lt = absurd (omega arith)
get_stays (t ∷ ts) more zero lt = refl
get_stays (t ∷ ts) more (suc i) lt = get_stays ts more i (omega arith)

pub text_stays : (texts more : List Name) (id : TextId) → IsKnown texts id → text_at (texts ++ more) id ≡ text_at texts id
text_stays texts more id known = ap (λ (o : Option Name). unwrap_or o []) (get_stays texts more id.0 known)

pub known_stays : (texts more : List Name) (id : TextId) → IsKnown texts id → IsKnown (texts ++ more) id
known_stays texts more id known = omega (arith, known, length-append texts more)

action_stays : (texts more : List Name) (op : Op) → IsKnownOp texts op → action_of (texts ++ more) op ≡ action_of texts op
action_stays texts more code.Acquire known = refl
action_stays texts more code.Release known = refl
action_stays texts more (code.Malloc letter name size) known = ap (λ (n : Name). malloc letter n size) (text_stays texts more name known)
action_stays texts more (code.Calloc letter name count size) known = ap (λ (n : Name). calloc letter n count size) (text_stays texts more name known)
action_stays texts more (code.Realloc letter name size) known = ap (λ (n : Name). realloc letter n size) (text_stays texts more name known)
action_stays texts more (code.Free letter name) known = ap (λ (n : Name). free letter n) (text_stays texts more name known)
action_stays texts more (code.Poke name offset bytes) known = ap (λ (n : Name). poke n offset bytes) (text_stays texts more name known.0)
action_stays texts more (code.Peek name offset count) known = ap (λ (n : Name). peek n offset count) (text_stays texts more name known.0)
action_stays texts more (code.Enter file line) known = ap (λ (n : Name). enter n line) (text_stays texts more file known.0)
action_stays texts more (code.Line line) known = refl
action_stays texts more code.Leave known = refl
action_stays texts more (code.Start limit) known = refl
action_stays texts more code.Stop known = refl
action_stays texts more code.Clear known = refl
action_stays texts more code.ResetPeak known = refl
action_stays texts more code.Traced known = refl
action_stays texts more (code.Mark domain number size) known = refl
action_stays texts more (code.Unmark domain number) known = refl
action_stays texts more (code.Origin name) known = ap origin (text_stays texts more name known)
action_stays texts more (code.Snapshot name) known = ap snapshot (text_stays texts more name known)
action_stays texts more (code.Keep new old rules) known =
    λ i. keep (text_stays texts more new known.0 i) (text_stays texts more old known.1 i) rules
action_stays texts more (code.Stats name key cumulative lines) known =
    ap (λ (n : Name). stats n key cumulative lines) (text_stays texts more name known)
action_stays texts more (code.Compare new old key cumulative lines) known =
    λ i. compare (text_stays texts more new known.0 i) (text_stays texts more old known.1 i) key cumulative lines
action_stays texts more (code.Dump name) known = ap dump (text_stays texts more name known)
action_stays texts more code.Heap known = refl
action_stays texts more (code.Refuse side number) known = refl

op_stays : (texts more : List Name) (op : Op) → IsKnownOp texts op → IsKnownOp (texts ++ more) op
op_stays texts more code.Acquire known = tt
op_stays texts more code.Release known = tt
op_stays texts more (code.Malloc letter name size) known = known_stays texts more name known
op_stays texts more (code.Calloc letter name count size) known = known_stays texts more name known
op_stays texts more (code.Realloc letter name size) known = known_stays texts more name known
op_stays texts more (code.Free letter name) known = known_stays texts more name known
op_stays texts more (code.Poke name offset bytes) known = (known_stays texts more name known.0, known.1, known.2, known.3)
op_stays texts more (code.Peek name offset count) known = (known_stays texts more name known.0, known.1, known.2, known.3)
op_stays texts more (code.Enter file line) known = (known_stays texts more file known.0, known.1)
op_stays texts more (code.Line line) known = known
op_stays texts more code.Leave known = tt
op_stays texts more (code.Start limit) known = known
op_stays texts more code.Stop known = tt
op_stays texts more code.Clear known = tt
op_stays texts more code.ResetPeak known = tt
op_stays texts more code.Traced known = tt
op_stays texts more (code.Mark domain number size) known = known
op_stays texts more (code.Unmark domain number) known = known
op_stays texts more (code.Origin name) known = known_stays texts more name known
op_stays texts more (code.Snapshot name) known = known_stays texts more name known
op_stays texts more (code.Keep new old rules) known = (known_stays texts more new known.0, known_stays texts more old known.1)
op_stays texts more (code.Stats name key cumulative lines) known = known_stays texts more name known
op_stays texts more (code.Compare new old key cumulative lines) known =
    (known_stays texts more new known.0, known_stays texts more old known.1)
op_stays texts more (code.Dump name) known = known_stays texts more name known
op_stays texts more code.Heap known = tt
op_stays texts more (code.Refuse side number) known = known

pub actions_stay : (texts more : List Name) (ops : List Op) → AllByRecursion (IsKnownOp texts) ops → map (action_of (texts ++ more)) ops ≡ map (action_of texts) ops
actions_stay texts more [] known = refl
actions_stay texts more (op ∷ ops) known = λ i. action_stays texts more op known.0 i ∷ actions_stay texts more ops known.1 i

pub ops_stay : (texts more : List Name) (ops : List Op) → AllByRecursion (IsKnownOp texts) ops → AllByRecursion (IsKnownOp (texts ++ more)) ops
ops_stay texts more [] known = tt
ops_stay texts more (op ∷ ops) known = (op_stays texts more op known.0, ops_stay texts more ops known.1)
