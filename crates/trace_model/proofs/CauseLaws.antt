-- A line's cause is the first row of the table of causes that holds.
use Rattle.std.proofs.Common.{◌≡◌, ℕ, ◌+◌, Bool, true, false, cond, not, ◌&&◌, ◌||◌, List, [], ◌∷◌, length, Option}
use Rattle.std.proofs.Common.{◌↔◌, ◌++◌, ℤ, Some, None, Result, Ok, Err, refl, sym, ap, ◌∙◌, map}
use Rattle.std.specs.Prelude.{◌==◌, nat_le, nat_lt, is_err, option_and_then}
use Rattle.std.specs.Bool.{then_some}
use Rattle.std.specs.List.{list_all, list_any, slice_split}
use Rattle.std.specs.Option.{option_or}
use Rattle.std.specs.Result.{result_err, result_ok}
use Rattle.std.specs.Str.{bytes_eq}
use Rattle.std.proofs.Math.Dec.{eqb-suc-suc, eqb-suc-zero, eqb-zero-suc}
use Rattle.mem_base.specs.declared.limits.TheConstants.{MAX_PICKS, MAX_TRACKS}
use Rattle.mem_base.specs.declared.trace.KeyKind.{KeyKind}
use Rattle.mem_base.specs.Name.{Name}
use Rattle.trace_model.specs.Operands.{◌>>=◌, is_between, is_forged, number_at, offset_at, count_at}
use Rattle.trace_model.specs.Operands.{name_at, file_at, letter_at, side_at, key_at, mode_at, hex_at, times_at}
use Rattle.trace_model.specs.Operands.{line_number_at, limit_at, domain_at, most_at, refusal_at}
use Rattle.trace_model.specs.Rules.{rule_at, rules_at}
use Rattle.trace_model.specs.Plain.{Action, PlainTrack, PlainTrace, keyword_text, keyword_among, keywords, action_at}
use Rattle.trace_model.specs.Plain.{poke}
use Rattle.trace_model.specs.Plain.{malloc_at, calloc_at, realloc_at, free_at, poke_at, peek_at, enter_at, go_to_at}
use Rattle.trace_model.specs.Plain.{start_tracing_at, mark_at, unmark_at, origin_at, snapshot_at, keep_at, stats_at}
use Rattle.trace_model.specs.Plain.{compare_at, dump_at, refuse_at, has_frame, keeps_few}
use Rattle.trace_model.specs.Spelling.{head_text, pick_count}
use Rattle.trace_model.specs.Reading.{head_at, is_misplaced, is_empty, item_at, words_at, line_at, add}
use Rattle.trace_model.specs.Reading.{open_frames, has_room, with_action, with_track, index_of, pick_at}
use Rattle.trace_model.specs.Causes.{a_rule, operands, first_fault, is_ok_and, are_forged, causes, first_cause}
use Rattle.trace_model.specs.Causes.{wrong_in_number, without_frame, a_second_track, picks_of_none, too_many, has_track}
use Rattle.trace_model.specs.Causes.{word_causes}
use Rattle.trace_model.proofs.LineLaws.{head_takes}
use Rattle.trace_model.specs.declared.cause.TraceCause.{TraceCause}
use Rattle.trace_model.specs.declared.cause.TraceCause.TheVariants.{BadByte, UnknownWord, Misplaced, BadWords}
use Rattle.trace_model.specs.declared.cause.TraceCause.TheVariants.{ForgedLetter, NoFrame, SameTrack, NoTrack, TooMany}
use Rattle.trace_model.specs.declared.keyword.Head.{Head}
use Rattle.trace_model.specs.declared.keyword.Head.TheVariants as heads
use Rattle.trace_model.specs.declared.keyword.Keyword.{Keyword}
use Rattle.trace_model.specs.declared.keyword.Keyword.TheVariants as keys

-- ---- rows one after the other

or_assoc : {X : Type 0} (a b c : Option X) → option_or (option_or a b) c ≡ option_or a (option_or b c)
or_assoc None b c = refl
or_assoc (Some x) b c = refl

-- a step, and the rows behind its fault
after : {A B : Type 0} (r : Result A TraceCause) (f : A → Result B TraceCause) (behind : Option TraceCause)
    → ((x : A) → r ≡ Ok x → result_err (f x) ≡ behind) → result_err (r >>= f) ≡ option_or (result_err r) behind
after (Ok x) f behind on = on x refl
after (Err c) f behind on = refl

-- an operand, those behind it, and the rows behind them all
step : {A B : Type 0} (r : Result A TraceCause) (f : A → Result B TraceCause) (more behind : Option TraceCause)
    → ((x : A) → r ≡ Ok x → result_err (f x) ≡ option_or more behind)
    → result_err (r >>= f) ≡ option_or (option_or (result_err r) more) behind
step (Ok x) f more behind on = on x refl
step (Err c) f more behind on = refl

-- a test whose failure is a fault, and the rows behind it
test : {A : Type 0} (b : Bool) (c : TraceCause) (r : Result A TraceCause) (behind : Option TraceCause)
    → result_err r ≡ behind → result_err (cond b (Err c) r) ≡ option_or (then_some b c) behind
test true c r behind on = refl
test false c r behind on = on

-- ---- as many words as operands

same_length : {A B : Type 0} → List A → List B → Bool
same_length [] [] = true
same_length [] (y ∷ ys) = false
same_length (x ∷ xs) [] = false
same_length (x ∷ xs) (y ∷ ys) = same_length xs ys

lengths : {A B : Type 0} (xs : List A) (ys : List B) → (length xs == length ys) ≡ same_length xs ys
unfolding same_length
lengths [] [] = refl
lengths [] (y ∷ ys) = eqb-zero-suc (length ys)
lengths (x ∷ xs) [] = eqb-suc-zero (length xs)
lengths (x ∷ xs) (y ∷ ys) = eqb-suc-suc (length xs) (length ys) ∙ lengths xs ys

as_many_rules : (ws : List (List ℕ)) → same_length (map (λ w. a_rule) ws) ws ≡ true
unfolding same_length
as_many_rules [] = refl
as_many_rules (w ∷ ws) = as_many_rules ws

-- ---- operations

or_none : {X : Type 0} (a : Option X) → option_or a None ≡ a
or_none None = refl
or_none (Some x) = refl

-- the rows of the operands of an operation, and those behind them
abbrev operand_rows : Keyword → List ℕ → List (List ℕ) → Option TraceCause → Option TraceCause
operand_rows k first ws behind = option_or (first_fault first (operands (heads.Op k) ws) ws) behind

-- a mode that is read with the key in front of it
mode_behind : (key mode : List ℕ) (k : KeyKind) → key_at key ≡ Ok k
    → result_err (mode_at k mode) ≡ result_err (key_at key >>= λ j. mode_at j mode)
mode_behind key mode k is = ap (λ (r : Result KeyKind TraceCause). result_err (r >>= λ j. mode_at j mode)) (sym is)

rule_rows : (before : List ℕ) (ws : List (List ℕ))
    → result_err (rules_at ws) ≡ first_fault before (map (λ w. a_rule) ws) ws
rule_rows before [] = refl
rule_rows before (w ∷ ws) = after (rule_at w) _ _ λ r _.
    after (rules_at ws) _ None (λ rs _. refl) ∙ or_none (result_err (rules_at ws)) ∙ rule_rows w ws

forged_or_not : {A : Type 0} (b : Bool) (x : A)
    → result_err (cond b (Err ForgedLetter) (Ok x)) ≡ then_some b ForgedLetter
forged_or_not true x = refl
forged_or_not false x = refl

-- no poke
no_forgery : (k : Keyword) (first name offset digits : List ℕ) → first ≡ keyword_text k
    → bytes_eq (keyword_text k) (keyword_text keys.Poke) ≡ false
    → None ≡ then_some (are_forged (first ∷ name ∷ offset ∷ digits ∷ [])) ForgedLetter
no_forgery k first name offset digits is other = sym (ap by (ap is_poke is ∙ other))
  where
    is_poke : List ℕ → Bool
    is_poke w = bytes_eq w (keyword_text keys.Poke)

    by : Bool → Option TraceCause
    by b = then_some
        (b && is_ok_and (offset_at offset) (λ o. is_ok_and (hex_at digits) (λ bytes. is_forged o bytes))) ForgedLetter

-- a poke that is read
forgery : (first name offset digits : List ℕ) (o : ℤ) (bytes : List ℕ) → first ≡ keyword_text keys.Poke
    → offset_at offset ≡ Ok o → hex_at digits ≡ Ok bytes
    → then_some (is_forged o bytes) ForgedLetter
    ≡ then_some (are_forged (first ∷ name ∷ offset ∷ digits ∷ [])) ForgedLetter
forgery first name offset digits o bytes is at_offset at_digits = sym
    (ap (λ (w : List ℕ). then_some (are_forged (w ∷ name ∷ offset ∷ digits ∷ [])) ForgedLetter) is
    ∙ ap by_offset at_offset ∙ ap by_digits at_digits)
  where
    by_offset : Result ℤ TraceCause → Option TraceCause
    by_offset r = then_some (is_ok_and r (λ z. is_ok_and (hex_at digits) (λ b. is_forged z b))) ForgedLetter

    by_digits : Result (List ℕ) TraceCause → Option TraceCause
    by_digits r = then_some (is_ok_and r (λ b. is_forged o b)) ForgedLetter

-- the row of the last operand
abbrev rest : List ℕ → Option TraceCause
rest most = option_or (result_err (most_at most)) None

stats_rows : (first name key mode most : List ℕ) → result_err (stats_at name key mode most)
    ≡ operand_rows keys.Stats first (name ∷ key ∷ mode ∷ most ∷ []) None
unfolding stats_at
stats_rows first name key mode most =
    step (name_at name) _ _ _ λ _ _. step (key_at key) _ _ _ λ k is.
    step (mode_at k mode) _ (rest most) None (λ _ _. step (most_at most) _ _ _ λ _ _. refl)
    ∙ ap (λ (o : Option TraceCause). option_or (option_or o (rest most)) None) (mode_behind key mode k is)

compare_rows : (first new old key mode most : List ℕ) → result_err (compare_at new old key mode most)
    ≡ operand_rows keys.Compare first (new ∷ old ∷ key ∷ mode ∷ most ∷ []) None
unfolding compare_at
compare_rows first new old key mode most =
    step (name_at new) _ _ _ λ _ _. step (name_at old) _ _ _ λ _ _. step (key_at key) _ _ _ λ k is.
    step (mode_at k mode) _ (rest most) None (λ _ _. step (most_at most) _ _ _ λ _ _. refl)
    ∙ ap (λ (o : Option TraceCause). option_or (option_or o (rest most)) None) (mode_behind key mode k is)

-- the rows of the words behind a keyword: their number, each of them, and the forged letter
abbrev action_rows : Keyword → List ℕ → List (List ℕ) → Option TraceCause
action_rows k first ws =
    option_or (then_some (not (same_length (operands (heads.Op k) ws) ws)) BadWords)
    (operand_rows k first ws (then_some (are_forged (first ∷ ws)) ForgedLetter))

no_rules : (first name : List ℕ) → first ≡ keyword_text keys.Keep
    → None ≡ then_some (are_forged (first ∷ name ∷ [])) ForgedLetter
no_rules first name is = refl

keep_rows : (first new old : List ℕ) (rules : List (List ℕ)) → first ≡ keyword_text keys.Keep
    → result_err (keep_at new old rules) ≡ action_rows keys.Keep first (new ∷ old ∷ rules)
unfolding keep_at same_length
keep_rows first new old rules is =
    (step (name_at new) _ _ _ λ _ _. step (name_at old) _ _ _ λ _ _.
    after (rules_at rules) _ None (λ rs _. refl) ∙ (λ i. option_or (rule_rows old rules i) (unforged rules i)))
    ∙ ap (λ (b : Bool). option_or (then_some (not b) BadWords)
    (operand_rows keys.Keep first (new ∷ old ∷ rules)
    (then_some (are_forged (first ∷ new ∷ old ∷ rules)) ForgedLetter)))
    (sym (as_many_rules rules))
  where
    unforged : (ws : List (List ℕ)) → None ≡ then_some (are_forged (first ∷ new ∷ old ∷ ws)) ForgedLetter
    unforged [] = refl
    unforged (w ∷ []) = no_forgery keys.Keep first new old w is refl
    unforged (w ∷ x ∷ ws) = refl

op_rows : (k : Keyword) (first : List ℕ) (ws : List (List ℕ)) → first ≡ keyword_text k
    → result_err (action_at k ws) ≡ action_rows k first ws
unfolding action_at same_length malloc_at calloc_at realloc_at free_at poke_at peek_at enter_at go_to_at
    start_tracing_at mark_at unmark_at origin_at snapshot_at dump_at refuse_at
op_rows keys.Acquire first (w ∷ ws) is = refl
op_rows keys.Acquire first [] is = refl
op_rows keys.Release first (w ∷ ws) is = refl
op_rows keys.Release first [] is = refl
op_rows keys.Malloc first [] is = refl
op_rows keys.Malloc first (w ∷ []) is = refl
op_rows keys.Malloc first (w ∷ x ∷ []) is = refl
op_rows keys.Malloc first (w ∷ x ∷ y ∷ z ∷ ws) is = refl
op_rows keys.Malloc first (letter ∷ name ∷ size ∷ []) is =
    step (letter_at letter) _ _ _ λ _ _. step (name_at name) _ _ _ λ _ _. step (number_at size) _ _ _ λ _ _.
    no_forgery keys.Malloc first letter name size is refl
op_rows keys.Calloc first [] is = refl
op_rows keys.Calloc first (w ∷ []) is = refl
op_rows keys.Calloc first (w ∷ x ∷ []) is = refl
op_rows keys.Calloc first (w ∷ x ∷ y ∷ []) is = refl
op_rows keys.Calloc first (w ∷ x ∷ y ∷ z ∷ v ∷ ws) is = refl
op_rows keys.Calloc first (letter ∷ name ∷ count ∷ size ∷ []) is =
    step (letter_at letter) _ _ _ λ _ _. step (name_at name) _ _ _ λ _ _. step (number_at count) _ _ _ λ _ _.
    step (number_at size) _ _ _ λ _ _. refl
op_rows keys.Realloc first [] is = refl
op_rows keys.Realloc first (w ∷ []) is = refl
op_rows keys.Realloc first (w ∷ x ∷ []) is = refl
op_rows keys.Realloc first (w ∷ x ∷ y ∷ z ∷ ws) is = refl
op_rows keys.Realloc first (letter ∷ name ∷ size ∷ []) is =
    step (letter_at letter) _ _ _ λ _ _. step (name_at name) _ _ _ λ _ _. step (number_at size) _ _ _ λ _ _.
    no_forgery keys.Realloc first letter name size is refl
op_rows keys.Free first [] is = refl
op_rows keys.Free first (w ∷ []) is = refl
op_rows keys.Free first (w ∷ x ∷ y ∷ ws) is = refl
op_rows keys.Free first (letter ∷ name ∷ []) is =
    step (letter_at letter) _ _ _ λ _ _. step (name_at name) _ _ _ λ _ _. refl
op_rows keys.Poke first [] is = refl
op_rows keys.Poke first (w ∷ []) is = refl
op_rows keys.Poke first (w ∷ x ∷ []) is = refl
op_rows keys.Poke first (w ∷ x ∷ y ∷ z ∷ ws) is = refl
op_rows keys.Poke first (name ∷ offset ∷ digits ∷ []) is =
    step (name_at name) _ _ _ λ u _. step (offset_at offset) _ _ _ λ o at_offset.
    step (hex_at digits) _ _ _ λ bytes at_digits.
    forged_or_not (is_forged o bytes) (poke name o bytes)
    ∙ forgery first name offset digits o bytes is at_offset at_digits
op_rows keys.Peek first [] is = refl
op_rows keys.Peek first (w ∷ []) is = refl
op_rows keys.Peek first (w ∷ x ∷ []) is = refl
op_rows keys.Peek first (w ∷ x ∷ y ∷ z ∷ ws) is = refl
op_rows keys.Peek first (name ∷ offset ∷ count ∷ []) is =
    step (name_at name) _ _ _ λ _ _. step (offset_at offset) _ _ _ λ _ _. step (count_at count) _ _ _ λ _ _.
    no_forgery keys.Peek first name offset count is refl
op_rows keys.Call first [] is = refl
op_rows keys.Call first (w ∷ []) is = refl
op_rows keys.Call first (w ∷ x ∷ y ∷ ws) is = refl
op_rows keys.Call first (file ∷ line ∷ []) is =
    step (file_at file) _ _ _ λ _ _. step (line_number_at line) _ _ _ λ _ _. refl
op_rows keys.Line first [] is = refl
op_rows keys.Line first (w ∷ x ∷ ws) is = refl
op_rows keys.Line first (line ∷ []) is =
    step (line_number_at line) _ _ _ λ _ _. refl
op_rows keys.Return first (w ∷ ws) is = refl
op_rows keys.Return first [] is = refl
op_rows keys.Start first [] is = refl
op_rows keys.Start first (w ∷ x ∷ ws) is = refl
op_rows keys.Start first (limit ∷ []) is =
    step (limit_at limit) _ _ _ λ _ _. refl
op_rows keys.Stop first (w ∷ ws) is = refl
op_rows keys.Stop first [] is = refl
op_rows keys.Clear first (w ∷ ws) is = refl
op_rows keys.Clear first [] is = refl
op_rows keys.ResetPeak first (w ∷ ws) is = refl
op_rows keys.ResetPeak first [] is = refl
op_rows keys.Traced first (w ∷ ws) is = refl
op_rows keys.Traced first [] is = refl
op_rows keys.Mark first [] is = refl
op_rows keys.Mark first (w ∷ []) is = refl
op_rows keys.Mark first (w ∷ x ∷ []) is = refl
op_rows keys.Mark first (w ∷ x ∷ y ∷ z ∷ ws) is = refl
op_rows keys.Mark first (domain ∷ number ∷ size ∷ []) is =
    step (domain_at domain) _ _ _ λ _ _. step (number_at number) _ _ _ λ _ _. step (number_at size) _ _ _ λ _ _.
    no_forgery keys.Mark first domain number size is refl
op_rows keys.Unmark first [] is = refl
op_rows keys.Unmark first (w ∷ []) is = refl
op_rows keys.Unmark first (w ∷ x ∷ y ∷ ws) is = refl
op_rows keys.Unmark first (domain ∷ number ∷ []) is =
    step (domain_at domain) _ _ _ λ _ _. step (number_at number) _ _ _ λ _ _. refl
op_rows keys.Where first [] is = refl
op_rows keys.Where first (w ∷ x ∷ ws) is = refl
op_rows keys.Where first (name ∷ []) is =
    step (name_at name) _ _ _ λ _ _. refl
op_rows keys.Snapshot first [] is = refl
op_rows keys.Snapshot first (w ∷ x ∷ ws) is = refl
op_rows keys.Snapshot first (name ∷ []) is =
    step (name_at name) _ _ _ λ _ _. refl
op_rows keys.Keep first [] is = refl
op_rows keys.Keep first (w ∷ []) is = refl
op_rows keys.Keep first (new ∷ old ∷ rules) is = keep_rows first new old rules is
op_rows keys.Stats first [] is = refl
op_rows keys.Stats first (w ∷ []) is = refl
op_rows keys.Stats first (w ∷ x ∷ []) is = refl
op_rows keys.Stats first (w ∷ x ∷ y ∷ []) is = refl
op_rows keys.Stats first (w ∷ x ∷ y ∷ z ∷ v ∷ ws) is = refl
op_rows keys.Stats first (name ∷ key ∷ mode ∷ most ∷ []) is = stats_rows first name key mode most
op_rows keys.Compare first [] is = refl
op_rows keys.Compare first (w ∷ []) is = refl
op_rows keys.Compare first (w ∷ x ∷ []) is = refl
op_rows keys.Compare first (w ∷ x ∷ y ∷ []) is = refl
op_rows keys.Compare first (w ∷ x ∷ y ∷ z ∷ []) is = refl
op_rows keys.Compare first (w ∷ x ∷ y ∷ z ∷ v ∷ u ∷ ws) is = refl
op_rows keys.Compare first (new ∷ old ∷ key ∷ mode ∷ most ∷ []) is = compare_rows first new old key mode most
op_rows keys.Dump first [] is = refl
op_rows keys.Dump first (w ∷ x ∷ ws) is = refl
op_rows keys.Dump first (name ∷ []) is =
    step (name_at name) _ _ _ λ _ _. refl
op_rows keys.Heap first (w ∷ ws) is = refl
op_rows keys.Heap first [] is = refl
op_rows keys.Refuse first [] is = refl
op_rows keys.Refuse first (w ∷ []) is = refl
op_rows keys.Refuse first (w ∷ x ∷ y ∷ ws) is = refl
op_rows keys.Refuse first (side ∷ number ∷ []) is =
    step (side_at side) _ _ _ λ _ _. step (refusal_at number) _ _ _ λ _ _. refl

-- there is room, or not
room_or : {A : Type 0} (b : Bool) (x : A)
    → result_err (cond b (Ok x) (Err TooMany)) ≡ option_or (then_some (not b) TooMany) None
room_or true x = refl
room_or false x = refl

-- what its action adds to the trace
add_rows : (t : PlainTrace) (a : Action) → result_err (add t a)
    ≡ option_or (then_some (not (has_frame (open_frames t.tracks) a)) NoFrame)
    (option_or (then_some (not (has_room t a && keeps_few (open_frames t.tracks) a)) TooMany) None)
add_rows t a = test (not (has_frame (open_frames t.tracks) a)) NoFrame _ _
    (room_or (has_room t a && keeps_few (open_frames t.tracks) a) (record t { tracks = with_action t.tracks a }))

-- ---- tracks and picks

abbrev is_among : List PlainTrack → Name → Bool
is_among ts name = list_any (λ track. bytes_eq track.name name) ts

-- a name is looked for among the tracks
index_rows : (ts : List PlainTrack) (name : Name)
    → result_err (index_of ts name) ≡ then_some (not (is_among ts name)) NoTrack
index_rows [] name = refl
index_rows (t ∷ ts) name = by (bytes_eq t.name name) (index_rows ts name)
  where
    by : (b : Bool) → result_err (index_of ts name) ≡ then_some (not (is_among ts name)) NoTrack
        → result_err (cond b (Ok 0) (index_of ts name >>= λ i. Ok (i + 1)))
        ≡ then_some (not (b || is_among ts name)) NoTrack
    by true rest = refl
    by false rest = after (index_of ts name) _ None (λ i _. refl) ∙ or_none (result_err (index_of ts name)) ∙ rest

-- the rows behind that of empty words and a wrong number of words
abbrev item_rows : PlainTrace → List ℕ → Head → List (List ℕ) → Option TraceCause
item_rows t first h ws =
    option_or (first_fault first (operands h ws) ws)
    (option_or (then_some (are_forged (first ∷ ws)) ForgedLetter)
    (option_or (then_some (without_frame t h ws) NoFrame)
    (option_or (then_some (a_second_track t h ws) SameTrack)
    (option_or (then_some (picks_of_none t h ws) NoTrack)
    (option_or (then_some (too_many t h ws) TooMany) None)))))

start_rows : (t : PlainTrace) (first : List ℕ) (ws : List (List ℕ)) → result_err (item_at t heads.Track ws)
    ≡ option_or (then_some (not (same_length (operands heads.Track ws) ws)) BadWords) (item_rows t first heads.Track ws)
unfolding same_length
start_rows t first [] = refl
start_rows t first (w ∷ x ∷ ws) = refl
start_rows t first (name ∷ []) = step (name_at name) _ _ _ λ _ _.
    test (has_track t name) SameTrack _ _ (room_or (nat_lt (length t.tracks) MAX_TRACKS) (with_track t name))

pick_rows : (t : PlainTrace) (first : List ℕ) (ws : List (List ℕ)) → result_err (item_at t heads.Pick ws)
    ≡ option_or (then_some (not (same_length (operands heads.Pick ws) ws)) BadWords) (item_rows t first heads.Pick ws)
unfolding pick_at same_length
pick_rows t first [] = refl
pick_rows t first (w ∷ []) = refl
pick_rows t first (w ∷ x ∷ y ∷ ws) = refl
pick_rows t first (name ∷ times ∷ []) = step (name_at name) _ _ _ λ _ _. step (times_at times) _ _ _ λ n at_times.
    after (index_of t.tracks name) _ _ (λ i _. room_or (nat_le (pick_count t.picks + n) MAX_PICKS) (picked i n))
    ∙ (λ i. option_or (index_rows t.tracks name i)
    (option_or (then_some (is_ok_and (sym at_times i) no_room) TooMany) None))
  where
    picked : ℕ → ℕ → PlainTrace
    picked i n = record t { picks = t.picks ++ (i, n) ∷ [] }

    no_room : ℕ → Bool
    no_room n = not (nat_le (pick_count t.picks + n) MAX_PICKS)

-- ---- operations of a line

operation_rows : (t : PlainTrace) (first : List ℕ) (k : Keyword) (ws : List (List ℕ)) → first ≡ keyword_text k
    → result_err (item_at t (heads.Op k) ws)
    ≡ option_or (then_some (not (same_length (operands (heads.Op k) ws) ws)) BadWords)
    (item_rows t first (heads.Op k) ws)
operation_rows t first k ws is =
    let number = then_some (not (same_length (operands (heads.Op k) ws) ws)) BadWords in
    let fault = first_fault first (operands (heads.Op k) ws) ws in
    let forged = then_some (are_forged (first ∷ ws)) ForgedLetter in
    let behind = later (action_at k ws) in
    after (action_at k ws) (add t) behind (λ a read. add_rows t a ∙ (λ i. later (sym read i)))
    ∙ (λ i. option_or (op_rows k first ws is i) behind)
    ∙ or_assoc number (option_or fault forged) behind
    ∙ ap (option_or number) (or_assoc fault forged behind)
  where
    later : Result Action TraceCause → Option TraceCause
    later r =
        option_or (then_some (is_ok_and r (λ a. not (has_frame (open_frames t.tracks) a))) NoFrame)
        (option_or (then_some (is_ok_and r (λ a. not (has_room t a && keeps_few (open_frames t.tracks) a))) TooMany)
        None)

each_item_rows : (t : PlainTrace) (first : List ℕ) (h : Head) (ws : List (List ℕ)) → first ≡ head_text h
    → result_err (item_at t h ws)
    ≡ option_or (then_some (not (same_length (operands h ws) ws)) BadWords) (item_rows t first h ws)
each_item_rows t first heads.Track ws is = start_rows t first ws
each_item_rows t first heads.Pick ws is = pick_rows t first ws
each_item_rows t first (heads.Op k) ws is = operation_rows t first k ws is

-- ---- a whole line

keyword_fault : (ks : List Keyword) (w : List ℕ)
    → result_err (keyword_among ks w) ≡ then_some (is_err (keyword_among ks w)) UnknownWord
keyword_fault [] w = refl
keyword_fault (k ∷ ks) w = by (bytes_eq w (keyword_text k)) (keyword_fault ks w)
  where
    by : (b : Bool) → result_err (keyword_among ks w) ≡ then_some (is_err (keyword_among ks w)) UnknownWord
        → result_err (cond b (Ok k) (keyword_among ks w))
        ≡ then_some (is_err (cond b (Ok k) (keyword_among ks w))) UnknownWord
    by true rest = refl
    by false rest = rest

-- the one cause of a first word
head_fault : (w : List ℕ) → result_err (head_at w) ≡ then_some (is_err (head_at w)) UnknownWord
head_fault w = by (bytes_eq w (head_text heads.Track)) (bytes_eq w (head_text heads.Pick)) (keyword_among keywords w)
    (keyword_fault keywords w)
  where
    by : (b c : Bool) (r : Result Keyword TraceCause) → result_err r ≡ then_some (is_err r) UnknownWord
        → result_err (cond b (Ok heads.Track) (cond c (Ok heads.Pick) (r >>= λ k. Ok (heads.Op k))))
        ≡ then_some (is_err (cond b (Ok heads.Track) (cond c (Ok heads.Pick) (r >>= λ k. Ok (heads.Op k))))) UnknownWord
    by true c r rest = refl
    by false true r rest = refl
    by false false (Ok k) rest = refl
    by false false (Err c) rest = rest

word_rows : (t : PlainTrace) (words : List (List ℕ)) → result_err (words_at t words) ≡ first_cause (word_causes t words)
word_rows t [] = refl
word_rows t (first ∷ ws) = by (head_at first) refl (head_fault first)
  where
    -- the rows, of what the first word begins
    rows : Result Head TraceCause → Option TraceCause
    rows r =
        option_or (then_some (is_err r) UnknownWord)
        (option_or (then_some (is_ok_and r (λ h. is_misplaced t h)) Misplaced)
        (option_or (then_some (is_ok_and r (λ h. wrong_in_number h ws)) BadWords)
        (option_or (option_and_then (λ h. first_fault first (operands h ws) ws) (result_ok r))
        (option_or (then_some (are_forged (first ∷ ws)) ForgedLetter)
        (option_or (then_some (is_ok_and r (λ h. without_frame t h ws)) NoFrame)
        (option_or (then_some (is_ok_and r (λ h. a_second_track t h ws)) SameTrack)
        (option_or (then_some (is_ok_and r (λ h. picks_of_none t h ws)) NoTrack)
        (option_or (then_some (is_ok_and r (λ h. too_many t h ws)) TooMany) None))))))))

    number : (h : Head) (b : Bool) → first ≡ head_text h
        → result_err (cond b (Err BadWords) (item_at t h ws))
        ≡ option_or (then_some (b || not (length (operands h ws) == length ws)) BadWords) (item_rows t first h ws)
    number h true is = refl
    number h false is = each_item_rows t first h ws is
        ∙ ap (λ (b : Bool). option_or (then_some (not b) BadWords) (item_rows t first h ws))
        (sym (lengths (operands h ws) ws))

    by : (r : Result Head TraceCause) → head_at first ≡ r → result_err r ≡ then_some (is_err r) UnknownWord
        → result_err (r >>= λ h. cond (is_misplaced t h) (Err Misplaced)
        (cond (list_any is_empty ws) (Err BadWords) (item_at t h ws)))
        ≡ rows r
    by (Err c) is unknown = unknown
    by (Ok h) is unknown =
        test (is_misplaced t h) Misplaced _ _ (number h (list_any is_empty ws) (head_takes first h is))

pub line_rows : (t : PlainTrace) (line : List ℕ) → result_err (line_at t line) ≡ first_cause (causes t line)
unfolding line_at
line_rows t line = by (list_all (is_between 32 126) line) (slice_split (λ b. b == 32) line)
  where
    by : (b : Bool) (words : List (List ℕ)) → result_err (cond b (words_at t words) (Err BadByte))
        ≡ option_or (then_some (not b) BadByte) (first_cause (word_causes t words))
    by true words = word_rows t words
    by false words = refl

-- ---- the law

fault_is : {A : Type 0} (r : Result A TraceCause) (c : TraceCause) → (r ≡ Err c) ↔ (result_err r ≡ Some c)
fault_is (Ok x) c = (λ e. absurd cc, λ e. absurd cc)
fault_is (Err d) c = (λ e. cc, λ e. cc)

pub first_row_is_cause : (t : PlainTrace) (line : List ℕ) (c : TraceCause)
    → (line_at t line ≡ Err c) ↔ (first_cause (causes t line) ≡ Some c)
first_row_is_cause t line c =
    let is = fault_is (line_at t line) c in
    (λ e. sym (line_rows t line) ∙ is.0 e, λ e. is.1 (line_rows t line ∙ e))
