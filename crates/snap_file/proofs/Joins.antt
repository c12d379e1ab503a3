-- The words of a line, one after the other with a blank between.
use Rattle.std.proofs.Common.{◌≡◌, ℕ, List, [], ◌∷◌, ◌++◌, map, sym, ap, ◌∙◌, append_assoc}
use Rattle.std.proofs.Common.{append-nil}
use Rattle.std.specs.Prelude.{codes, decimal}
use Rattle.std.specs.List.{flat_map, join_with_byte}
use Rattle.std.proofs.lemmas.Grind.{flat_map-append}
use Rattle.std.proofs.lemmas.List.Folds.{flat_map-map}
use Rattle.frame_model.specs.Frames.{PlainFrame}
use Rattle.trace_model.specs.Spelling.{blank, line_end, with_end}
use Rattle.snapshot_model.specs.Snapshots.{PlainRow, PlainSnapshot, domain_of}
use Rattle.dump_model.specs.Spelling.{dump_text, frame_word, header, key_word, last_line, limit_line, row_line}
use Rattle.snap_file.specs.Words.{key_words, next_frame}

-- frames behind a word
frames_join : (front : List ℕ) (fs : List PlainFrame) → join_with_byte blank (front ∷ map frame_word fs) ≡ front ++ flat_map next_frame fs
frames_join front [] = sym (append-nil front)
frames_join front (f ∷ fs) = ap (λ (l : List ℕ). front ++ blank ∷ l) (frames_join (frame_word f) fs)

-- pieces that were added one after the other
regroup : (o a d k s t fs e : List ℕ)
    → ((((((o ++ a) ++ (d ++ k)) ++ s) ++ t) ++ fs) ++ e) ≡ o ++ ((a ++ (d ++ (k ++ (s ++ (t ++ fs))))) ++ e)
regroup o a d k s t fs e = simp (append_assoc)

-- the pieces of a trace's line
pub row_pieces : (row : PlainRow) (o0 o1 o2 o3 o4 o5 o6 : List ℕ)
    → o1 ≡ o0 ++ codes "trace" → o2 ≡ o1 ++ key_words row.key → o3 ≡ o2 ++ blank ∷ decimal row.size
    → o4 ≡ o3 ++ blank ∷ decimal row.total → o5 ≡ o4 ++ flat_map next_frame row.frames → o6 ≡ o5 ++ line_end ∷ []
    → o6 ≡ o0 ++ with_end (row_line row)
unfolding row_line
row_pieces row o0 o1 o2 o3 o4 o5 o6 e1 e2 e3 e4 e5 e6 =
    let dom = decimal (domain_of row.key) in
    let key = key_word row.key in
    let size = decimal row.size in
    let total = decimal row.total in
    let fs = flat_map next_frame row.frames in
    let tail : List ℕ = line_end ∷ [] in
    let spelt : row_line row ≡ codes "trace" ++ (blank ∷ (dom ++ (blank ∷ (key ++ (blank ∷ (size ++ (blank ∷ (total ++ fs)))))))) =
    ap (λ (l : List ℕ). codes "trace" ++ (blank ∷ (dom ++ (blank ∷ (key ++ (blank ∷ (size ++ (blank ∷ l)))))))) (frames_join total row.frames) in
    e6 ∙ (λ i. e5 i ++ tail) ∙ (λ i. (e4 i ++ fs) ++ tail) ∙ (λ i. ((e3 i ++ (blank ∷ total)) ++ fs) ++ tail)
    ∙ (λ i. (((e2 i ++ (blank ∷ size)) ++ (blank ∷ total)) ++ fs) ++ tail)
    ∙ (λ i. ((((e1 i ++ key_words row.key) ++ (blank ∷ size)) ++ (blank ∷ total)) ++ fs) ++ tail)
    ∙ regroup o0 (codes "trace") (blank ∷ dom) (blank ∷ key) (blank ∷ size) (blank ∷ total) fs tail
    ∙ ap (λ (l : List ℕ). o0 ++ (l ++ tail)) (sym spelt)

-- the pieces of a dump
pub dump_pieces : (s : PlainSnapshot) (o1 o2 o3 o4 : List ℕ)
    → o1 ≡ with_end header → o2 ≡ o1 ++ with_end (limit_line s.limit)
    → o3 ≡ o2 ++ flat_map (λ row. with_end (row_line row)) s.rows → o4 ≡ o3 ++ with_end last_line → o4 ≡ dump_text s
dump_pieces s o1 o2 o3 o4 e1 e2 e3 e4 =
    let limit = with_end (limit_line s.limit) in
    let rows = flat_map (λ row. with_end (row_line row)) s.rows in
    let last = with_end last_line in
    let all : flat_map with_end (map row_line s.rows ++ last_line ∷ []) ≡ rows ++ last =
    flat_map-append with_end (map row_line s.rows) (last_line ∷ [])
    ∙ (λ i. flat_map-map with_end row_line s.rows i ++ append-nil last i) in
    e4 ∙ (λ i. e3 i ++ last) ∙ (λ i. (e2 i ++ rows) ++ last) ∙ (λ i. ((e1 i ++ limit) ++ rows) ++ last)
    ∙ four (with_end header) limit rows last ∙ ap (λ (l : List ℕ). with_end header ++ (limit ++ l)) (sym all)
  where
    four : (a b c d : List ℕ) → (((a ++ b) ++ c) ++ d) ≡ a ++ (b ++ (c ++ d))
    four a b c d = simp (append_assoc)
