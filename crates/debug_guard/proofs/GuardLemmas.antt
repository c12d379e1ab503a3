-- A block at the start of a piece.
use Rattle.std.proofs.Common.{◌≡◌, ℕ, ◌+◌, ◌-◌, ◌≤◌, min, List, ◌++◌, length, take, drop, replicate, refl, sym, ap, ◌∙◌, arith, append_assoc, length-append}
use Rattle.std.specs.Int.{to_be_bytes, w64}
use Rattle.std.specs.List.{refill}
use Rattle.std.proofs.lemmas.List.{take_at, drop_at, drop-drop, drop-take, take-append-drop, take-take, take_min}
use Rattle.std.proofs.lemmas.Grind.{common_steps}
use Rattle.std.proofs.Math.Seq.{take-append_seam}
use Rattle.mem_base.specs.declared.trace.Letter.{Letter}
use Rattle.block_model.specs.Block.{body_of, carried, data_of, fresh, image_of, new_byte, resized, size_of}
use Rattle.raw_region.specs.Region.{PieceView, with_bytes}
use Rattle.debug_guard.specs.Guard.{Guard, IsDressed, filled, guard_at, guard_extent, piece_of, size_word, splice}
use Rattle.extents.specs.Extent.{piece_extent}

pub length-size_word : (n : ℕ) → length (size_word n) ≡ 8
unfolding size_word
length-size_word n = refl

pub length-filled : (v : Letter) (n kept b : ℕ) (bytes : List ℕ) → kept ≤ n → kept ≤ length bytes → length (filled v n kept b bytes) ≡ n + 16
unfolding body_of
length-filled v n kept b bytes fits there = grind (arith, common_steps)

-- where nothing is kept, the block is a new one
pub filled-fresh : (v : Letter) (n b : ℕ) (bytes : List ℕ) → filled v n 0 b bytes ≡ fresh v n b
filled-fresh v n b bytes = let all : n - 0 ≡ n = omega arith in ap (λ k. body_of v (replicate k b)) all

-- the lesser of two numbers of bytes
pub take_least : (k n m : ℕ) (bytes : List ℕ) → m ≤ length bytes → k ≡ min m n → take k bytes ≡ take n (take m bytes)
take_least k n m bytes there is =
    let some = take m bytes in
    let long : length some ≡ m = grind (arith, common_steps) in
    let least : min n (length some) ≡ k = omega arith in
    sym (take-take k m bytes (omega arith)) ∙ ap (λ j. take j some) (sym least) ∙ take_min n some

-- the data of a block at the start of a piece
data_at : (bytes : List ℕ) (m : ℕ) → m + 24 ≤ length bytes → data_of (take (m + 16) (drop 8 bytes)) ≡ take m (drop 16 bytes)
data_at bytes m fits =
    let body = take (m + 16) (drop 8 bytes) in
    let size : size_of body ≡ m = grind (arith, common_steps) in
    let longer : m + 16 ≡ 8 + (m + 8) = omega arith in
    let behind : drop 8 body ≡ take (m + 8) (drop 16 bytes) = ap (λ k. drop 8 (take k (drop 8 bytes))) longer ∙ drop-take 8 (m + 8) (drop 8 bytes) ∙ ap (take (m + 8)) (drop-drop 8 8 bytes) in
    (λ i. take (size i) (behind i)) ∙ take-take m (m + 8) (drop 16 bytes) (omega arith)

-- where the lesser of two sizes is kept, the block that was there is resized
pub filled-resized : (v : Letter) (n m k b : ℕ) (bytes : List ℕ) → m + 24 ≤ length bytes → k ≡ min m n
    → filled v n k b (drop 16 bytes) ≡ resized v n b (take (m + 16) (drop 8 bytes))
filled-resized v n m k b bytes fits is =
    let there = drop 16 bytes in
    let size : size_of (take (m + 16) (drop 8 bytes)) ≡ m = grind (arith, common_steps) in
    let kept : take k there ≡ take n (data_of (take (m + 16) (drop 8 bytes))) = take_least k n m there (grind (arith, common_steps)) is ∙ ap (take n) (sym (data_at bytes m fits)) in
    let added : n - k ≡ n - size_of (take (m + 16) (drop 8 bytes)) = omega arith in
    λ i. body_of v (kept i ++ replicate (added i) b)

-- the image of a body with n bytes of data
image_of-is : (body : List ℕ) (n : ℕ) → length body ≡ n + 16 → image_of body ≡ size_word n ++ body
unfolding size_word
image_of-is body n long = let e : length body - 16 ≡ n = omega arith in ap (λ k. to_be_bytes w64 k ++ body) e

-- all of a piece is written over
refill_whole : (old new : List ℕ) → length new ≡ length old → refill (length old) old new ≡ new
refill_whole old new same = rw (← same) (take-append_seam new (drop (length new) old))

-- what is behind the body, counted from the body's start
rest_behind : (bytes : List ℕ) (n : ℕ) → drop (n + 16) (drop 8 bytes) ≡ drop (n + 24) bytes
rest_behind bytes n = drop-drop (n + 16) 8 bytes ∙ ap (λ k. drop k bytes) (omega arith)

-- the word, the body and the rest of a piece are the whole of it
pub parts_join : (bytes : List ℕ) (n : ℕ) → n + 24 ≤ length bytes → take 8 bytes ≡ size_word n → image_of (take (n + 16) (drop 8 bytes)) ++ drop (n + 24) bytes ≡ bytes
parts_join bytes n fits word =
    let behind = drop 8 bytes in let body = take (n + 16) behind in let rest = drop (n + 24) bytes in
    let long : length body ≡ n + 16 = grind (arith, common_steps) in
    ap (λ l. l ++ rest) (image_of-is body n long) ∙ append_assoc (size_word n) body rest
    ∙ ap (λ l. size_word n ++ (body ++ l)) (sym (rest_behind bytes n)) ∙ ap (λ l. size_word n ++ l) (take-append-drop (n + 16) behind)
    ∙ ap (λ l. l ++ behind) (sym word) ∙ take-append-drop 8 bytes

-- the piece of that view
pub piece_of-guard_at : (p : PieceView) (n : ℕ) → n + 24 ≤ length p.bytes → take 8 p.bytes ≡ size_word n → piece_of (guard_at p n) ≡ p
piece_of-guard_at p n fits word = λ i. record { place = p.place; maker = p.maker; bytes = parts_join p.bytes n fits word i }

-- a piece once a word and a body are written at its start, before the rest
pub record Dresses (old new word body rest : List ℕ) (n : ℕ) : Type 0 where
  pub word_is : take 8 (refill (length old) old new) ≡ word
  pub body_is : take (n + 16) (drop 8 (refill (length old) old new)) ≡ body
  pub rest_is : drop (n + 24) (refill (length old) old new) ≡ rest
  pub room_is : length (refill (length old) old new) ≡ length old

pub dress_parts : (old new word body rest : List ℕ) (n : ℕ) → length word ≡ 8 → length body ≡ n + 16 → length new ≡ length old → new ≡ word ++ body ++ rest → Dresses old new word body rest n
dress_parts old new word body rest n w b same is =
    let whole = refill_whole old new same in
    let e : refill (length old) old new ≡ word ++ (body ++ rest) = whole ∙ is ∙ append_assoc word body rest in
    record {
      word_is = ap (take 8) e ∙ take_at word (body ++ rest) 8 w;
      body_is = ap (λ (l : List ℕ). take (n + 16) (drop 8 l)) e ∙ ap (take (n + 16)) (drop_at word (body ++ rest) 8 w) ∙ take_at body rest (n + 16) b;
      rest_is = ap (drop (n + 24)) (whole ∙ is) ∙ drop_at (word ++ body) rest (n + 24) (omega (arith, length-append word body));
      room_is = ap length whole ∙ same;
    }

-- a body is written over, and all else stays
pub write_body-view : (p : PieceView) (n : ℕ) (body : List ℕ) → n + 24 ≤ length p.bytes → length body ≡ n + 16
    → guard_at (with_bytes p (take 8 p.bytes ++ (body ++ drop (n + 16) (drop 8 p.bytes)))) n ≡ record (guard_at p n) { body = body }
write_body-view p n body fits long =
    let word = take 8 p.bytes in let rest = drop (n + 16) (drop 8 p.bytes) in let new = word ++ (body ++ rest) in
    let word_long : length word ≡ 8 = grind (arith, common_steps) in
    let same : length new ≡ length p.bytes = grind (arith, common_steps) in
    let d = dress_parts p.bytes new word body rest n word_long long same (sym (append_assoc word body rest)) in
    λ i. record { place = p.place; maker = p.maker; body = d.body_is i; rest = (d.rest_is ∙ rest_behind p.bytes n) i }

-- ---- another size in place

-- a block that was resized in place, in the piece with these bytes
pub record Resizes (p : PieceView) (was : Guard) (new : List ℕ) (v : Letter) (n : ℕ) : Type 0 where
  pub dressed : IsDressed (with_bytes p new) n
  pub body_is : take (n + 16) (drop 8 (refill (length p.bytes) p.bytes new)) ≡ resized v n new_byte was.body
  pub rest_is : drop (n + 24) (refill (length p.bytes) p.bytes new) ≡ drop (n + 24) (piece_of was).bytes
  pub extent_is : guard_extent (guard_at (with_bytes p new) n) ≡ guard_extent was

pub resize_parts : (p : PieceView) (was : Guard) (bytes new : List ℕ) (v : Letter) (n m k : ℕ) → guard_at p m ≡ was → IsDressed p m → bytes ≡ p.bytes
    → n + 24 ≤ length (piece_of was).bytes → k ≡ min m n → length new ≡ length bytes → new ≡ size_word n ++ filled v n k new_byte (drop 16 bytes) ++ drop (n + 24) bytes
    → Resizes p was new v n
resize_parts p was bytes new v n m k view old start fits is same written =
    let whole : piece_of was ≡ p = ap piece_of (sym view) ∙ piece_of-guard_at p m old.room old.word in
    let all : (piece_of was).bytes ≡ p.bytes = ap (λ (q : PieceView). q.bytes) whole in
    let long = ap length start in let room = old.room in
    let room_new : n + 24 ≤ length p.bytes = omega (arith, fits, ap length all) in
    let kept : k ≤ length (drop 16 bytes) = grind (arith, common_steps) in
    let d = dress_parts p.bytes new _ _ _ n (length-size_word n) (length-filled v n k new_byte (drop 16 bytes) (omega (arith, is)) kept) (same ∙ long) written in
    let dressed : IsDressed (with_bytes p new) n = record { word = d.word_is; room = omega (arith, d.room_is, room_new); small = omega (arith, d.room_is, old.small) } in
    record {
      dressed = dressed;
      body_is = d.body_is ∙ ap (λ (l : List ℕ). filled v n k new_byte (drop 16 l)) start ∙ filled-resized v n m k new_byte p.bytes old.room is ∙ ap (λ (g : Guard). resized v n new_byte g.body) view;
      rest_is = d.rest_is ∙ ap (drop (n + 24)) (start ∙ sym all);
      extent_is = ap piece_extent (piece_of-guard_at (with_bytes p new) n dressed.room dressed.word) ∙ (λ i. record { place = p.place; len = d.room_is i; maker = p.maker }) ∙ ap piece_extent (sym whole);
    }

-- ---- data from another block

-- the size of a block at the start of a piece
pub size_at : (p : PieceView) (m : ℕ) → m + 24 ≤ length p.bytes → (size_of (guard_at p m).body ≡ m) × (16 ≤ length (guard_at p m).body)
size_at p m fits = (grind (arith, common_steps), grind (arith, common_steps))

-- the first bytes of another block's data, as many as both blocks have, written over a body's data
pub splice-carried : (other body seen : List ℕ) (k m n : ℕ) → seen ≡ other → k ≡ min m n → size_of other ≡ m → size_of body ≡ n → 16 ≤ length other
    → splice body 8 (take (k + 8 - 8) (drop 8 seen)) ≡ carried other body
splice-carried other body seen k m n same is from to long =
    let count : k + 8 - 8 ≡ k = omega arith in
    let there : m ≤ length (drop 8 other) = grind (arith, common_steps) in
    let some : take (k + 8 - 8) (drop 8 seen) ≡ take (size_of body) (data_of other) =
    (λ i. take (count i) (drop 8 (same i))) ∙ take_least k n m (drop 8 other) there is ∙ (λ i. take (sym to i) (take (sym from i) (drop 8 other))) in
    ap (splice body 8) some

pub length-carried : (other body : List ℕ) → 16 ≤ length body → length (carried other body) ≡ length body
length-carried other body long = grind (arith, common_steps)

-- another body of the same length leaves the stretch of memory
pub same_stretch : (g : Guard) (body : List ℕ) → length body ≡ length g.body → guard_extent (record g { body = body }) ≡ guard_extent g
same_stretch g body same =
    let len : length (piece_of (record g { body = body })).bytes ≡ length (piece_of g).bytes = grind (arith, common_steps) in
    λ i. record { place = g.place; len = len i; maker = g.maker }
