-- Keys compared frame by frame.
use Rattle.std.proofs.Common.{◌≡◌, ℕ, zero, suc, ◌<◌, ◌≤◌, List, [], ◌∷◌, length, drop, refl, sym, ap}
use Rattle.std.proofs.Common.{◌∙◌, arith, drop-cons}
use Rattle.std.specs.declared.cmp.Ordering.{Ordering}
use Rattle.std.specs.declared.cmp.Ordering.TheVariants.{Less, Greater}
use Rattle.std.specs.Ordering.{ordering_then, nat_cmp}
use Rattle.std.specs.Cmp.Lexicographic.{slice_cmp}
use Rattle.std.proofs.lemmas.Cmp.{nat_list_cmp_total, tied_itself}
use Rattle.mem_base.specs.declared.reply.Frame.{Frame}
use Rattle.snapshot_model.specs.Stats.{key_cmp}
use Rattle.frame_model.specs.Frames.{frames_of}

-- files of one name tie
pub same_files : (a b : List ℕ) (o : Ordering) → a ≡ b → o ≡ ordering_then (slice_cmp nat_cmp a b) o
same_files a b o e =
    sym (ap (λ (r : Ordering). ordering_then r o) (tied_itself nat_list_cmp_total a))
    ∙ ap (λ (k : List ℕ). ordering_then (slice_cmp nat_cmp a k) o) e

pub gone : {X : Type 0} (xs : List X) (n : ℕ) → length xs ≤ n → drop n xs ≡ []
gone [] zero h = refl
gone [] (suc n) h = refl
gone (x ∷ xs) zero h = absurd (omega arith)
gone (x ∷ xs) (suc n) h = gone xs n (omega arith)

pub longer : (texts : List (List ℕ)) (d : Frame) (a b : List Frame) (i : ℕ) → i < length a → length b ≤ i → Greater ≡ key_cmp (frames_of texts (drop i a)) (frames_of texts (drop i b))
longer texts d a b i h g =
    let p = sym (drop-cons a i d h) in
    let q = sym (gone b i g) in
    λ j. key_cmp (frames_of texts (p j)) (frames_of texts (q j))

pub shorter : (texts : List (List ℕ)) (d : Frame) (a b : List Frame) (i : ℕ) → length a ≤ i → i < length b → Less ≡ key_cmp (frames_of texts (drop i a)) (frames_of texts (drop i b))
shorter texts d a b i h g =
    let p = sym (gone a i h) in
    let q = sym (drop-cons b i d g) in
    λ j. key_cmp (frames_of texts (p j)) (frames_of texts (q j))
