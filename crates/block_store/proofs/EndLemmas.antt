-- What the sources see while blocks and regions go back.
use Rattle.std.proofs.Common.{◌≡◌, List, [], refl, sym, subst, ◌∙◌}
use Rattle.extents.specs.Extent.{Extent}
use Rattle.extents.specs.Sums.{AllIn}
use Rattle.sources.specs.Holder.{AskedNothing, Traded}
use Rattle.sources.specs.Source.{SourceView}
use Rattle.sources.proofs.CallerLemmas.{traded_nothing, traded_then}
use Rattle.domain_api.specs.Held.{AreAskedNothing}
use Rattle.block_store.specs.Sources.{Rests}
use Rattle.block_store.proofs.Types.{Arenas, Raws}

asked_nothing_then : {S : Type 0} (a b c : SourceView S) → AskedNothing a b → AskedNothing b c → AskedNothing a c
asked_nothing_then a b c first second = record {
  asked = second.asked ∙ first.asked;
  refused = second.refused ∙ first.refused;
  plan = second.plan ∙ first.plan;
}

-- at the start nothing was asked, and nothing has come or gone
pub nothing_yet : (arenas : Arenas) (raws : Raws) → AreAskedNothing arenas arenas raws raws
nothing_yet arenas raws = record { arena = record { asked = refl; refused = refl; plan = refl }; raw = record { asked = refl; refused = refl; plan = refl } }

pub traded_yet : {S : Type 0} (held now : List Extent) (seen : SourceView S) → now ≡ held → AllIn now seen.out → Traded held now seen seen
traded_yet held now seen same were = subst (λ (l : List Extent). Traded l now seen seen) same (traded_nothing now now seen seen were refl refl refl refl)

-- nothing happened to a source
pub rests_same : {S : Type 0} (held now : List Extent) (seen : SourceView S) → now ≡ held → AllIn held seen.out → Rests held now seen seen
rests_same held now seen same were = record {
  nothing = record { asked = refl; refused = refl; plan = refl };
  traded = subst (λ (l : List Extent). Traded held l seen seen) (sym same) (traded_nothing held held seen seen were refl refl refl refl);
}

-- no request, and again none
pub nothing_then : (a b c : Arenas) (x y z : Raws) → AreAskedNothing a b x y → AreAskedNothing b c y z → AreAskedNothing a c x z
nothing_then a b c x y z first second = record { arena = asked_nothing_then a b c first.arena second.arena; raw = asked_nothing_then x y z first.raw second.raw }

-- one trade and then another
pub traded_on : {S : Type 0} (d e f : List Extent) (a b c : SourceView S) → Traded d e a b → Traded e f b c → Traded d f a c
traded_on d e f a b c first second = traded_then d e f a b c first second

-- what is held has gone back before
pub all_gone : {S : Type 0} (d e : List Extent) (a b c : SourceView S) → Traded d e a b → e ≡ [] → c ≡ b → Traded d [] a c
all_gone d e a b c first none same = subst (λ (l : List Extent). Traded d l a c) none (subst (Traded d e a) (sym same) first)
