-- When a size is too great, when a call has a fault, and when a source may be asked.
use Rattle.std.proofs.Common.{◌≡◌, ℕ, ◌<◌, ◌≤◌, ◌⊎◌, inl, inr, Option, Some, None, refl, sym, ◌∙◌, arith}
use Rattle.mem_base.specs.declared.reply.Fault.{Fault}
use Rattle.request_model.specs.Decision.{max_size, max_data, Decision, too_great, faults, asks}
use Rattle.request_model.specs.Laws.{TooGreatExactly, FaultsExactly, AsksExactly}
use Rattle.request_model.proofs.CallerLemmas.{Decides, over_all, faulty, over_data, within, decides}

none_is_some : (o : Option Fault) (f : Fault) → o ≡ None → o ≡ Some f → ⊥
none_is_some o f none some = absurd cc

great_for : (n : ℕ) (fault : Option Fault) (d : Decision) → Decides n fault d → d ≡ too_great → (max_size < n) ⊎ ((max_data < n) × (fault ≡ None))
great_for n fault too_great (over_all great) is = inl great
great_for n fault (faults _) (faulty found fits some) is = absurd cc
great_for n fault too_great (over_data great none) is = inr (great, none)
great_for n fault asks (within fits none) is = absurd cc

great_where : (n : ℕ) (fault : Option Fault) (d : Decision) → Decides n fault d → (max_size < n) ⊎ ((max_data < n) × (fault ≡ None)) → d ≡ too_great
great_where n fault too_great (over_all great) why = refl
great_where n fault (faults _) (faulty found fits some) why = elim why [ inl great ↦ absurd (omega arith) | inr w ↦ absurd (none_is_some fault found w.1 some) ]
great_where n fault too_great (over_data great none) why = refl
great_where n fault asks (within fits none) why = elim why [ inl great ↦ absurd (omega arith) | inr w ↦ absurd (omega (arith, w.0)) ]

pub too_great_exactly : TooGreatExactly
too_great_exactly v n locked found =
    let d = decides v n locked found in
    (great_for n _ _ d, great_where n _ _ d)

faults_for : (n : ℕ) (fault : Option Fault) (d : Decision) (f : Fault) → Decides n fault d → d ≡ faults f → (n ≤ max_size) × (fault ≡ Some f)
faults_for n fault too_great f (over_all great) is = absurd cc
faults_for n fault (faults _) f (faulty found fits some) is =
    let same : found ≡ f = cc in
    (fits, some ∙ (λ i. Some (same i)))
faults_for n fault too_great f (over_data great none) is = absurd cc
faults_for n fault asks f (within fits none) is = absurd cc

faults_where : (n : ℕ) (fault : Option Fault) (d : Decision) (f : Fault) → Decides n fault d → (n ≤ max_size) × (fault ≡ Some f) → d ≡ faults f
faults_where n fault too_great f (over_all great) why = absurd (omega (arith, why.0))
faults_where n fault (faults _) f (faulty found fits some) why =
    let same : Some found ≡ Some f = sym some ∙ why.1 in
    let inner : found ≡ f = cc in
    (λ i. faults (inner i))
faults_where n fault too_great f (over_data great none) why = absurd (none_is_some fault f none why.1)
faults_where n fault asks f (within fits none) why = absurd (none_is_some fault f none why.1)

pub faults_exactly : FaultsExactly
faults_exactly v n locked found f =
    let d = decides v n locked found in
    (faults_for n _ _ f d, faults_where n _ _ f d)

asks_for : (n : ℕ) (fault : Option Fault) (d : Decision) → Decides n fault d → d ≡ asks → (n ≤ max_data) × (fault ≡ None)
asks_for n fault too_great (over_all great) is = absurd cc
asks_for n fault (faults _) (faulty found fits some) is = absurd cc
asks_for n fault too_great (over_data great none) is = absurd cc
asks_for n fault asks (within fits none) is = (fits, none)

asks_where : (n : ℕ) (fault : Option Fault) (d : Decision) → Decides n fault d → (n ≤ max_data) × (fault ≡ None) → d ≡ asks
asks_where n fault too_great (over_all great) why = absurd (omega (arith, why.0))
asks_where n fault (faults _) (faulty found fits some) why = absurd (none_is_some fault found why.1 some)
asks_where n fault too_great (over_data great none) why = absurd (omega (arith, why.0))
asks_where n fault asks (within fits none) why = refl

pub asks_exactly : AsksExactly
asks_exactly v n locked found =
    let d = decides v n locked found in
    (asks_for n _ _ d, asks_where n _ _ d)
