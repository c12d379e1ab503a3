mod DomainLemmas
