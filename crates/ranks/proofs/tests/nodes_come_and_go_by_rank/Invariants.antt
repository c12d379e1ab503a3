use Rattle.ranks.proofs.tests.nodes_come_and_go_by_rank.Given as goal

abbrev pub ghosts-fronts : goal.ghosts-fronts
ghosts-fronts g a = record { name = a.blank.name; parts = a.blank.parts }
